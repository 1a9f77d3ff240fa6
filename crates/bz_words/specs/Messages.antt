-- What standard error says of a run, without the end of its last line.
use Rattle.std.specs.Prelude.{◌≡◌, ◌≢◌, ◌<◌, ◌↔◌, ◌⊎◌, ℕ, List, ◌++◌, codes, decimal, Option, Some, None, option_and_then}
use Rattle.bz_base.specs.InputKind.{InFile}
use Rattle.bz_breakpad_table.specs.Refusals.{IsRefusal}
use Rattle.bz_breakpad_table.specs.declared.refused.Refused.{Refused}
use Rattle.bz_breakpad_table.specs.declared.refused.Refused.TheVariants.{Line, NoEnd, Empty}
use Rattle.bz_files.specs.Looked.{ReadsOne}
use Rattle.bz_files.specs.World.{World, Present, entry_at}
use Rattle.bz_files.specs.declared.files.Files as files_trait
use Rattle.bz_files.specs.declared.stamp.Stamp.{Stamp}
use Rattle.bz_requests.specs.Requests.{Breakpad, Elf, Gsym}
use Rattle.bz_symq.specs.declared.status.Status.{Status}
use Rattle.bz_symq.specs.declared.status.Status.TheVariants as statuses
use Rattle.bz_words.specs.Command.{Batch, Canonical, Command, Converted, Job, Make, Stacks, command_in}
use Rattle.bz_words.specs.declared.failed.Failed.{Failed}

-- a line about what lies at a path
abbrev pub line_about : List ℕ → List ℕ → List ℕ
line_about path said = codes "symq: " ++ (path ++ (codes ": " ++ said))

-- why a file is no Breakpad file
abbrev pub said_of : Refused → List ℕ
said_of (Line number) = codes "line " ++ (decimal number ++ codes ": no Breakpad record, or out of place")
said_of NoEnd = codes "the last line has no end"
said_of Empty = codes "no lines"

-- the path of the file that a job reads as a Breakpad file, as a whole
abbrev pub breakpad_path : Job → Option (List ℕ)
breakpad_path (Batch (Breakpad path) InFile) = Some path
breakpad_path (Make (Canonical path)) = Some path
breakpad_path (Make (Converted path)) = Some path
breakpad_path (Stacks path) = Some path
breakpad_path _ = None

-- the path of the file that the words ask to read so
abbrev pub named_file : List (List ℕ) → Option (List ℕ)
named_file words = option_and_then (λ (command : Command). breakpad_path command.job) (command_in words)

-- the line says where the bytes at a path are refused as a Breakpad file
pub record SaysOf (path bytes line : List ℕ) : Type 0 where
  pub why : Refused
  pub refusal : IsRefusal bytes (Some why)
  pub line_is : line ≡ line_about path (said_of why)

-- and the bytes are those that lie there
pub record SaysAt (path : List ℕ) (world : World) (line : List ℕ) : Type 0 where
  pub stamp : Stamp
  pub bytes : List ℕ
  pub there : entry_at world path ≡ Some (Present stamp bytes)
  pub says : SaysOf path bytes line

-- and the path is that of the file that the words ask to read as a Breakpad file
pub record SaysWhere (words : List (List ℕ)) (world : World) (line : List ℕ) : Type 0 where
  pub command : Command
  pub path : List ℕ
  pub given : command_in words ≡ Some command
  pub named : breakpad_path command.job ≡ Some path
  pub says : SaysAt path world line

-- the path of the one file that a job reads, whatever it asks of it
abbrev pub file_path : Job → Option (List ℕ)
file_path (Batch (Breakpad path) kind) = Some path
file_path (Batch (Gsym path) kind) = Some path
file_path (Batch (Elf path) kind) = Some path
file_path (Make (Canonical path)) = Some path
file_path (Make (Converted path)) = Some path
file_path (Stacks path) = Some path
file_path _ = None

-- why a file can't be read
abbrev pub IsCause : List ℕ → Type 0
IsCause cause = (cause ≡ codes "is a folder") ⊎ ((cause ≡ codes "is longer than 1 GiB") ⊎ (cause ≡ codes "reading failed"))

-- the line says why the file at a path can't be read
abbrev pub IsOnFile : List ℕ → List ℕ → Type 0
IsOnFile path line = (cause : List ℕ) × IsCause cause × (line ≡ line_about path cause)

-- and the path is that of the one file that the words ask to read
pub record IsOnNamed (words : List (List ℕ)) (line : List ℕ) : Type 0 where
  pub command : Command
  pub path : List ℕ
  pub given : command_in words ≡ Some command
  pub named : file_path command.job ≡ Some path
  pub says : IsOnFile path line

-- a line that says so, or that a file couldn't be read
abbrev pub IsAboutFile : List (List ℕ) → List ℕ → Type 0
IsAboutFile words line = (line ≡ codes "symq: reading a file failed") ⊎ IsOnNamed words line

-- the line on a failed run: which side failed, by the counts, and at which path if that is known
pub record IsAboutFailed (words : List (List ℕ)) (failed : Failed) (line : List ℕ) : Type 0 where
  -- where writes failed, standard output
  pub output : 0 < failed.output → line ≡ codes "symq: standard output: writing failed"
  -- else, where reads of standard input failed, that
  pub input : failed.output ≡ 0 → 0 < failed.input → line ≡ codes "symq: standard input: reading failed"
  -- else, where looks at files failed, the file
  pub files : failed.output ≡ 0 → failed.input ≡ 0 → 0 < failed.files → IsAboutFile words line
  -- else no side
  pub unknown : failed.output ≡ 0 → failed.input ≡ 0 → failed.files ≡ 0 → line ≡ codes "symq: reading or writing failed"

-- what a message takes of the files, before it and after it
pub record ReadsForMessage {F : Type 0} (looks : files_trait.Ghosts F) (status : Status) (before after : F) : Type 0 where
  -- one file is read at most
  pub most : ReadsOne looks before after
  -- and only of a refused run
  pub unopened : status ≢ statuses.Refused → looks.opens after ≡ looks.opens before
  -- the world is as it was
  pub worlds : looks.worlds after ≡ looks.worlds before

-- what is said is the one line that says so; nothing is said where none does
abbrev pub Tells : Option (List ℕ) → (List ℕ → Type 0) → Type 0
Tells said Says = (line : List ℕ) → (said ≡ Some line) ↔ Says line

-- a run of which nothing is said: it is done, or standard output says what is bad of the input
abbrev pub IsSilent : Status → Type 0
IsSilent statuses.Done = Unit {0}
IsSilent statuses.Input = Unit {0}
IsSilent _ = ⊥

-- a run of which something is said in any case
abbrev pub HasMessage : Status → Type 0
HasMessage statuses.Usage = Unit {0}
HasMessage statuses.Fault = Unit {0}
HasMessage statuses.Memory = Unit {0}
HasMessage _ = ⊥
