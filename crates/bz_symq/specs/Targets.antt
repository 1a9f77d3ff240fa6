-- Target by target: which source is asked, which addresses it takes, what it answers, and
-- why it may have no answers.
use Rattle.std.specs.Prelude.{◌≡◌, ◌⊎◌, ℕ, Bool, true, false, cond, List, Option, Some, None, Result, Err, string_bytes}
use Rattle.bz_base.specs.Answer.{Answer}
use Rattle.bz_base.specs.InputKind.{AddressKind}
use Rattle.bz_base.specs.declared.error.Error.{Error}
use Rattle.bz_base.specs.declared.error.Error.TheVariants as errors
use Rattle.bz_files.specs.World.{World, Entry, entry_at}
use Rattle.bz_files.specs.World.Entry.{Denied, Present}
use Rattle.bz_files.specs.declared.stamp.Stamp.{Stamp}
use Rattle.bz_breakpad.specs.Table.{Table}
use Rattle.bz_breakpad.specs.Grammar.{IsFile}
use Rattle.bz_elf.specs.Format.{IsFirstFailing, checks}
use Rattle.bz_elf.specs.Profile.{IsElf}
use Rattle.bz_gsym.specs.Tables.{IsGsym}
use Rattle.bz_lookups.specs.Formats.{is_in_elf, is_in_file, is_in_table}
use Rattle.bz_process.specs.Processes.{is_in_process}
use Rattle.bz_requests.specs.declared.requests.Config.{Config}
use Rattle.bz_symbolize.specs.Lookup.{breakpad_answer, elf_answer, fresh_answer, gsym_answer}
use Rattle.bz_symbolize.specs.Promise.{IsBreakpadBatch, IsElfBatch, IsGsymBatch}
use Rattle.bz_symbolize.specs.declared.source.Gsym.TheVariants as gsyms
use Rattle.bz_symbolize.specs.declared.source.Source.{Source}
use Rattle.bz_symbolize.specs.declared.source.Source.TheVariants as sources
use Rattle.bz_symq.specs.Command.{Asking, FileTarget, Breakpad, Gsym, Elf, Target, OneFile, OneProcess}
use Rattle.bz_symq.specs.Kept.{opts_in}
use Rattle.bz_symq.specs.Processes.{IsMapsCause, IsProcessBatch, IsSomeProcessBatch, TellsMappings, maps_of, process_batch}

-- Files.

-- the source that is a file's
abbrev pub IsSourceOf : FileTarget → Source → Type 0
IsSourceOf (Breakpad path) (sources.Breakpad source) = string_bytes source.path ≡ path
IsSourceOf (Gsym path) (sources.Gsym (gsyms.File source)) = string_bytes source.path ≡ path
IsSourceOf (Elf path) (sources.Elf source) = string_bytes source.path ≡ path
IsSourceOf _ _ = ⊥

-- a Breakpad file is looked at for offsets in it, a GSYM file for addresses in its
-- table, and an ELF file for all
abbrev pub file_takes : FileTarget → AddressKind → Bool
file_takes (Breakpad path) kind = is_in_file kind
file_takes (Gsym path) kind = is_in_table kind
file_takes (Elf path) kind = true

-- the kinds that its bytes answer: an ELF file those that it is looked at for, but
-- for addresses in a process
abbrev pub file_serves : FileTarget → AddressKind → Bool
file_serves (Breakpad path) kind = is_in_file kind
file_serves (Gsym path) kind = is_in_table kind
file_serves (Elf path) kind = is_in_elf kind

-- what lies at the source's path
abbrev pub file_of : FileTarget → World → Option Entry
file_of (Breakpad path) world = entry_at world path
file_of (Gsym path) world = entry_at world path
file_of (Elf path) world = entry_at world path

-- what bytes answer as those of the source, to addresses of a kind that it is looked at for
abbrev pub answer_by : FileTarget → AddressKind → Config → List ℕ → List ℕ → Result (List Answer) Error
answer_by (Breakpad path) kind config addrs bytes = breakpad_answer (opts_in config) addrs bytes
answer_by (Gsym path) kind config addrs bytes = gsym_answer (opts_in config) addrs bytes
answer_by (Elf path) kind config addrs bytes = elf_answer path kind addrs bytes

-- the bytes are in the source's format
abbrev pub IsVersion : FileTarget → List ℕ → Type 0
IsVersion (Breakpad path) bytes = (table : Table) × IsFile bytes table
IsVersion (Gsym path) bytes = IsGsym bytes
IsVersion (Elf path) bytes = IsElf bytes

-- the bytes are in the source's format, and the answers are their plain ones, each at
-- its own address, in order
abbrev pub IsBatch : FileTarget → AddressKind → Config → List ℕ → List ℕ → List Answer → Type 0
IsBatch (Breakpad path) kind config bytes addrs answers = IsBreakpadBatch (opts_in config) bytes addrs answers
IsBatch (Gsym path) kind config bytes addrs answers = IsGsymBatch (opts_in config) bytes addrs answers
IsBatch (Elf path) kind config bytes addrs answers = IsElfBatch path bytes kind addrs answers

-- this is the refusal of bytes that aren't in the source's format; of ELF bytes it is that of the first
-- check that they fail. Or it is that of ELF bytes for a kind of address that they don't answer
abbrev pub IsRefusalOf : FileTarget → AddressKind → List ℕ → Error → Type 0
IsRefusalOf (Breakpad path) kind bytes e = (e ≡ errors.InvalidInput) × ((table : Table) → IsFile bytes table → ⊥)
IsRefusalOf (Gsym path) kind bytes e = (e ≡ errors.InvalidData) × ¬ (IsGsym bytes)
IsRefusalOf (Elf path) kind bytes e = ((index : ℕ) × IsFirstFailing checks bytes index e) ⊎ (IsElf bytes × (is_in_elf kind ≡ false) × (e ≡ errors.Unsupported))

-- a file is there whose bytes are such
pub record HasFile (P : List ℕ → Type 0) (there : Option Entry) : Type 0 where
  pub stamp : Stamp
  pub bytes : List ℕ
  pub present : there ≡ Some (Present stamp bytes)
  pub such : P bytes

-- why a file has no answers: it is absent, it may not be read, or its bytes are refused
abbrev pub IsFileCause : (List ℕ → Error → Type 0) → Option Entry → Error → Type 0
IsFileCause IsRefusal None e = e ≡ errors.NotFound
IsFileCause IsRefusal (Some Denied) e = e ≡ errors.PermissionDenied
IsFileCause IsRefusal (Some (Present stamp bytes)) e = IsRefusal bytes e

-- Targets.

-- the kinds of address that a target takes; others it refuses without a look. A
-- process takes addresses in it.
abbrev pub takes : Target → AddressKind → Bool
takes (OneFile file) kind = file_takes file kind
takes (OneProcess number) kind = is_in_process kind

-- the kinds that it answers
abbrev pub serves : Target → AddressKind → Bool
serves (OneFile file) kind = file_serves file kind
serves (OneProcess number) kind = is_in_process kind

-- what it answers to addresses of a kind that it takes, asked by a symbolizer that keeps nothing, where
-- the own process has this id
abbrev pub taken_answer : Target → AddressKind → Config → List ℕ → World → ℕ → Result (List Answer) Error
taken_answer (OneFile file) kind config addrs world own = fresh_answer (answer_by file kind config addrs) (file_of file world)
taken_answer (OneProcess number) kind config addrs world own = (process_batch config number own addrs world).answer

-- and to any addresses
abbrev pub answer_to : Asking → List ℕ → World → ℕ → Result (List Answer) Error
answer_to asking addrs world own =
    cond (takes asking.target asking.kind) (taken_answer asking.target asking.kind asking.config addrs world own) (Err errors.Unsupported)

-- the target is there in the world: its file, with bytes in its format; or the text of its
-- mappings, which tells some
abbrev pub IsThere : Target → World → Type 0
IsThere (OneFile file) world = HasFile (IsVersion file) (file_of file world)
IsThere (OneProcess number) world = HasFile (TellsMappings number) (maps_of number world)

-- what is asked has answers in the world: the target answers the kind of address, and is there
pub record HasAnswers (asking : Asking) (world : World) : Type 0 where
  pub served : serves asking.target asking.kind ≡ true
  pub there : IsThere asking.target world

-- the target's answers in the world, where the own process has this id: those of its file, or by
-- the text of its mappings
abbrev pub AreAnswers : Target → AddressKind → Config → World → ℕ → List ℕ → List Answer → Type 0
AreAnswers (OneFile file) kind config world own addrs answers = HasFile (λ bytes. IsBatch file kind config bytes addrs answers) (file_of file world)
AreAnswers (OneProcess number) kind config world own addrs answers = HasFile (λ text. IsProcessBatch config number own world text addrs answers) (maps_of number world)

-- the target answers the kind of address, and these are its answers
pub record AnswersIn (asking : Asking) (world : World) (own : ℕ) (addrs : List ℕ) (answers : List Answer) : Type 0 where
  pub served : serves asking.target asking.kind ≡ true
  pub are : AreAnswers asking.target asking.kind asking.config world own addrs answers

-- the answers are those of some bytes in the format of the target's file, or of a process by
-- some text of its mappings
abbrev pub AreSomeAnswers : Target → AddressKind → Config → ℕ → List ℕ → List Answer → Type 0
AreSomeAnswers (OneFile file) kind config own addrs answers = (bytes : List ℕ) × IsBatch file kind config bytes addrs answers
AreSomeAnswers (OneProcess number) kind config own addrs answers = IsSomeProcessBatch config number own addrs answers

-- and the target answers the kind of address
pub record AnswersSome (asking : Asking) (own : ℕ) (addrs : List ℕ) (answers : List Answer) : Type 0 where
  pub served : serves asking.target asking.kind ≡ true
  pub are : AreSomeAnswers asking.target asking.kind asking.config own addrs answers

-- whatever the files tell, a file may have no answers for one of these. It is absent, may not be read,
-- or isn't in the format; or it is an ELF file that doesn't answer the kind of address
abbrev pub IsSomeFileCause : FileTarget → Error → Type 0
IsSomeFileCause file errors.NotFound = Unit {0}
IsSomeFileCause file errors.PermissionDenied = Unit {0}
IsSomeFileCause (Breakpad path) errors.InvalidInput = Unit {0}
IsSomeFileCause (Gsym path) errors.InvalidData = Unit {0}
IsSomeFileCause (Elf path) errors.InvalidData = Unit {0}
IsSomeFileCause (Elf path) errors.Unsupported = Unit {0}
IsSomeFileCause file e = ⊥

-- and a process for one of these: the text of its mappings is absent, may not be read, is
-- malformed, or tells none
abbrev pub IsSomeProcessCause : Error → Type 0
IsSomeProcessCause errors.NotFound = Unit {0}
IsSomeProcessCause errors.PermissionDenied = Unit {0}
IsSomeProcessCause errors.InvalidData = Unit {0}
IsSomeProcessCause errors.UnexpectedEof = Unit {0}
IsSomeProcessCause e = ⊥

abbrev pub IsSomeTakenCause : Target → Error → Type 0
IsSomeTakenCause (OneFile file) e = IsSomeFileCause file e
IsSomeTakenCause (OneProcess number) e = IsSomeProcessCause e

-- so what is asked may have no answers: the target doesn't take the kind of address, or
-- else it has such a cause
abbrev pub IsSomeCause : Asking → Error → Type 0
IsSomeCause asking e =
    ((takes asking.target asking.kind ≡ false) × (e ≡ errors.Unsupported))
    ⊎ ((takes asking.target asking.kind ≡ true) × IsSomeTakenCause asking.target e)

-- why a target that takes the kind of address has no answers in the world
abbrev pub IsTakenCause : Target → AddressKind → World → Error → Type 0
IsTakenCause (OneFile file) kind world e = IsFileCause (IsRefusalOf file kind) (file_of file world) e
IsTakenCause (OneProcess number) kind world e = IsFileCause (IsMapsCause number) (maps_of number world) e

-- why what is asked has no answers in the world: the target doesn't take the kind of address,
-- or else by what lies there
abbrev pub IsCause : Asking → World → Error → Type 0
IsCause asking world e =
    ((takes asking.target asking.kind ≡ false) × (e ≡ errors.Unsupported))
    ⊎ ((takes asking.target asking.kind ≡ true) × IsTakenCause asking.target asking.kind world e)
