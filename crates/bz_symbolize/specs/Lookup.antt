-- What a call of a symbolizer answers, and the state that it leaves.
use Rattle.std.specs.Prelude.{ℕ, Bool, false, cond, if◌then◌else◌, List, Option, Some, None, Result, Ok, Err}
use Rattle.bz_base.specs.Answer.{Answer}
use Rattle.bz_base.specs.InputKind.{AddressKind}
use Rattle.bz_base.specs.declared.error.Error.{Error}
use Rattle.bz_base.specs.declared.error.Error.TheVariants as errors
use Rattle.bz_base.specs.declared.types.FindSymOpts.{FindSymOpts}
use Rattle.bz_files.specs.World.{World, Entry, entry_at}
use Rattle.bz_files.specs.World.Entry.{Denied, Present}
use Rattle.bz_breakpad.specs.Table.{Table}
use Rattle.bz_breakpad.specs.Reader.{table_in}
use Rattle.bz_breakpad.specs.Plain.{batch}
use Rattle.bz_elf.specs.Format as elf
use Rattle.bz_gsym.specs.Tables.{is_gsym}
use Rattle.bz_lookups.specs.Formats.{elf_batch, gsym_batch, handed_answer, is_in_elf}
use Rattle.bz_symbolize.specs.FileCall.{Query, file_answer, file_cache, file_opens}
use Rattle.bz_symbolize.specs.Sources.{SourceForm, OneFile, Handed, OneProcess, asked_of}
use Rattle.bz_symbolize.specs.State.{State}

-- what a call answers by a version; a process has none
abbrev pub answer_of : {B : Type 0} → FindSymOpts → State → SourceForm → Query B → World → Result B Error
answer_of opts state (OneFile file) query world = file_answer (asked_of file opts query) (file.cache state) file.path (entry_at world file.path)
answer_of opts state (Handed given) query world = handed_answer given opts query
answer_of opts state (OneProcess asked) query world = Err errors.Unsupported

-- the state that a call leaves: of what is asked, the kind of address alone matters to it. A process
-- has no version that is looked at here: what a call on one leaves is that of its looks.
abbrev pub state_of : State → SourceForm → AddressKind → World → State
state_of state (OneFile file) kind world =
    file.with_cache state (file_cache file.test (file.answering.takes kind) (file.cache state) file.path (entry_at world file.path))
state_of state (Handed given) kind world = state
state_of state (OneProcess asked) kind world = state

-- whether a call reads a file
abbrev pub opens_of : State → SourceForm → AddressKind → World → Bool
opens_of state (OneFile file) kind world = file_opens (file.answering.takes kind) (file.cache state) file.path (entry_at world file.path)
opens_of state (Handed given) kind world = false
opens_of state (OneProcess asked) kind world = false

-- the batch of the table, or the refusal of bytes that have none
abbrev pub by_table : FindSymOpts → List ℕ → Option Table → Result (List Answer) Error
by_table opts addrs None = Err errors.InvalidInput
by_table opts addrs (Some table) = Ok (batch table opts addrs)

-- what bytes answer to a batch as a Breakpad file
abbrev pub breakpad_answer : FindSymOpts → List ℕ → List ℕ → Result (List Answer) Error
breakpad_answer opts addrs bytes = by_table opts addrs (table_in bytes)

-- and as a GSYM file
abbrev pub gsym_answer : FindSymOpts → List ℕ → List ℕ → Result (List Answer) Error
gsym_answer opts addrs bytes = if is_gsym bytes then Ok (gsym_batch opts bytes addrs) else Err errors.InvalidData

-- what is given, unless the bytes are refused
abbrev pub unless_refused : Result (List Answer) Error → Option Error → Result (List Answer) Error
unless_refused given None = given
unless_refused given (Some e) = Err e

-- and as an ELF file that the path names: bytes that aren't one are refused first, and then the
-- addresses of a process
abbrev pub elf_answer : List ℕ → AddressKind → List ℕ → List ℕ → Result (List Answer) Error
elf_answer path kind addrs bytes =
    unless_refused (cond (is_in_elf kind) (Ok (elf_batch path bytes kind addrs)) (Err errors.Unsupported)) (elf.format_test bytes)

-- what a symbolizer that keeps nothing answers by what lies at the path of a file, where its bytes
-- answer so
abbrev pub fresh_answer : (List ℕ → Result (List Answer) Error) → Option Entry → Result (List Answer) Error
fresh_answer given None = Err errors.NotFound
fresh_answer given (Some Denied) = Err errors.PermissionDenied
fresh_answer given (Some (Present stamp bytes)) = given bytes
