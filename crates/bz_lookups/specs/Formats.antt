-- What each format answers, and which kinds of address it takes.
use Rattle.std.specs.Prelude.{ℕ, Bool, true, false, cond, List, [], map, Option, Some, None, Result, Ok, Err}
use Rattle.bz_base.specs.Answer.{Answer, in_batch}
use Rattle.bz_base.specs.InputKind.{AddressKind, InProcess, InTable, InFile}
use Rattle.bz_base.specs.declared.error.Error.{Error}
use Rattle.bz_base.specs.declared.error.Error.TheVariants as errors
use Rattle.bz_base.specs.declared.types.FindSymOpts.{FindSymOpts}
use Rattle.bz_breakpad.specs.Reader.{table_in}
use Rattle.bz_breakpad.specs.Plain.{plain}
use Rattle.bz_breakpad.specs.Table.{Table}
use Rattle.bz_cache.specs.FileCall.{Answering, Query, as_answer, by_version, query_asked}
use Rattle.bz_elf.specs.Segments.{segments, translated}
use Rattle.bz_gsym.specs.Plain as gsym
use Rattle.bz_gsym.specs.Version as gsym_version
use Rattle.bz_process.specs.Process.{elf_by_table}

-- a Breakpad source takes file offsets alone
abbrev pub is_in_file : AddressKind → Bool
is_in_file InFile = true
is_in_file InProcess = false
is_in_file InTable = false

-- the plain answer of a file's table at an address; bytes that have none are refused
abbrev pub breakpad_single : FindSymOpts → Option Table → ℕ → Result Answer Error
breakpad_single opts None addr = Err errors.InvalidInput
breakpad_single opts (Some table) addr = plain table opts addr

abbrev pub breakpad_answering : Answering
breakpad_answering = record { takes = is_in_file; serves = is_in_file; single = λ opts path bytes kind addr. breakpad_single opts (table_in bytes) addr }

-- a GSYM source takes virtual offsets alone: addresses as its tables have them
abbrev pub is_in_table : AddressKind → Bool
is_in_table InTable = true
is_in_table InProcess = false
is_in_table InFile = false

-- the answer of a GSYM file at an address, or its refusal
abbrev pub gsym_single : FindSymOpts → List ℕ → ℕ → Result Answer Error
gsym_single opts bytes addr = as_answer addr (gsym.plain bytes opts addr)

-- a batch of addresses, each of them answered by itself, in their order; an address that is refused is
-- an ignored error
abbrev pub gsym_batch : FindSymOpts → List ℕ → List ℕ → List Answer
gsym_batch opts bytes addrs = map (λ addr. in_batch (gsym_single opts bytes addr)) addrs

abbrev pub gsym_answering : Answering
gsym_answering = record { takes = is_in_table; serves = is_in_table; single = λ opts path bytes kind addr. gsym_single opts bytes addr }

-- an ELF source looks at its file first, whatever the kind of address. Then it answers addresses as the
-- symbol table has them, and offsets in the file
abbrev pub is_in_elf : AddressKind → Bool
is_in_elf InTable = true
is_in_elf InFile = true
is_in_elf InProcess = false

-- the address as the symbol table has it: an offset in the file goes through the load segments
abbrev pub virtual_offset : List ℕ → AddressKind → ℕ → Option ℕ
virtual_offset bytes InFile offset = translated (segments bytes) offset
virtual_offset bytes InTable addr = Some addr
virtual_offset bytes InProcess addr = Some addr

-- the answer of an ELF file at an address, which it never refuses, by its symbol table; the module is
-- the path that names it
abbrev pub elf_single : List ℕ → List ℕ → AddressKind → ℕ → Answer
elf_single path bytes kind addr = elf_by_table path bytes (virtual_offset bytes kind addr)

-- a batch of addresses, each of them answered by itself, in their order
abbrev pub elf_batch : List ℕ → List ℕ → AddressKind → List ℕ → List Answer
elf_batch path bytes kind addrs = map (λ addr. elf_single path bytes kind addr) addrs

abbrev pub elf_answering : Answering
elf_answering = record { takes = λ kind. true; serves = is_in_elf; single = λ opts path bytes kind addr. Ok (elf_single path bytes kind addr) }

-- a source that is bytes handed in
pub record HandedSource : Type 0 where
  -- their format: which refusal bytes give, and what those in it answer
  pub test : List ℕ → Option Error
  pub answering : Answering
  pub bytes : List ℕ

-- what handed-in bytes answer: another kind of address is refused first, then bytes that aren't in the
-- format
abbrev pub handed_answer : {B : Type 0} → HandedSource → FindSymOpts → Query B → Result B Error
handed_answer given opts query =
    cond (given.answering.takes query.kind) (by_version (query_asked given.test given.answering opts [] query) given.bytes) (Err errors.Unsupported)

-- GSYM bytes, handed in
abbrev pub gsym_handed : List ℕ → HandedSource
gsym_handed bytes = record { test = gsym_version.format_test; answering = gsym_answering; bytes = bytes }
