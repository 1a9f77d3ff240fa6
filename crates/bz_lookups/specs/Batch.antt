-- A batch whose source was looked at.
use Rattle.std.specs.Prelude.{◌≡◌, ℕ, Bool, true, false, List, map, slice_index, string_bytes, Result, Ok, refl}
use Rattle.bz_base.specs.Answer.{Answer, in_batch}
use Rattle.bz_base.specs.InputKind.{AddressKind, InFile, InTable}
use Rattle.bz_base.specs.declared.error.Error.{Error}
use Rattle.bz_base.specs.declared.types.FindSymOpts.{FindSymOpts}
use Rattle.bz_base.specs.declared.types.FindSymOpts.TheVariants as asked
use Rattle.bz_breakpad.specs.Reader.{table_in}
use Rattle.bz_lookups.specs.Formats.{breakpad_single, elf_single, gsym_single}
use Rattle.bz_lookups.specs.declared.held.ElfAddressKind.{ElfAddressKind}
use Rattle.bz_lookups.specs.declared.held.ElfAddressKind.TheVariants as kinds
use Rattle.bz_lookups.specs.declared.held.Held.{Held}
use Rattle.bz_lookups.specs.declared.held.Held.TheVariants as helds

-- what answers addresses: bytes in a format; of an ELF file also the path that names it, and the kind
-- of the addresses
pub data Version : Type 0 where
  BreakpadVersion : List ℕ → Version
  GsymVersion : List ℕ → Version
  ElfVersion : List ℕ → List ℕ → AddressKind → Version

-- the answer of a version at an address alone, or its refusal
abbrev pub single_by : Version → FindSymOpts → ℕ → Result Answer Error
single_by (BreakpadVersion bytes) opts addr = breakpad_single opts (table_in bytes) addr
single_by (GsymVersion bytes) opts addr = gsym_single opts bytes addr
single_by (ElfVersion path bytes kind) opts addr = Ok (elf_single path bytes kind addr)

-- so asked, an answer of the version may want memory: one that tells inlined calls; of an ELF file none
abbrev pub MayWantMemory : Version → FindSymOpts → Type 0
MayWantMemory (BreakpadVersion bytes) opts = opts ≡ asked.CodeInfoAndInlined
MayWantMemory (GsymVersion bytes) opts = opts ≡ asked.CodeInfoAndInlined
MayWantMemory (ElfVersion path bytes kind) opts = ⊥

-- the entry of a batch at an address, by a version; a refused address is an ignored error
abbrev pub entry_by : Version → FindSymOpts → ℕ → Answer
entry_by version opts addr = in_batch (single_by version opts addr)

-- whether a version answers addresses faster in their order. A Breakpad file reads together what some
-- of them need, in any order
abbrev pub heeds_order : Version → Bool
heeds_order (BreakpadVersion _) = false
heeds_order (GsymVersion _) = true
heeds_order (ElfVersion _ _ _) = true

-- addresses, the version of their source that answers them, how it is asked, and its answers to them,
-- in their order
pub record Batch : Type 0 where
  pub version : Version
  pub opts : FindSymOpts
  pub addrs : List ℕ
  pub answers : List Answer
  pub plain : answers ≡ map (λ addr. entry_by version opts addr) addrs

-- the batch by a version
abbrev pub batch_by : Version → FindSymOpts → List ℕ → Batch
batch_by version opts addrs = record { version = version; opts = opts; addrs = addrs; answers = map (λ addr. entry_by version opts addr) addrs; plain = refl }

-- what the version of a batch answers at an address, whether or not the batch has it
abbrev pub answer_at : Batch → ℕ → Answer
answer_at batch addr = entry_by batch.version batch.opts addr

-- and at addresses, in their order
abbrev pub answers_to : List ℕ → Batch → List Answer
answers_to addrs batch = map (λ addr. answer_at batch addr) addrs

-- and at the addresses of indices, in their order
abbrev pub answers_there : List ℕ → Batch → List Answer
answers_there indices batch = map (λ i. answer_at batch (slice_index batch.addrs i)) indices

-- the kind of the addresses that an ELF file is asked for
abbrev pub kind_of : ElfAddressKind → AddressKind
kind_of kinds.Table = InTable
kind_of kinds.File = InFile

-- the version that is held
abbrev pub version_of : Held → Version
version_of (helds.Breakpad file) = BreakpadVersion file.value
version_of (helds.Gsym table) = GsymVersion table.value
version_of (helds.GsymData context) = GsymVersion context
version_of (helds.Elf elf) = ElfVersion (string_bytes elf.path) elf.file.value (kind_of elf.kind)

-- what is held answers at each address alone
abbrev pub held_singles : FindSymOpts → Held → ℕ → Result Answer Error
held_singles opts held addr = single_by (version_of held) opts addr
