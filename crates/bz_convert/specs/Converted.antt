-- The GSYM file of a Breakpad file, and why there is none. Both are this repository's own definitions,
-- over LLVM's format (bz_gsym).
use Rattle.std.specs.Prelude.{◌≡◌, ℕ, ◌^◌, ◌<◌, ◌≤◌, nat_lt, List, length, Option, Some, None, Result, Ok, Err, if◌then◌else◌}
use Rattle.bz_breakpad_lines.specs.Table.{Table}
use Rattle.bz_convert.specs.Fault.{fault_in}
use Rattle.bz_convert.specs.Plan.{plan}
use Rattle.bz_convert.specs.declared.error.ConvertError.{ConvertError}
use Rattle.bz_convert.specs.declared.error.ConvertError.TheVariants.{TooLarge, OutOfMemory}
use Rattle.bz_gsym_layout.specs.Layout.{layout}

-- the bytes are those that the plan of a file without a fault is laid out in, and 32 bits count them
pub record IsConversion (table : Table) (bytes : List ℕ) : Type 0 where
  pub clean : fault_in table ≡ None
  pub laid_out : bytes ≡ layout (plan table)
  pub small : length bytes < 2 ^ 32

-- a file is refused for its fault; one without a fault where 32 bits don't count the bytes of its
-- layout, which are told. Want of memory refuses any
abbrev pub Refuses : ConvertError → Option ConvertError → ℕ → Type 0
Refuses (TooLarge bytes) fault len = (fault ≡ None) × (bytes ≡ len) × (2 ^ 32 ≤ len)
Refuses OutOfMemory fault len = Unit {0}
Refuses refusal fault len = fault ≡ Some refusal

-- the bytes, if 32 bits count them; else the refusal that tells how many they are
abbrev pub if_small : List ℕ → Result (List ℕ) ConvertError
if_small bytes = if nat_lt (length bytes) (2 ^ 32) then Ok bytes else Err (TooLarge (length bytes))

-- the refusal of the file's fault; without one, what its layout's bytes give
abbrev pub unless_faulty : Option ConvertError → List ℕ → Result (List ℕ) ConvertError
unless_faulty None bytes = if_small bytes
unless_faulty (Some fault) bytes = Err fault

-- what a file is converted to, or the refusal
abbrev pub conversion : Table → Result (List ℕ) ConvertError
conversion table = unless_faulty (fault_in table) (layout (plan table))
