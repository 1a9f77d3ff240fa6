-- Faults of the ids of a function's line records and inlined calls, and of the texts that they name.
use Rattle.std.specs.Prelude.{◌≡◌, ℕ, Bool, true, false, ◌&&◌, ◌||◌, List, Option, Some, is_none, option_map, slice_get}
use Rattle.std.specs.Borrow.{Bor}
use Rattle.bz_breakpad_lines.specs.Names.{name_for}
use Rattle.bz_breakpad_lines.specs.Reader.{table_in}
use Rattle.bz_breakpad_lines.specs.Table.{Inlinee, SourceLine, Table}
use Rattle.bz_convert.specs.Fault.{has_zero}
use Rattle.bz_convert.specs.Plan.{has_size, located, origin_named, source_by, source_named}
use Rattle.bz_gsym_layout.specs.Plan.{Source}

-- a source file that a file lends
abbrev pub lent_source : Option (Bor (List ℕ)) × Bor (List ℕ) → Source
lent_source parts = source_by (option_map (λ (dir : Bor (List ℕ)). dir.now) parts.0, parts.1.now)

-- the test holds of a call that has a size
abbrev pub sized_with : (Inlinee → Bool) → Inlinee → Bool
sized_with test i = has_size i && test i

abbrev pub source_has_zero : Source → Bool
source_has_zero s = has_zero s.dir || has_zero s.file

module _ (table : Table) where
  abbrev pub file_has_zero : ℕ → Bool
  file_has_zero id = source_has_zero (source_named table id)

  abbrev pub row_has_zero : ℕ × SourceLine → Bool
  row_has_zero row = file_has_zero row.1.file

  abbrev pub call_has_zero : Inlinee → Bool
  call_has_zero i = has_zero (origin_named table i.origin) || file_has_zero i.call_file

-- an id names a source file, whose directory and name hold no zero byte
pub record IsCleanFile (table : Table) (id : ℕ) : Type 0 where
  pub known : is_none (located table id) ≡ false
  pub clean : file_has_zero table id ≡ false

-- an id names an origin, whose name holds none
pub record IsCleanOrigin (table : Table) (id : ℕ) : Type 0 where
  pub known : is_none (name_for id table.origins) ≡ false
  pub clean : has_zero (origin_named table id) ≡ false

-- so do the ids, from 0 on, at whose places true stands
abbrev pub AreClean : List ℕ → List Bool → List Bool → Type 0
AreClean bytes files origins = (table : Table) → table_in bytes ≡ Some table →
    ((id : ℕ) → slice_get files id ≡ Some true → IsCleanFile table id) × ((id : ℕ) → slice_get origins id ≡ Some true → IsCleanOrigin table id)
