use Rattle.std.proofs.Common.{◌≡◌, ℕ, true, Some, length}
use Rattle.std.specs.List.{slice_get}
use Rattle.bz_breakpad_lines.specs.Reader.{table_in}
use Rattle.bz_breakpad_lines.specs.Table.{Table}
use Rattle.bz_convert.specs.Ids.{IsCleanOrigin}
use Rattle.bz_convert.proofs.clean_ids.clean_origins.Given as goal

-- what is told of the ids so far holds
abbrev pub invariant-loop-id : goal.invariant-loop-id
invariant-loop-id l = record {
  count : length l.flags.items ≡ l.id;
  clean : (table : Table) → table_in l.file ≡ Some table → (id : ℕ) → slice_get l.flags.items id ≡ Some true → IsCleanOrigin table id;
}
