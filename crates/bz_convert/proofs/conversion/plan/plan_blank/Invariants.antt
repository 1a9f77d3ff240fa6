use Rattle.std.proofs.Common.{◌≡◌, Some, drop, take}
use Rattle.bz_breakpad_function.specs.InOrder.{ordered_functions}
use Rattle.bz_breakpad_lines.specs.Reader.{table_in}
use Rattle.bz_breakpad_lines.specs.Table.{Table}
use Rattle.bz_convert.specs.Fault.{fault_in, first_fault}
use Rattle.bz_convert.proofs.PlannedLemmas.{Collected}
use Rattle.bz_convert.proofs.conversion.plan.plan_blank.Given as goal

-- the functions so far have no fault, and are collected
abbrev pub invariant-loop-index : goal.invariant-loop-index
invariant-loop-index g l = record {
  clean : (table : Table) → table_in l.file ≡ Some table → first_fault table l.before (drop l.index (ordered_functions table.functions)) ≡ fault_in table;
  collected : (table : Table) → table_in l.file ≡ Some table → Collected table l.numbering (take l.index (ordered_functions table.functions)) l.functions.items;
}
