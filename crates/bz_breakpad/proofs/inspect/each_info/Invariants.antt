use Rattle.std.proofs.Common.{drop}
use Rattle.bz_breakpad_lines.specs.Table.{Table}
use Rattle.bz_breakpad_table.specs.Sorted.{StandsFor}
use Rattle.bz_breakpad.specs.Inspect.{CalledInTurn, infos_of}
use Rattle.bz_breakpad.proofs.inspect.each_info.Given as goal

-- calls at the functions that are left complete the calls at all of them
abbrev pub invariant-loop-index : goal.invariant-loop-index
invariant-loop-index g l =
    goal.F-IsAlwaysCallable g l.f
    × ((table : Table) → StandsFor l.bytes table l.kept → (last : _) → CalledInTurn g.F.FnMut l.f (drop l.index (infos_of table.functions)) last →
    CalledInTurn g.F.FnMut l.fn.f (infos_of table.functions) last)
