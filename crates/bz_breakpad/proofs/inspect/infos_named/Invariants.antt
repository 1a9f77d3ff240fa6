use Rattle.std.proofs.Common.{◌≡◌, map, take}
use Rattle.bz_breakpad_lines.specs.Table.{Table}
use Rattle.bz_breakpad_table.specs.Sorted.{StandsFor}
use Rattle.bz_breakpad.specs.Inspect.{info_of, infos_of, named}
use Rattle.bz_breakpad.proofs.inspect.infos_named.Given as goal

-- what is told of the first functions of the name
abbrev pub invariant-loop-index : goal.invariant-loop-index
invariant-loop-index l = (table : Table) → StandsFor l.bytes table l.kept → map info_of l.infos.items ≡ named l.name (take l.index (infos_of table.functions))
