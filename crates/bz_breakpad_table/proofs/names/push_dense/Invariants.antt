use Rattle.std.proofs.Common.{◌≡◌, ◌++◌, drop}
use Rattle.std.specs.List.{enumerate_from}
use Rattle.bz_breakpad_table.proofs.names.push_dense.Given as goal

-- the entries so far, and then those from the id on
abbrev pub invariant-loop-id : goal.invariant-loop-id
invariant-loop-id l = l.entries.items ++ enumerate_from l.id (drop l.id l.names) ≡ l.fn.entries.items ++ enumerate_from 0 l.names
