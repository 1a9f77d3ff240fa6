use Rattle.std.proofs.Common.{◌≡◌, ◌++◌}
use Rattle.bz_breakpad_table.proofs.names.push_sparse.Given as goal

-- the entries so far, and then those that are left
abbrev pub invariant-loop-id : goal.invariant-loop-id
invariant-loop-id l = l.entries.items ++ l.id-iterator ≡ l.fn.entries.items ++ l.names.entries
