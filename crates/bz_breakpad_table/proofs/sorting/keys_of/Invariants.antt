use Rattle.std.proofs.Common.{◌≡◌, ◌++◌, drop}
use Rattle.bz_breakpad_table.specs.FunctionKeys.{keys_from}
use Rattle.bz_breakpad_table.proofs.sorting.keys_of.Given as goal

-- the keys so far, and then those from the index on
abbrev pub invariant-loop-index : goal.invariant-loop-index
invariant-loop-index l = l.keys.items ++ keys_from l.index (drop l.index l.functions) ≡ keys_from 0 l.functions
