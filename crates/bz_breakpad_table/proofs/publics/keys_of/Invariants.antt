use Rattle.std.proofs.Common.{◌≡◌, ◌++◌, drop}
use Rattle.bz_breakpad_table.specs.Publics.{public_keys_from, starts_kept}
use Rattle.bz_breakpad_table.proofs.publics.keys_of.Given as goal

-- the keys so far, and then those from the index on
abbrev pub invariant-loop-index : goal.invariant-loop-index
invariant-loop-index l = l.keys.items ++ public_keys_from l.index (starts_kept (drop l.index l.publics)) ≡ public_keys_from 0 (starts_kept l.publics)
