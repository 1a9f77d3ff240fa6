use Rattle.std.proofs.Common.{◌≡◌, map, take}
use Rattle.bz_breakpad_table.specs.Kept.{kept_public}
use Rattle.bz_breakpad.specs.Listed.{lent_public}
use Rattle.bz_breakpad.proofs.publics.lend_publics.Given as goal

-- the records so far
abbrev pub invariant-loop-public : goal.invariant-loop-public
invariant-loop-public l = map lent_public l.lent.items ≡ map (kept_public l.bytes) (take l.public-index l.publics)
