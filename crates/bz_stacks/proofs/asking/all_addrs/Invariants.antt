use Rattle.std.proofs.Common.{◌≡◌, take}
use Rattle.bz_stacks.specs.Fold.{addrs_of}
use Rattle.bz_stacks.proofs.asking.all_addrs.Given as goal

-- the addresses so far are those of the first stacks
abbrev pub invariant-loop-stack : goal.invariant-loop-stack
invariant-loop-stack l = l.addrs.items ≡ addrs_of (take l.stack-index l.stacks)
