use Rattle.std.proofs.Common.{arith, ◌+◌, ◌-◌, ◌/◌, ◌≡◌}
use Rattle.bz_search.proofs.StartsLemmas.{still_halved, still_few}
use Rattle.bz_search.proofs.starts.nearest.Goals as goal

pub loop-low-preserved-then-start-addr : goal.loop-low-preserved-then-start-addr
loop-low-preserved-then-start-addr g c = let i = c.loop-low.invariant in record {
  ordered = omega arith;
  within = i.within;
  sorted = i.sorted;
  lower = λ k h. omega (arith, i.sorted k (c.loop-low.low + (c.loop-low.high - c.loop-low.low) / 2) (omega arith) (omega arith));
  upper = i.upper;
  below = λ h. let e : c.loop-low.low + (c.loop-low.high - c.loop-low.low) / 2 + 1 - 1 ≡ c.loop-low.low + (c.loop-low.high - c.loop-low.low) / 2 = omega arith in rw e c.probe-start.ensures.value;
  above = i.above;
  more = omega arith;
  halved = rw c.probe-start.ensures.step (still_halved _ _ (c.loop-low.high - c.loop-low.low) (c.loop-low.high - (c.loop-low.low + (c.loop-low.high - c.loop-low.low) / 2 + 1)) _ i.more (omega arith) i.halved);
  few = rw c.probe-start.ensures.step (still_few _ _ (c.loop-low.high - c.loop-low.low) _ i.more (omega arith) i.halved);
}

pub loop-low-preserved : goal.loop-low-preserved
loop-low-preserved g c = let i = c.loop-low.invariant in record {
  ordered = omega arith;
  within = omega arith;
  sorted = i.sorted;
  lower = i.lower;
  upper = λ k h w. omega (arith, i.sorted (c.loop-low.low + (c.loop-low.high - c.loop-low.low) / 2) k h w);
  below = i.below;
  above = λ h. c.probe-start.ensures.value;
  more = omega arith;
  halved = rw c.probe-start.ensures.step (still_halved _ _ (c.loop-low.high - c.loop-low.low) (c.loop-low.low + (c.loop-low.high - c.loop-low.low) / 2 - c.loop-low.low) _ i.more (omega arith) i.halved);
  few = rw c.probe-start.ensures.step (still_few _ _ (c.loop-low.high - c.loop-low.low) _ i.more (omega arith) i.halved);
}
