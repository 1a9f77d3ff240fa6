use Rattle.std.proofs.Common.{◌≡◌, ◌≤◌, ◌-◌, map, drop}
use Rattle.bz_breakpad.specs.Lent.{inlinee_seen}
use Rattle.bz_convert.proofs.OverlapLemmas.{first_over}
use Rattle.bz_convert.proofs.calls.overlap.Given as goal

-- no call so far is over the one in front of it
abbrev pub invariant-loop-index : goal.invariant-loop-index
invariant-loop-index l = record {
  low : 1 ≤ l.index;
  seen : first_over (map inlinee_seen (drop (l.index - 1) l.calls)) ≡ first_over (map inlinee_seen l.calls);
}
