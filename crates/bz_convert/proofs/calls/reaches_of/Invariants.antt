use Rattle.std.proofs.Common.{map}
use Rattle.bz_breakpad.specs.Lent.{inlinee_seen}
use Rattle.bz_convert.proofs.ReachLemmas.{AreReachesTo}
use Rattle.bz_convert.proofs.calls.reaches_of.Given as goal

-- the reaches of the calls so far
abbrev pub invariant-loop-call : goal.invariant-loop-call
invariant-loop-call l = AreReachesTo (map inlinee_seen l.calls) l.call-index l.reaches.items l.last
