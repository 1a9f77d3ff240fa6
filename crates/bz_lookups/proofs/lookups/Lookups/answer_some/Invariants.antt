use Rattle.std.proofs.Common.{length}
use Rattle.bz_lookups.proofs.TogetherLemmas.{Puts}
use Rattle.bz_lookups.proofs.lookups.Lookups.answer_some.Given as goal

-- the answers at the last indices were put, and those at the others are lent
abbrev pub invariant-loop-answer : goal.invariant-loop-answer
invariant-loop-answer l = Puts l.self l.indices l.fn.answers.items l.answers.items l.lent.items

-- fewer are lent
abbrev pub decreases-loop-answer : goal.decreases-loop-answer
decreases-loop-answer l = length l.lent.items
