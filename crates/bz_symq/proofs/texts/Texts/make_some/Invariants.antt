use Rattle.bz_symq.specs.Texts.{MakesMore}
use Rattle.bz_symq.proofs.texts.Texts.make_some.Given as goal

-- texts more were made, of answers among the same ones
abbrev pub invariant-loop-place : goal.invariant-loop-place
invariant-loop-place l = MakesMore l.lookups l.fn.self l.self
