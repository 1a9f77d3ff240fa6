use Rattle.std.proofs.Common.{sym, ap, ◌∙◌, Option, ℕ}
use Rattle.std.specs.Prelude.{unwrap_or, option_copied}
use Rattle.bz_stacks.proofs.KeptSums.{sum_read}
use Rattle.bz_stacks.proofs.folded.Folded.sum.Goals as goal

pub returns-in-Some-clause-sum : goal.returns-in-Some-clause-sum
returns-in-Some-clause-sum c = rw (← c.self.view_is) (ap (λ (o : Option ℕ). unwrap_or o 0) (ap option_copied (sym c.in-Some.is) ∙ c.get.ensures.value ∙ sym (sum_read c.self.inside.sums c.args.path.now)))

pub returns-in-None-clause-sum : goal.returns-in-None-clause-sum
returns-in-None-clause-sum c = rw (← c.self.view_is) (ap (λ (o : Option ℕ). unwrap_or o 0) (ap option_copied (sym c.in-None.is) ∙ c.get.ensures.value ∙ sym (sum_read c.self.inside.sums c.args.path.now)))
