use Rattle.std.proofs.Common.{◌≡◌, List, ℕ, subst}
use Rattle.std.specs.Prelude.{IfOk}
use Rattle.bz_stacks.proofs.KeptSums.{text_read}
use Rattle.bz_stacks.proofs.folded.Folded.text.Goals as goal

pub returns-clause-ok : goal.returns-clause-ok
returns-clause-ok c = rw (← c.self.view_is) (subst (λ (all : List ℕ). IfOk c.text_of.result (λ text. text.items ≡ all)) (text_read c.self.inside.sums c.len-count.ensures.ordered) c.text_of.ensures.ok)
