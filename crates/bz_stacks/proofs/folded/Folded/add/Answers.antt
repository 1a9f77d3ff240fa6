use Rattle.std.proofs.Common.{◌≡◌, ◌≤◌, ◌+◌, ◌*◌, ℕ, List, refl, sym, ap, ap₂, ◌∙◌, rules, arith}
use Rattle.std.specs.FinMap as finite
use Rattle.std.proofs.lemmas.Map.Views.{All-values-insert_entry}
use Rattle.bz_stacks.specs.Folding.{Folding, sum_at}
use Rattle.bz_stacks.specs.Stored.{kept_sums}
use Rattle.bz_stacks.proofs.KeptSums.{sum_put, folding_with}
use Rattle.bz_stacks.proofs.folded.Folded.add.Goals as goal

pub invariant_of-self-2 : goal.invariant_of-self-2
invariant_of-self-2 c = rw c.in_ok-insert.ensures.entries (All-values-insert_entry _ c.in_ok-path.path _ (λ sum. sum ≤ (c.self.inside.stacks + 1) * 4294967295) c.self.inside.sums.entries
    (λ k d within. let before = c.self.invariant k d within in omega arith) (search rules))

pub returns-clause-ok : goal.returns-clause-ok
returns-clause-ok c =
    let sums = kept_sums c.self.inside.sums in
    let path = c.in_ok-path.path.items in
    let sum : c.sum-sum.result ≡ sum_at path sums = c.sum-sum.ensures.sum ∙ ap₂ (λ (p : List ℕ) (f : Folding). sum_at p f.sums) c.as_slice.ensures.value (sym c.self.view_is) in
    rw (← c.self.view_is, ← c.in_ok-path.ensures.ok)
    (ap (folding_with (c.self.inside.stacks + 1)) (sum_put c.self.inside.sums c.insert.new.self path _ c.in_ok-insert.ensures.updates _ refl ∙ ap₂ (λ a b. finite.insert sums path (a + b)) sum (c.from.ensures ∙ c.count.ensures)))
