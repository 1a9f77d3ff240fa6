use Rattle.std.proofs.Common.{arith, subst, ℕ, ◌*◌, ◌≤◌, ◌<◌, ◌^◌, length, ◌≡◌}
use Rattle.std.proofs.Math.Nat.{mul-le-mul_left}
use Rattle.bz_search.proofs.AbreastLemmas.{narrowed_first, narrowed_more, at_end}
use Rattle.bz_search.proofs.StartsLemmas.{few_within}
use Rattle.bz_search.proofs.abreast.search_all.Goals as goal

pub loop-round-init : goal.loop-round-init
loop-round-init g c = record {
  narrowed = λ k d within. narrowed_first c.args.table.now _ (c.requires k d within);
  more = omega arith;
  cost = omega arith;
}

pub halve_each-requires : goal.halve_each-requires
halve_each-requires g c k d within = (c.loop-round.invariant.narrowed k d (omega arith)).goes_on

pub loop-round-preserved : goal.loop-round-preserved
loop-round-preserved g c = let i = c.loop-round.invariant in record {
  narrowed = λ k d within. narrowed_more c.args.table.now c.loop-round._round _ _ _ (i.narrowed k d within) (c.halve_each.ensures.halves k d (omega arith));
  more = omega arith;
  cost = omega arith;
}

pub returns-clause-ends : goal.returns-clause-ends
returns-clause-ends g c k d within =
    at_end c.args.table.now c.loop-round._round _ _
    (let e : c.most_probes-round-end.result ≡ c.loop-round._round = omega arith in subst (λ (n : ℕ). length c.args.table.now < 2 ^ n) e (omega (arith, c.most_probes-round-end.ensures.enough)))
    (c.loop-round.invariant.narrowed k d within)

pub returns-clause-cost : goal.returns-clause-cost
returns-clause-cost g c most enough =
    let few = few_within c.most_probes-round-end.result (length c.args.table.now) most (omega (arith, c.most_probes-round-end.ensures.needed)) enough in
    let m : length c.args.searches.now * c.loop-round._round ≤ length c.args.searches.now * most = mul-le-mul_left (length c.args.searches.now) (omega arith) in
    omega (arith, c.loop-round.invariant.cost, m)
