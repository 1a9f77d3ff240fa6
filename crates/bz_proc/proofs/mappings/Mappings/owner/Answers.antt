use Rattle.std.proofs.Common.{◌≡◌, ◌≤◌, ℕ, List, length, map, nat_le, true, false, rules, sym, ap, subst, ◌∙◌}
use Rattle.std.specs.List.Sorted.{IsPartitionedBy, IsPartitionPoint}
use Rattle.std.proofs.lemmas.List.Sorted.{IsPartitionPoint-from_clause}
use Rattle.bz_proc.specs.Maps.{if_begins, mapping_of, owner_in}
use Rattle.bz_proc.specs.Reach.{reached}
use Rattle.bz_proc.proofs.OwnerLemmas.{owner_at, place_searched, reached_parted}
use Rattle.bz_proc.proofs.mappings.Mappings.owner.Goals as goal

pub returns-clause-place : goal.returns-clause-place
returns-clause-place c =
    let addr = c.args.addr in
    let place = c.partition_point-place.result in
    let mappings = map mapping_of c.self.inside.entries.items in
    let ends : c.deref.result.now ≡ reached mappings = c.deref.ensures.value ∙ c.self.invariant in
    let Parted : List ℕ → Type 0 = IsPartitionedBy (λ n. nat_le n addr) in
    let Point : List ℕ → Type 0 = λ xs. IsPartitionPoint (λ n. nat_le n addr ≡ true) (λ n. nat_le n addr ≡ false) xs place in
    let point : Point c.deref.result.now =
    IsPartitionPoint-from_clause (λ n. nat_le n addr) c.deref.result.now place c.partition_point-place.ensures.partitioned
    (subst Parted (sym ends) (reached_parted addr mappings)) (λ a r f k. search rules) in
    let within : place ≤ length (reached mappings) = rw (← ends) c.partition_point-place.ensures.bound in
    c.if_begins.ensures.place
    ∙ ap (λ entries. if_begins (map mapping_of entries) addr place) c.as_slice.ensures.value
    ∙ ap (if_begins mappings addr) (place_searched addr mappings place within (subst Point ends point))
    ∙ owner_at mappings addr
    ∙ ap (λ all. owner_in all addr) c.self.view_is
