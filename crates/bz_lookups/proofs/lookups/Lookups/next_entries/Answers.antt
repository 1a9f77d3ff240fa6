use Rattle.std.proofs.Common.{◌≡◌, ◌∙◌, ◌++◌, [], ◌∷◌, ℕ, map, inl, inr, subst, ap, arith, rules}
use Rattle.std.specs.List.{Contains}
use Rattle.std.proofs.lemmas.Bool.{cases_lt}
use Rattle.std.proofs.lemmas.List.{map-append}
use Rattle.std.proofs.lemmas.List.Elements.{Contains-append_left, Contains-push}
use Rattle.bz_lookups.proofs.BatchLemmas.{all_and_one}
use Rattle.bz_lookups.specs.Together.{IsAmong}
use Rattle.bz_lookups.proofs.lookups.Lookups.next_entries.Goals as goal

abbrev read : ℕ × ℕ → ℕ
read e = e.1

-- the next entry is of the next index
pub loop-index-preserved : goal.loop-index-preserved
loop-index-preserved c =
    let so_far = c.loop-index.invariant in
    let items = c.loop-index.entries.items in
    let index = c.loop-index.index in
    let next : IsAmong c.args.self.now c.args.first _ index = record { from = omega (arith, so_far.count); before = omega (arith, so_far.count); there = search rules } in
    let pushed : map read c.push.new.self.items ≡ map read items ++ index ∷ [] = ap (map read) c.in_ok-push.ensures.items ∙ map-append read items (_ ∷ []) in
    record {
      among = rw pushed (all_and_one _ (map read items) index so_far.among next);
      each = λ i from before. rw pushed (elim (cases_lt i index) [
        | inl below ↦ Contains-append_left (map read items) (index ∷ []) i (so_far.each i from below)
        | inr above ↦ let same : index ≡ i = omega arith in subst (Contains (map read items ++ index ∷ [])) same (Contains-push (map read items) index)
      ]);
      count = search rules;
      most = search rules;
    }
