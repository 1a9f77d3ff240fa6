-- Searches in step: each takes its part of a round, and after the last round each has its place.
use Rattle.std.proofs.Common.{◌≡◌, ℕ, zero, suc, ◌+◌, ◌-◌, ◌*◌, ◌^◌, ◌/◌, ◌<◌, ◌≤◌, inl, inr, List, [], ◌∷◌, ◌++◌, length, Option, None, get_or, refl, sym, ap, subst, ◌∙◌, arith}
use Rattle.std.specs.List.{slice_index, slice_index_or, slice_set}
use Rattle.std.proofs.lemmas.Bool.{cases_lt}
use Rattle.std.proofs.lemmas.List.{get_or-set_other, get_or_append_left}
use Rattle.std.proofs.Math.Seq.{get_or-append_seam}
use Rattle.std.proofs.lemmas.Grind.{get_or-set_at}
use Rattle.std.proofs.Math.Nat.{mul-le-mul_left}
use Rattle.bz_search.specs.declared.abreast.Search.{Search}
use Rattle.bz_search.specs.Abreast.{IsSearch, Halves, Ends, low, high, remaining}
use Rattle.bz_search.specs.Starts.{NeverDescends, IsAt, AreFoundSoFar}
use Rattle.bz_search.proofs.StartsLemmas.{halved_within}
use Rattle.bz_search.proofs.SweepLemmas.{any_default}

-- what stands past the end of a list
abbrev pub none : Search
none = record { addr = 0; ends = []; beside = [] }

module _ (step : Search → Search → Type 0) (old now : List Search) (done : ℕ) where
  -- one search more has taken the step
  pub each_more : (after other : Search) → done < length old → length now ≡ length old →
      ((k : ℕ) (default : Search) → k < done → step (slice_index_or old k default) (slice_index_or now k default)) →
      ((k : ℕ) (default : Search) → done ≤ k → slice_index_or now k default ≡ slice_index_or old k default) →
      step (slice_index_or now done other) after → (k : ℕ) (default : Search) → k < done + 1 →
      step (slice_index_or old k default) (slice_index_or (slice_set now done after) k default)
  each_more after other more count stepped kept here k default within = elim (cases_lt k done) [
    | inl less ↦
        let read : get_or (slice_set now done after) k default ≡ get_or now k default = get_or-set_other now done k after default (λ e. omega arith) in
        subst (λ s. step (slice_index_or old k default) s) (sym read) (stepped k default less)
    | inr not_less ↦
        let same : k ≡ done = omega arith in
        let read : get_or (slice_set now done after) k default ≡ after = get_or-set_at now done k after default same (omega arith) in
        let was : slice_index_or now done other ≡ slice_index_or old done default = kept done other (omega arith) ∙ any_default old done default other more in
        subst (λ s. step (slice_index_or old k default) s) (sym read)
        (subst (λ i. step (slice_index_or old i default) after) (sym same) (subst (λ s. step s after) was here))
  ]

  -- the others have not yet
  pub others_kept : (after : Search) →
      ((k : ℕ) (default : Search) → done ≤ k → slice_index_or now k default ≡ slice_index_or old k default) →
      (k : ℕ) (default : Search) → done + 1 ≤ k → slice_index_or (slice_set now done after) k default ≡ slice_index_or old k default
  others_kept after kept k default later = get_or-set_other now done k after default (λ e. omega arith) ∙ kept k default (omega arith)

-- after so many rounds the search goes on, and what remains is the whole halved so often
pub record IsNarrowed (starts : List ℕ) (rounds : ℕ) (old now : Search) : Type 0 where
  pub goes_on : IsSearch starts now
  pub addr : now.addr ≡ old.addr
  pub halved : 2 ^ rounds * remaining now ≤ length starts

module _ (starts : List ℕ) where
  -- before the first round
  pub narrowed_first : (search : Search) → IsSearch starts search → IsNarrowed starts 0 search search
  narrowed_first search is = record { goes_on = is; addr = refl; halved = omega (arith, is.ordered, is.within) }

  -- after one round more
  pub narrowed_more : (rounds : ℕ) (old now after : Search) → IsNarrowed starts rounds old now → Halves starts now after →
      IsNarrowed starts (rounds + 1) old after
  narrowed_more rounds old now after is halves = record {
    goes_on = halves.goes_on;
    addr = halves.addr ∙ is.addr;
    halved =
        let m : 2 ^ (rounds + 1) * remaining after ≤ 2 ^ (rounds + 1) * (remaining now / 2) = mul-le-mul_left (2 ^ (rounds + 1)) halves.half in
        omega (arith, m, halved_within (length starts) rounds (remaining now) is.halved);
  }

  -- nothing remains once the power is greater than the whole
  none_remains : (rounds left : ℕ) → length starts < 2 ^ rounds → 2 ^ rounds * left ≤ length starts → left ≡ 0
  none_remains rounds zero enough halved = refl
  none_remains rounds (suc less) enough halved =
      let m : 2 ^ rounds * 1 ≤ 2 ^ rounds * suc less = mul-le-mul_left (2 ^ rounds) (omega arith) in absurd (omega (arith, m))

  -- so the search has its place
  pub at_end : (rounds : ℕ) (old now : Search) → length starts < 2 ^ rounds → IsNarrowed starts rounds old now →
      Ends starts old now
  at_end rounds old now enough is =
      let none = none_remains rounds (remaining now) enough is.halved in
      let i = is.goes_on in
      let meet : low now ≡ high now = omega (arith, i.ordered, none) in
      record {
        at_end = record {
          within = i.within;
          lower = λ k before. i.lower k (omega arith);
          upper = i.upper;
          above_is = i.above_is;
        };
        addr = is.addr;
      }

module _ {X : Type 0} (before after : List X) (last default : X) (k : ℕ) (pushed : after ≡ before ++ last ∷ []) where
  -- what stood before one is put at the end stands there still
  pub before_end : k < length before → slice_index_or after k default ≡ slice_index_or before k default
  before_end within = ap (λ l. get_or l k default) pushed ∙ get_or_append_left before (last ∷ []) default k within

  -- and the new one follows
  pub at_the_end : length before ≡ k → slice_index_or after k default ≡ last
  at_the_end here = ap (λ l. get_or l k default) pushed ∙ ap (λ i. get_or (before ++ last ∷ []) i default) (sym here) ∙ get_or-append_seam before last [] default

-- what holds of each, and of one put at the end, holds of each again
pub each_pushed : {X : Type 0} (P : ℕ → X → Type 0) (before after : List X) (last : X) (done : ℕ) → after ≡ before ++ last ∷ [] →
    length before ≡ done → ((k : ℕ) (default : X) → k < done → P k (slice_index_or before k default)) → P done last →
    (k : ℕ) (default : X) → k < done + 1 → P k (slice_index_or after k default)
each_pushed P before after last done pushed count each here k default within = elim (cases_lt k done) [
  | inl less ↦ subst (P k) (sym (before_end before after last default k pushed (omega (arith, count)))) (each k default less)
  | inr not_less ↦
      let same : done ≡ k = omega arith in
      subst (P k) (sym (at_the_end before after last default k pushed (omega (arith, count)))) (subst (λ i. P i last) same here)
]

-- the search that begins with all starts
pub begins : (starts : List ℕ) (addr count : ℕ) → count ≡ length starts → NeverDescends starts →
    IsSearch starts (record { addr = addr; ends = count ∷ 0 ∷ []; beside = 0 ∷ 0 ∷ [] })
begins starts addr count all sorted = record {
  sorted = sorted;
  ordered = omega arith;
  within = omega (arith, all);
  lower = λ k before. absurd (omega arith);
  upper = λ k after within. absurd (omega (arith, all));
  above_is = λ after. absurd (omega (arith, all));
}

module _ (starts : List ℕ) (searches : List Search) (old places after : List (Option ℕ)) (done : ℕ) (found : Option ℕ) (count : length places ≡ length old + done) (pushed : after ≡ places ++ found ∷ []) where
  -- the places of earlier groups are kept
  pub kept_more : ((k : ℕ) → k < length old → slice_index_or places k None ≡ slice_index_or old k None) →
      (k : ℕ) → k < length old → slice_index_or after k None ≡ slice_index_or old k None
  kept_more kept k within = before_end places after found None k pushed (omega (arith, count)) ∙ kept k within

  -- and one search more has its place
  pub placed_more : (other : Search) → done < length searches →
      ((k : ℕ) (default : Search) → k < done → IsAt starts (slice_index_or searches k default).addr (slice_index_or places (length old + k) None)) →
      IsAt starts (slice_index_or searches done other).addr found → (k : ℕ) (default : Search) → k < done + 1 →
      IsAt starts (slice_index_or searches k default).addr (slice_index_or after (length old + k) None)
  placed_more other more before now k default within = elim (cases_lt k done) [
    | inl less ↦
        subst (IsAt starts (slice_index_or searches k default).addr) (sym (before_end places after found None (length old + k) pushed (omega (arith, count)))) (before k default less)
    | inr not_less ↦
        let same : done ≡ k = omega arith in
        let search : slice_index_or searches done other ≡ slice_index_or searches k default = any_default searches done default other more ∙ ap (λ i. slice_index_or searches i default) same in
        subst (IsAt starts (slice_index_or searches k default).addr) (sym (at_the_end places after found None (length old + k) pushed (omega (arith, count))))
        (subst (λ s. IsAt starts s.addr found) search now)
  ]

-- after a group each address so far has its place
pub group_found : (starts addrs : List ℕ) (searches : List Search) (old new : List (Option ℕ)) →
    length new ≡ length old + length searches →
    ((k : ℕ) → k < length old → slice_index_or new k None ≡ slice_index_or old k None) →
    ((k : ℕ) (default : Search) → k < length searches → IsAt starts (slice_index_or searches k default).addr (slice_index_or new (length old + k) None)) →
    ((k : ℕ) (default : Search) → k < length searches → (slice_index_or searches k default).addr ≡ slice_index addrs (length old + k)) →
    AreFoundSoFar starts addrs old → AreFoundSoFar starts addrs new
group_found starts addrs searches old new count kept found for before k within = elim (cases_lt k (length old)) [
  | inl earlier ↦ subst (IsAt starts (slice_index addrs k)) (sym (kept k earlier)) (before k earlier)
  | inr later ↦
      let e : length old + (k - length old) ≡ k = omega arith in
      let less : k - length old < length searches = omega (arith, count) in
      subst (λ (i : ℕ). IsAt starts (slice_index addrs i) (slice_index_or new i None)) e
      (subst (λ (a : ℕ). IsAt starts a (slice_index_or new (length old + (k - length old)) None)) (for (k - length old) none less) (found (k - length old) none less))
]
