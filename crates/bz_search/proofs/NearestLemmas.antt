-- The record that the search by `nearest_covering` gives is the one that `IsNearestCovering` describes,
-- and the only one.
use Rattle.std.proofs.Common.{◌≡◌, ◌⊎◌, ℕ, zero, suc, ◌<◌, ◌≤◌, true, false, nat_le, List, [], ◌∷◌, Option, Some, None, option_and_then, refl, sym, ap, subst, ◌∙◌, arith}
use Rattle.std.specs.List.{slice_get}
use Rattle.std.proofs.lemmas.Bool.{cond_both}
use Rattle.std.proofs.lemmas.Bool.Decides.{nat_tests}
use Rattle.bz_search.specs.Span.{covers}
use Rattle.bz_search.specs.Nearest.{IsCandidate, IsNearestCovering, comes_first, first_of, candidate, if_covers, nearest_covering}

module _ {X : Type 0} (start size : X → ℕ) where
  -- a place has one record
  same_some : (x y : X) → Some x ≡ Some y → x ≡ y
  same_some x y same = cc

  -- a record at one place is to be tried before one at another, which doesn't start above the address
  record IsBefore (addr : ℕ) (x : X) (place : ℕ) (y : X) (i : ℕ) : Type 0 where
    closest : start y ≤ start x
    smallest_at : start x ≡ addr → start y ≡ start x → (size x < size y) ⊎ ((size x ≡ size y) × (place ≤ i))
    largest_below : start x < addr → start y ≡ start x → (size y < size x) ⊎ ((size y ≡ size x) × (i ≤ place))

  -- a record is before itself
  before_itself : (addr : ℕ) (x : X) (place : ℕ) → IsBefore addr x place x place
  before_itself addr x place = record { closest = omega arith; smallest_at = λ exact same. grind arith; largest_below = λ below same. grind arith }

  -- of two records, each before the other, the places are the same
  same_place : (addr : ℕ) (x : X) (place : ℕ) (y : X) (i : ℕ) → start x ≤ addr → IsBefore addr x place y i → IsBefore addr y i x place → place ≡ i
  same_place addr x place y i not_above before after = grind (arith, before.closest, before.smallest_at, before.largest_below, after.closest, after.smallest_at, after.largest_below)

  module _ (addr : ℕ) (x y : X) (place : ℕ) (not_above : start y ≤ addr) where
    -- a record that the test prefers doesn't start above the address
    first_not_above : comes_first start size addr x y ≡ true → start x ≤ addr
    first_not_above first = grind (arith, nat_tests)

    -- it is before all that the record after it is before
    first_before : comes_first start size addr x y ≡ true → (z : X) (i : ℕ) → start z ≤ addr → IsBefore addr y place z i → IsBefore addr x 0 z (suc i)
    first_before first z i within before = record {
      closest = grind (arith, nat_tests, before.closest);
      smallest_at = λ exact same. grind (arith, nat_tests, before.smallest_at);
      largest_below = λ below same. grind (arith, nat_tests, before.largest_below);
    }

    -- a record that the test doesn't prefer comes after the other, unless it starts above the address
    later_before : comes_first start size addr x y ≡ false → start x ≤ addr → IsBefore addr y (suc place) x 0
    later_before later within = record {
      closest = grind (arith, nat_tests);
      smallest_at = λ exact same. grind (arith, nat_tests);
      largest_below = λ below same. grind (arith, nat_tests);
    }

    -- a record stays before another when one is put in front of both
    shifted_before : (z : X) (i : ℕ) → IsBefore addr y place z i → IsBefore addr y (suc place) z (suc i)
    shifted_before z i before = record {
      closest = before.closest;
      smallest_at = λ exact same. grind (arith, before.smallest_at exact same);
      largest_below = λ below same. grind (arith, before.largest_below below same);
    }

  -- a record is before all that don't start above the address
  abbrev BeforeAll : ℕ → List X → X → ℕ → Type 0
  BeforeAll addr records x place = (i : ℕ) (y : X) → slice_get records i ≡ Some y → start y ≤ addr → IsBefore addr x place y i

  -- a record is before all if it is before the first and before the others
  before_all : (addr : ℕ) (x : X) (xs : List X) (first : X) (place : ℕ) → (start x ≤ addr → IsBefore addr first place x 0) → ((i : ℕ) (y : X) → slice_get xs i ≡ Some y → start y ≤ addr → IsBefore addr first place y (suc i)) → BeforeAll addr (x ∷ xs) first place
  before_all addr x xs first place head rest zero y at within = let same = same_some x y at in subst (λ w. start w ≤ addr → IsBefore addr first place w 0) same head within
  before_all addr x xs first place head rest (suc i) y at within = rest i y at within

  -- a record that is before all is the candidate
  candidate_from_before : (addr : ℕ) (records : List X) (x : X) (place : ℕ) → slice_get records place ≡ Some x → start x ≤ addr → BeforeAll addr records x place → IsCandidate start size records addr place x
  candidate_from_before addr records x place there not_above before = record {
    there = there;
    not_above = not_above;
    closest = λ i y at within. (before i y at within).closest;
    smallest_at = λ exact i y at same. (before i y at (omega arith)).smallest_at exact same;
    largest_below = λ below i y at same. (before i y at (omega arith)).largest_below below same;
  }

  -- the candidate is before all
  before_from_candidate : (addr : ℕ) (records : List X) (x : X) (place : ℕ) → IsCandidate start size records addr place x → BeforeAll addr records x place
  before_from_candidate addr records x place found i y at within = record {
    closest = found.closest i y at within;
    smallest_at = λ exact same. found.smallest_at exact i y at same;
    largest_below = λ below same. found.largest_below below i y at same;
  }

  -- the record is the candidate at some place; with no record, each starts above the address
  abbrev Finds : ℕ → List X → Option X → Type 0
  Finds addr records (Some x) = (place : ℕ) × IsCandidate start size records addr place x
  Finds addr records None = (i : ℕ) (y : X) → slice_get records i ≡ Some y → addr < start y

  -- where none of the others fits, the first record is the candidate, unless it starts above the
  -- address
  first_of_none : (addr : ℕ) (x : X) (xs : List X) → Finds addr xs None → Finds addr (x ∷ xs) (first_of start size addr x None)
  first_of_none addr x xs none = cond_both (nat_le (start x) addr) (Some x) None (Finds addr (x ∷ xs))
      (λ within. (0, candidate_from_before addr (x ∷ xs) x 0 refl (grind (arith, nat_tests)) alone)) all_above where
        alone : BeforeAll addr (x ∷ xs) x 0
        alone = before_all addr x xs x 0 (λ _. before_itself addr x 0) (λ i y at below. absurd (omega (arith, none i y at)))

        all_above : nat_le (start x) addr ≡ false → Finds addr (x ∷ xs) None
        all_above above zero y at = subst (λ w. addr < start w) (same_some x y at) (grind (arith, nat_tests))
        all_above above (suc i) y at = none i y at

  -- of the first record and the candidate among the others, the one that the test prefers is the
  -- candidate
  first_of_some : (addr : ℕ) (x : X) (xs : List X) (y : X) → Finds addr xs (Some y) → Finds addr (x ∷ xs) (first_of start size addr x (Some y))
  first_of_some addr x xs y found = cond_both (comes_first start size addr x y) (Some x) (Some y) (Finds addr (x ∷ xs))
      (λ first. (0, candidate_from_before addr (x ∷ xs) x 0 refl (first_not_above addr x y found.0 found.1.not_above first) (x_before first)))
      (λ later. (suc found.0, candidate_from_before addr (x ∷ xs) y (suc found.0) found.1.there found.1.not_above (y_before later))) where
        y_before_rest : BeforeAll addr xs y found.0
        y_before_rest = before_from_candidate addr xs y found.0 found.1

        x_before : comes_first start size addr x y ≡ true → BeforeAll addr (x ∷ xs) x 0
        x_before first = before_all addr x xs x 0 (λ _. before_itself addr x 0)
            (λ i z at within. first_before addr x y found.0 found.1.not_above first z i within (y_before_rest i z at within))

        y_before : comes_first start size addr x y ≡ false → BeforeAll addr (x ∷ xs) y (suc found.0)
        y_before later = before_all addr x xs y (suc found.0) (later_before addr x y found.0 found.1.not_above later)
            (λ i z at within. shifted_before addr x y found.0 found.1.not_above z i (y_before_rest i z at within))

  -- putting a record in front keeps that the search finds the candidate
  first_of_finds : (addr : ℕ) (x : X) (xs : List X) (rest : Option X) → Finds addr xs rest → Finds addr (x ∷ xs) (first_of start size addr x rest)
  first_of_finds addr x xs None found = first_of_none addr x xs found
  first_of_finds addr x xs (Some y) found = first_of_some addr x xs y found

  -- the search finds the candidate, or each record starts above the address
  candidate_finds : (addr : ℕ) (records : List X) → Finds addr records (candidate start size addr records)
  candidate_finds addr [] = λ i y at. cc
  candidate_finds addr (x ∷ xs) = first_of_finds addr x xs (candidate start size addr xs) (candidate_finds addr xs)

  -- the record that the search gives is the candidate at some place
  pub candidate_is : (addr : ℕ) (records : List X) (x : X) → candidate start size addr records ≡ Some x → (place : ℕ) × IsCandidate start size records addr place x
  candidate_is addr records x found = subst (Finds addr records) found (candidate_finds addr records)

  -- where the search gives no record, each one starts above the address
  pub none_below : (addr : ℕ) (records : List X) → candidate start size addr records ≡ None → (i : ℕ) (y : X) → slice_get records i ≡ Some y → addr < start y
  none_below addr records none = subst (Finds addr records) none (candidate_finds addr records)

  -- where each record starts above the address, the search gives none
  pub none_from_above : (addr : ℕ) (records : List X) → ((i : ℕ) (y : X) → slice_get records i ≡ Some y → addr < start y) → candidate start size addr records ≡ None
  none_from_above addr records above = by_result (candidate start size addr records) (candidate_finds addr records) where
    by_result : (o : Option X) → Finds addr records o → o ≡ None
    by_result None found = refl
    by_result (Some x) found = absurd (omega (arith, above found.0 x found.1.there, found.1.not_above))

  -- there is one candidate at most: two are at the same place
  pub candidate_place : (addr : ℕ) (records : List X) (p q : ℕ) (x y : X) → IsCandidate start size records addr p x → IsCandidate start size records addr q y → p ≡ q
  candidate_place addr records p q x y first second =
      same_place addr x p y q first.not_above
      (before_from_candidate addr records x p first q y second.there second.not_above)
      (before_from_candidate addr records y q second p x first.there first.not_above)

  -- and are the same record
  pub candidate_only : (addr : ℕ) (records : List X) (p q : ℕ) (x y : X) → IsCandidate start size records addr p x → IsCandidate start size records addr q y → x ≡ y
  candidate_only addr records p q x y first second =
      same_some x y (sym first.there ∙ ap (slice_get records) (candidate_place addr records p q x y first second) ∙ second.there)

  -- a candidate is what the search gives
  pub candidate_again : (addr : ℕ) (records : List X) (place : ℕ) (x : X) → IsCandidate start size records addr place x → candidate start size addr records ≡ Some x
  candidate_again addr records place x is = by_result (candidate start size addr records) (candidate_finds addr records) where
    by_result : (o : Option X) → Finds addr records o → o ≡ Some x
    by_result None found = absurd (omega (arith, found place x is.there, is.not_above))
    by_result (Some y) found = ap Some (candidate_only addr records found.0 place y x found.1 is)

  -- what `nearest_covering` gives is the nearest record, if it covers the address
  pub nearest_covering_is : (addr : ℕ) (records : List X) → IsNearestCovering start size records addr (nearest_covering start size addr records)
  nearest_covering_is addr records = by_candidate (candidate start size addr records) refl where
    by_candidate : (o : Option X) → candidate start size addr records ≡ o → IsNearestCovering start size records addr (option_and_then (if_covers start size addr) o)
    by_candidate None none = λ place x is. absurd (omega (arith, none_below addr records none place x is.there, is.not_above))
    by_candidate (Some x) found = cond_both (covers (start x) (size x) addr) (Some x) None (IsNearestCovering start size records addr)
        (λ yes. let is = candidate_is addr records x found in (is.0, is.1, yes))
        (λ no place y is. let same : x ≡ y = same_some x y (sym found ∙ candidate_again addr records place y is) in
        subst (λ w. covers (start w) (size w) addr ≡ false) same no)

  -- and only that is
  pub nearest_covering_only : (addr : ℕ) (records : List X) (answer : Option X) → IsNearestCovering start size records addr answer → answer ≡ nearest_covering start size addr records
  nearest_covering_only addr records (Some x) is = rw (candidate_again addr records is.0 x is.1, is.2)
  nearest_covering_only addr records None is = by_candidate (candidate start size addr records) refl where
    by_candidate : (o : Option X) → candidate start size addr records ≡ o → None ≡ option_and_then (if_covers start size addr) o
    by_candidate None none = refl
    by_candidate (Some x) found = let place = candidate_is addr records x found in rw (is place.0 x place.1)
