-- The record that the search by `inner` gives is the one that `IsInner` describes, and the only one.
use Rattle.std.proofs.Common.{◌≡◌, ℕ, zero, suc, ◌<◌, ◌≤◌, true, false, ◌&&◌, nat_lt, List, [], ◌∷◌, Option, Some, None, refl, sym, ap, subst, ◌∙◌, arith}
use Rattle.std.specs.List.{slice_get}
use Rattle.std.proofs.lemmas.Bool.{cond_both}
use Rattle.std.proofs.lemmas.Bool.Decides.{nat_tests}
use Rattle.bz_search.specs.Chain.{IsInner, fits, inner_of, inner}

module _ {X : Type 0} (depth start : X → ℕ) where
  -- one is the other where both are given
  same_some : (x y : X) → Some x ≡ Some y → x ≡ y
  same_some x y same = cc

  -- a record that fits has the depth
  has_depth : (at addr : ℕ) (x : X) → fits depth start at addr x ≡ true → depth x ≡ at
  has_depth at addr x holds = grind (arith, nat_tests)

  -- and doesn't start above the address
  is_below : (at addr : ℕ) (x : X) → fits depth start at addr x ≡ true → start x ≤ addr
  is_below at addr x holds = grind (arith, nat_tests)

  -- such a record fits
  does_fit : (at addr : ℕ) (x : X) → depth x ≡ at → start x ≤ addr → fits depth start at addr x ≡ true
  does_fit at addr x d s = grind (arith, nat_tests)

  -- the record is the one to try at some place; with no record, none fits
  abbrev pub Finds : ℕ → ℕ → List X → Option X → Type 0
  Finds at addr records (Some x) = (place : ℕ) × IsInner depth start records at addr place x
  Finds at addr records None = (i : ℕ) (y : X) → slice_get records i ≡ Some y → depth y ≡ at → addr < start y

  -- the first record is the one to try where it fits and is nearer than those after it
  first_is : (at addr : ℕ) (x : X) (xs : List X) → fits depth start at addr x ≡ true →
      ((i : ℕ) (y : X) → slice_get xs i ≡ Some y → depth y ≡ at → start y ≤ addr → start y < start x) →
      IsInner depth start (x ∷ xs) at addr 0 x
  first_is at addr x xs holds nearer = record {
    there = refl;
    depth_is = has_depth at addr x holds;
    not_above = is_below at addr x holds;
    closest = closest;
    last = last;
  } where
    closest : (i : ℕ) (y : X) → slice_get (x ∷ xs) i ≡ Some y → depth y ≡ at → start y ≤ addr → start y ≤ start x
    closest zero y there d s = let same : x ≡ y = cc in omega (arith, ap start same)
    closest (suc i) y there d s = let h : start y < start x = nearer i y there d s in omega arith

    last : (i : ℕ) (y : X) → slice_get (x ∷ xs) i ≡ Some y → depth y ≡ at → start y ≡ start x → i ≤ 0
    last zero y there d s = omega arith
    last (suc i) y there d s = let h : start y < start x = nearer i y there d (omega (arith, is_below at addr x holds)) in absurd (omega arith)

  -- a record further on stays the one to try where the first isn't nearer
  later_is : (at addr : ℕ) (x : X) (xs : List X) (y : X) (place : ℕ) →
      (fits depth start at addr x && nat_lt (start y) (start x)) ≡ false → IsInner depth start xs at addr place y →
      IsInner depth start (x ∷ xs) at addr (suc place) y
  later_is at addr x xs y place fails is = record {
    there = is.there;
    depth_is = is.depth_is;
    not_above = is.not_above;
    closest = closest;
    last = last;
  } where
    not_nearer : depth x ≡ at → start x ≤ addr → start x ≤ start y
    not_nearer d s = grind (arith, nat_tests, fails)

    closest : (i : ℕ) (z : X) → slice_get (x ∷ xs) i ≡ Some z → depth z ≡ at → start z ≤ addr → start z ≤ start y
    closest zero z there d s = let same : x ≡ z = cc in subst (λ w. start w ≤ start y) same (not_nearer (ap depth same ∙ d) (omega (arith, ap start same)))
    closest (suc i) z there d s = is.closest i z there d s

    last : (i : ℕ) (z : X) → slice_get (x ∷ xs) i ≡ Some z → depth z ≡ at → start z ≡ start y → i ≤ suc place
    last zero z there d s = omega arith
    last (suc i) z there d s = let h : i ≤ place = is.last i z there d s in omega arith

  -- putting a record in front keeps that the search finds the record to try
  inner_of_finds : (at addr : ℕ) (x : X) (xs : List X) (rest : Option X) → Finds at addr xs rest →
      Finds at addr (x ∷ xs) (inner_of depth start at addr x rest)
  inner_of_finds at addr x xs None none = cond_both (fits depth start at addr x) (Some x) None (Finds at addr (x ∷ xs))
      (λ holds. (0, first_is at addr x xs holds (λ i y there d s. absurd (omega (arith, none i y there d))))) all_above where
        all_above : fits depth start at addr x ≡ false → Finds at addr (x ∷ xs) None
        all_above fails zero y there d = let same : x ≡ y = cc in subst (λ w. addr < start w) same (x_above fails (ap depth same ∙ d)) where
          x_above : fits depth start at addr x ≡ false → depth x ≡ at → addr < start x
          x_above fails d = grind (arith, nat_tests)
        all_above fails (suc i) y there d = none i y there d
  inner_of_finds at addr x xs (Some y) found = cond_both (fits depth start at addr x && nat_lt (start y) (start x)) (Some x) (Some y) (Finds at addr (x ∷ xs))
      (λ holds. (0, first_is at addr x xs (does holds) (λ i z there d s. let h : start z ≤ start y = found.1.closest i z there d s in omega (arith, nearer holds))))
      (λ fails. (suc found.0, later_is at addr x xs y found.0 fails found.1)) where
        does : (fits depth start at addr x && nat_lt (start y) (start x)) ≡ true → fits depth start at addr x ≡ true
        does holds = grind (arith, nat_tests)

        nearer : (fits depth start at addr x && nat_lt (start y) (start x)) ≡ true → start y < start x
        nearer holds = grind (arith, nat_tests)

  -- the search finds the record to try, or none fits
  pub inner_finds : (at addr : ℕ) (records : List X) → Finds at addr records (inner depth start at addr records)
  inner_finds at addr [] = λ i y there d. absurd (cc)
  inner_finds at addr (x ∷ xs) = inner_of_finds at addr x xs (inner depth start at addr xs) (inner_finds at addr xs)

  -- a record to try is what the search gives
  pub inner_again : (records : List X) (at addr place : ℕ) (x : X) → IsInner depth start records at addr place x →
      inner depth start at addr records ≡ Some x
  inner_again records at addr place x is = by_result (inner depth start at addr records) (inner_finds at addr records) where
    by_result : (o : Option X) → Finds at addr records o → o ≡ Some x
    by_result None none = absurd (omega (arith, none place x is.there is.depth_is, is.not_above))
    by_result (Some y) found =
        let up : start x ≤ start y = found.1.closest place x is.there is.depth_is is.not_above in
        let down : start y ≤ start x = is.closest found.0 y found.1.there found.1.depth_is found.1.not_above in
        let after : place ≤ found.0 = found.1.last place x is.there is.depth_is (omega arith) in
        let before : found.0 ≤ place = is.last found.0 y found.1.there found.1.depth_is (omega arith) in
        let same : found.0 ≡ place = omega arith in
        ap Some (same_some y x (sym found.1.there ∙ ap (slice_get records) same ∙ is.there))

  -- and it gives none where none fits
  pub inner_none : (records : List X) (at addr : ℕ) →
      ((i : ℕ) (y : X) → slice_get records i ≡ Some y → depth y ≡ at → addr < start y) →
      inner depth start at addr records ≡ None
  inner_none records at addr above = by_result (inner depth start at addr records) (inner_finds at addr records) where
    by_result : (o : Option X) → Finds at addr records o → o ≡ None
    by_result None none = refl
    by_result (Some y) found = absurd (omega (arith, above found.0 y found.1.there found.1.depth_is, found.1.not_above))

  -- what is given is a record to try
  pub inner_is : (records : List X) (at addr : ℕ) (x : X) → inner depth start at addr records ≡ Some x →
      (place : ℕ) × IsInner depth start records at addr place x
  inner_is records at addr x found = subst (Finds at addr records) found (inner_finds at addr records)

  -- where none is given, none fits
  pub inner_above : (records : List X) (at addr : ℕ) → inner depth start at addr records ≡ None →
      (i : ℕ) (y : X) → slice_get records i ≡ Some y → depth y ≡ at → addr < start y
  inner_above records at addr none = subst (Finds at addr records) none (inner_finds at addr records)
