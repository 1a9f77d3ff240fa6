-- The first and the last of a list that pass a test stand first and last among those that pass.
use Rattle.std.proofs.Common.{◌≡◌, ℕ, zero, suc, ◌≤◌, Bool, true, false, cond, List, [], ◌∷◌, ◌++◌, Some, refl, ap, ◌∙◌, arith}
use Rattle.std.specs.List.{filter, slice_get}

module _ {X : Type 0} (test : X → Bool) where
  -- the element at the place passes, and none before it does
  pub record IsFirst (xs : List X) (place : ℕ) (x : X) : Type 0 where
    pub there : slice_get xs place ≡ Some x
    pub passes : test x ≡ true
    pub before_others : (k : ℕ) (y : X) → slice_get xs k ≡ Some y → test y ≡ true → place ≤ k

  -- the element at the place passes, and none after it does
  pub record IsLast (xs : List X) (place : ℕ) (x : X) : Type 0 where
    pub there : slice_get xs place ≡ Some x
    pub passes : test x ≡ true
    pub after_others : (k : ℕ) (y : X) → slice_get xs k ≡ Some y → test y ≡ true → k ≤ place

  -- where one passes, some are left
  pub some_pass : (xs : List X) (place : ℕ) (x : X) → slice_get xs place ≡ Some x → test x ≡ true →
      (z : X) × (rest : List X) × (filter test xs ≡ z ∷ rest)
  some_pass [] place x there passes = absurd (cc)
  some_pass (y ∷ ys) zero x there passes = let same : y ≡ x = cc in (y, filter test ys, rw (ap test same ∙ passes) refl)
  some_pass (y ∷ ys) (suc place) x there passes = by_test (test y) (some_pass ys place x there passes) where
    by_test : (b : Bool) → (z : X) × (rest : List X) × (filter test ys ≡ z ∷ rest) →
        (z : X) × (rest : List X) × (cond b (y ∷ filter test ys) (filter test ys) ≡ z ∷ rest)
    by_test true more = (y, filter test ys, refl)
    by_test false more = more

  -- the first of those that pass is the first that passes
  pub first_in_list : (xs : List X) (x : X) (rest : List X) → filter test xs ≡ x ∷ rest → (place : ℕ) × IsFirst xs place x
  first_in_list [] x rest is = absurd (cc)
  first_in_list (y ∷ ys) x rest is = by_test (test y) refl is (λ more. first_in_list ys x rest more) where
    by_test : (b : Bool) → test y ≡ b → cond b (y ∷ filter test ys) (filter test ys) ≡ x ∷ rest →
        (filter test ys ≡ x ∷ rest → (place : ℕ) × IsFirst ys place x) → (place : ℕ) × IsFirst (y ∷ ys) place x
    by_test true passes is more = (0, record { there = cc; passes = cc; before_others = λ k z at q. omega arith })
    by_test false fails is more = let found = more is in (
      suc found.0,
      record {
        there = found.1.there;
        passes = found.1.passes;
        before_others = after found.0 found.1;
      },
    ) where
      after : (place : ℕ) → IsFirst ys place x → (k : ℕ) (z : X) → slice_get (y ∷ ys) k ≡ Some z → test z ≡ true → suc place ≤ k
      after place found zero z at q = absurd (cc)
      after place found (suc k) z at q = let h : place ≤ k = found.before_others k z at q in omega arith

  -- the first that passes is the first of those that pass
  pub first_in_filter : (xs : List X) (place : ℕ) (x : X) → IsFirst xs place x → (rest : List X) × (filter test xs ≡ x ∷ rest)
  first_in_filter [] place x first = absurd (cc (first.there))
  first_in_filter (y ∷ ys) zero x first = let same : y ≡ x = cc (first.there) in (filter test ys, rw (ap test same ∙ first.passes) (ap (λ z. z ∷ filter test ys) same))
  first_in_filter (y ∷ ys) (suc place) x first = by_test (test y) refl (first_in_filter ys place x (record {
    there = first.there;
    passes = first.passes;
    before_others = λ k z at q. let h : suc place ≤ suc k = first.before_others (suc k) z at q in omega arith;
  })) where
    by_test : (b : Bool) → test y ≡ b → (rest : List X) × (filter test ys ≡ x ∷ rest) →
        (rest : List X) × (cond b (y ∷ filter test ys) (filter test ys) ≡ x ∷ rest)
    by_test true passes more = absurd (omega (arith, first.before_others 0 y refl passes))
    by_test false fails more = more

  -- where none passes, none is left
  none_pass : (xs : List X) → ((k : ℕ) (y : X) → slice_get xs k ≡ Some y → test y ≡ true → ⊥) → filter test xs ≡ []
  none_pass [] none = refl
  none_pass (y ∷ ys) none = by_test (test y) refl (none_pass ys (λ k z at. none (suc k) z at)) where
    by_test : (b : Bool) → test y ≡ b → filter test ys ≡ [] → cond b (y ∷ filter test ys) (filter test ys) ≡ []
    by_test true passes more = absurd (none 0 y refl passes)
    by_test false fails more = more

  -- where none is left, none passes
  none_left : (xs : List X) → filter test xs ≡ [] → (k : ℕ) (y : X) → slice_get xs k ≡ Some y → test y ≡ true → ⊥
  none_left xs none k y at passes = let some = some_pass xs k y at passes in cc (some.2)

  -- the last of those that pass is the last that passes
  pub last_in_list : (xs : List X) (front : List X) (x : X) → filter test xs ≡ front ++ x ∷ [] → (place : ℕ) × IsLast xs place x
  last_in_list [] [] x is = absurd (cc)
  last_in_list [] (f ∷ front) x is = absurd (cc)
  last_in_list (y ∷ ys) front x is = by_test (test y) refl front is (λ fs more. last_in_list ys fs x more) where
    later : (place : ℕ) → IsLast ys place x → IsLast (y ∷ ys) (suc place) x
    later place found = record { there = found.there; passes = found.passes; after_others = after } where
      after : (k : ℕ) (z : X) → slice_get (y ∷ ys) k ≡ Some z → test z ≡ true → k ≤ suc place
      after zero z at q = omega arith
      after (suc k) z at q = let h : k ≤ place = found.after_others k z at q in omega arith

    alone : test y ≡ true → filter test ys ≡ [] → y ≡ x → IsLast (y ∷ ys) 0 x
    alone passes none same = record { there = cc; passes = cc; after_others = after } where
      after : (k : ℕ) (z : X) → slice_get (y ∷ ys) k ≡ Some z → test z ≡ true → k ≤ 0
      after zero z at q = omega arith
      after (suc k) z at q = absurd (none_left ys none k z at q)

    by_test : (b : Bool) → test y ≡ b → (front : List X) → cond b (y ∷ filter test ys) (filter test ys) ≡ front ++ x ∷ [] →
        ((fs : List X) → filter test ys ≡ fs ++ x ∷ [] → (place : ℕ) × IsLast ys place x) →
        (place : ℕ) × IsLast (y ∷ ys) place x
    by_test true passes [] is more = (0, alone passes (cc) (cc))
    by_test true passes (f ∷ fs) is more = let found = more fs (cc) in (suc found.0, later found.0 found.1)
    by_test false fails front is more = let found = more front is in (suc found.0, later found.0 found.1)

  -- the last that passes is the last of those that pass
  pub last_in_filter : (xs : List X) (place : ℕ) (x : X) → IsLast xs place x →
      (front : List X) × (filter test xs ≡ front ++ x ∷ [])
  last_in_filter [] place x last = absurd (cc (last.there))
  last_in_filter (y ∷ ys) zero x last = let same : y ≡ x = cc (last.there) in
      let none : filter test ys ≡ [] = none_pass ys (λ k z at q. omega (arith, last.after_others (suc k) z at q)) in
      ([], rw (ap test same ∙ last.passes, none) (ap (λ z. z ∷ []) same))
  last_in_filter (y ∷ ys) (suc place) x last = by_test (test y) (last_in_filter ys place x (record {
    there = last.there;
    passes = last.passes;
    after_others = λ k z at q. let h : suc k ≤ suc place = last.after_others (suc k) z at q in omega arith;
  })) where
    by_test : (b : Bool) → (front : List X) × (filter test ys ≡ front ++ x ∷ []) →
        (front : List X) × (cond b (y ∷ filter test ys) (filter test ys) ≡ front ++ x ∷ [])
    by_test true more = (y ∷ more.0, ap (λ l. y ∷ l) more.1)
    by_test false more = more
