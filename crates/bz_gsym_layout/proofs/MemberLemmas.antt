-- What stands in a list, and what holds of that.
use Rattle.std.proofs.Common.{◌≡◌, ◌⊎◌, inl, inr, ℕ, zero, suc, ◌<◌, Bool, true, false, cond, List, [], ◌∷◌, ◌++◌, flat_map, length, map, Some, refl, sym, ap, subst, ◌∙◌, arith}
use Rattle.std.specs.Prelude.{◌||◌}
use Rattle.std.specs.List.{AllByRecursion, filter, list_any, slice_get}
use Rattle.std.proofs.lemmas.Option.{none-some, same_Some}
use Rattle.bz_gsym_layout.specs.Members.{In}

-- of lists side by side
pub in_left : {X : Type 0} (xs ys : List X) (x : X) → In xs x → In (xs ++ ys) x
in_left [] ys x (i, there) = absurd (none-some x there)
in_left (z ∷ xs) ys x (zero, there) = (0, there)
in_left (z ∷ xs) ys x (suc i, there) = let k = in_left xs ys x (i, there) in (suc k.0, k.1)

pub in_right : {X : Type 0} (xs ys : List X) (x : X) → In ys x → In (xs ++ ys) x
in_right [] ys x found = found
in_right (z ∷ xs) ys x found = let k = in_right xs ys x found in (suc k.0, k.1)

pub in_append : {X : Type 0} (xs ys : List X) (x : X) → In (xs ++ ys) x → In xs x ⊎ In ys x
in_append [] ys x found = inr found
in_append (z ∷ xs) ys x (zero, there) = inl (0, there)
in_append (z ∷ xs) ys x (suc i, there) = more (in_append xs ys x (i, there)) where
  more : In xs x ⊎ In ys x → In (z ∷ xs) x ⊎ In ys x
  more (inl (j, at)) = inl (suc j, at)
  more (inr found) = inr found

pub in_flat : {X Y : Type 0} (f : X → List Y) (xs : List X) (x : X) (y : Y) → In xs x → In (f x) y → In (flat_map f xs) y
in_flat f [] x y (i, there) own = absurd (none-some x there)
in_flat f (z ∷ xs) x y (zero, there) own = let e : x ≡ z = sym (same_Some z x there) in in_left (f z) (flat_map f xs) y (subst (λ w. In (f w) y) e own)
in_flat f (z ∷ xs) x y (suc i, there) own = in_right (f z) (flat_map f xs) y (in_flat f xs x y (i, there) own)

-- what holds of each that stands in a list
pub all_members : {X : Type 0} (P : X → Type 0) (xs : List X) → ((x : X) → In xs x → P x) → AllByRecursion P xs
all_members P [] each = tt
all_members P (x ∷ xs) each = (each x (0, refl), all_members P xs (λ y found. each y (suc found.0, found.1)))

pub member_of : {X : Type 0} (P : X → Type 0) (xs : List X) → AllByRecursion P xs → (x : X) → In xs x → P x
member_of P [] all x (i, there) = absurd (none-some x there)
member_of P (y ∷ xs) all x (zero, there) = subst P (same_Some y x there) all.0
member_of P (y ∷ xs) all x (suc i, there) = member_of P xs all.1 x (i, there)

pub all_append : {X : Type 0} (P : X → Type 0) (xs ys : List X) → AllByRecursion P xs → AllByRecursion P ys → AllByRecursion P (xs ++ ys)
all_append P [] ys first second = second
all_append P (x ∷ xs) ys first second = (first.0, all_append P xs ys first.1 second)

-- what passes a test in a list is among those that pass it
module _ {X : Type 0} (test : X → Bool) where
  pub filter_to : (xs : List X) (i : ℕ) (x : X) → slice_get xs i ≡ Some x → test x ≡ true → In (filter test xs) x
  filter_to [] i x there passes = absurd (none-some x there)
  filter_to (y ∷ xs) zero x there passes = let same : y ≡ x = same_Some y x there in (0, rw (ap test same ∙ passes) there)
  filter_to (y ∷ xs) (suc i) x there passes = by (test y) (filter_to xs i x there passes) where
    by : (b : Bool) → In (filter test xs) x → In (cond b (y ∷ filter test xs) (filter test xs)) x
    by true (k, at) = (suc k, at)
    by false found = found

pub any_in : {X : Type 0} (test : X → Bool) (calls : List X) (x : X) → In calls x → test x ≡ true → list_any test calls ≡ true
any_in test [] x (i, there) passes = absurd (none-some x there)
any_in test (y ∷ calls) x (zero, there) passes = rw (ap test (same_Some y x there) ∙ passes) refl
any_in test (y ∷ calls) x (suc i, there) passes = by (test y) (any_in test calls x (i, there) passes) where
  by : (b : Bool) → list_any test calls ≡ true → (b || list_any test calls) ≡ true
  by true more = refl
  by false more = more

pub map_in : {X Y : Type 0} (view : X → Y) (xs : List X) (y : Y) → In (map view xs) y → (x : X) × In xs x × (view x ≡ y)
map_in view [] y (i, there) = absurd (none-some y there)
map_in view (x ∷ xs) y (zero, there) = (x, (0, refl), same_Some (view x) y there)
map_in {X = X} view (x ∷ xs) y (suc i, there) = more (map_in view xs y (i, there)) where
  more : (z : X) × In xs z × (view z ≡ y) → (z : X) × In (x ∷ xs) z × (view z ≡ y)
  more (z, (j, at), same) = (z, (suc j, at), same)

-- two places of a list
pub record AtTwo {X : Type 0} (xs : List X) (test : X → Bool) : Type 0 where
  pub i : ℕ
  pub j : ℕ
  pub x : X
  pub y : X
  pub before : i < j
  pub at_i : slice_get xs i ≡ Some x
  pub at_j : slice_get xs j ≡ Some y
  pub passes_i : test x ≡ true
  pub passes_j : test y ≡ true

module _ {X : Type 0} (test : X → Bool) where
  from_rest : (y x : X) (xs : List X) → In xs x × (test x ≡ true) → In (y ∷ xs) x × (test x ≡ true)
  from_rest y x xs ((i, at), passes) = ((suc i, at), passes)

  pub filter_from : (xs : List X) (k : ℕ) (x : X) → slice_get (filter test xs) k ≡ Some x → In xs x × (test x ≡ true)
  filter_from [] k x there = absurd (none-some x there)
  filter_from (y ∷ xs) k x there = by (test y) refl k there (λ k at. filter_from xs k x at) where
    by : (b : Bool) → test y ≡ b → (k : ℕ) → slice_get (cond b (y ∷ filter test xs) (filter test xs)) k ≡ Some x →
        ((k : ℕ) → slice_get (filter test xs) k ≡ Some x → In xs x × (test x ≡ true)) → In (y ∷ xs) x × (test x ≡ true)
    by true passes zero there next = let same : y ≡ x = same_Some y x there in ((0, there), ap test (sym same) ∙ passes)
    by true passes (suc k) there next = from_rest y x xs (next k there)
    by false fails k there next = from_rest y x xs (next k there)

  -- two that pass stand in the same order in the list
  abbrev pub Pair : List X → X → X → Type 0
  Pair xs x y = (i j : ℕ) × (i < j) × (slice_get xs i ≡ Some x) × (slice_get xs j ≡ Some y)

  pub pair_from : (xs : List X) (i j : ℕ) (x y : X) → i < j → slice_get (filter test xs) i ≡ Some x → slice_get (filter test xs) j ≡ Some y → Pair xs x y
  pair_from [] i j x y less at_i at_j = absurd (none-some x at_i)
  pair_from (z ∷ xs) i j x y less at_i at_j = by (test z) i j less at_i at_j (λ i j less at_i at_j. pair_from xs i j x y less at_i at_j) where
    more : Pair xs x y → Pair (z ∷ xs) x y
    more (i, j, less, at_i, at_j) = (suc i, suc j, omega arith, at_i, at_j)

    by : (b : Bool) (i j : ℕ) → i < j → slice_get (cond b (z ∷ filter test xs) (filter test xs)) i ≡ Some x → slice_get (cond b (z ∷ filter test xs) (filter test xs)) j ≡ Some y →
        ((i j : ℕ) → i < j → slice_get (filter test xs) i ≡ Some x → slice_get (filter test xs) j ≡ Some y → Pair xs x y) → Pair (z ∷ xs) x y
    by true i zero less at_i at_j next = absurd (omega arith)
    by true zero (suc j) less at_i at_j next = let later = (filter_from xs j y at_j).0 in (0, suc later.0, omega arith, at_i, later.1)
    by true (suc i) (suc j) less at_i at_j next = more (next i j (omega arith) at_i at_j)
    by false i j less at_i at_j next = more (next i j less at_i at_j)

  abbrev HasTwo : List X → Type 0
  HasTwo xs = (a b : X) × (rest : List X) × (xs ≡ a ∷ b ∷ rest)

  abbrev HasOne : List X → Type 0
  HasOne xs = (a : X) × (rest : List X) × (xs ≡ a ∷ rest)

  one_to : (xs : List X) (i : ℕ) (x : X) → slice_get xs i ≡ Some x → test x ≡ true → HasOne (filter test xs)
  one_to [] i x there passes = absurd (none-some x there)
  one_to (y ∷ xs) zero x there passes = let same : y ≡ x = same_Some y x there in (y, filter test xs, rw (ap test same ∙ passes) refl)
  one_to (y ∷ xs) (suc i) x there passes = by (test y) (one_to xs i x there passes) where
    by : (b : Bool) → HasOne (filter test xs) → HasOne (cond b (y ∷ filter test xs) (filter test xs))
    by true found = (y, filter test xs, refl)
    by false found = found

  pub two_to : (xs : List X) (i j : ℕ) (x y : X) → i < j → slice_get xs i ≡ Some x → slice_get xs j ≡ Some y → test x ≡ true → test y ≡ true → HasTwo (filter test xs)
  two_to [] i j x y less at_i at_j px py = absurd (none-some x at_i)
  two_to (z ∷ xs) zero zero x y less at_i at_j px py = absurd (omega arith)
  two_to (z ∷ xs) zero (suc j) x y less at_i at_j px py =
      let same : z ≡ x = same_Some z x at_i in
      let one = one_to xs j y at_j py in
      (z, one.0, one.1, rw (ap test same ∙ px) (ap (λ l. z ∷ l) one.2))
  two_to (z ∷ xs) (suc i) zero x y less at_i at_j px py = absurd (omega arith)
  two_to (z ∷ xs) (suc i) (suc j) x y less at_i at_j px py = by (test z) (two_to xs i j x y (omega arith) at_i at_j px py) where
    by : (b : Bool) → HasTwo (filter test xs) → HasTwo (cond b (z ∷ filter test xs) (filter test xs))
    by true (a, b, rest, is) = (z, a, b ∷ rest, ap (λ l. z ∷ l) is)
    by false found = found

  pub two_from : (xs : List X) → HasTwo (filter test xs) → AtTwo xs test
  two_from [] (a, b, rest, is) = absurd (cc)
  two_from (z ∷ xs) (a, b, rest, is) = by (test z) refl is (two_from xs) where
    shifted : AtTwo xs test → AtTwo (z ∷ xs) test
    shifted t = record { i = suc t.i; j = suc t.j; x = t.x; y = t.y; before = let h = t.before in omega arith; at_i = t.at_i; at_j = t.at_j; passes_i = t.passes_i; passes_j = t.passes_j }

    by : (c : Bool) → test z ≡ c → cond c (z ∷ filter test xs) (filter test xs) ≡ a ∷ b ∷ rest → (HasTwo (filter test xs) → AtTwo xs test) → AtTwo (z ∷ xs) test
    by true passes is next =
        let tail : filter test xs ≡ b ∷ rest = cc in
        let found = filter_from xs 0 b (ap (λ l. slice_get l 0) tail) in
        record { i = 0; j = suc found.0.0; x = z; y = b; before = omega arith; at_i = refl; at_j = found.0.1; passes_i = passes; passes_j = found.1 }
    by false fails is next = shifted (next (a, b, rest, is))

-- what holds at each index, and of one more
pub each_more : {X : Type 0} (P : ℕ → X → Type 0) (xs : List X) (x : X) → ((i : ℕ) (y : X) → slice_get xs i ≡ Some y → P i y) → P (length xs) x → (i : ℕ) (y : X) → slice_get (xs ++ x ∷ []) i ≡ Some y → P i y
each_more P [] x each own zero y at = subst (P 0) (same_Some x y at) own
each_more P [] x each own (suc i) y at = absurd (none-some y at)
each_more P (z ∷ xs) x each own zero y at = each 0 y at
each_more P (z ∷ xs) x each own (suc i) y at = each_more (λ j w. P (suc j) w) xs x (λ j w there. each (suc j) w there) own i y at

-- what holds of each index at which true stands, with one flag more
pub flags_more : (P : ℕ → Type 0) (flags more : List Bool) (flag : Bool) → more ≡ flags ++ flag ∷ [] → ((i : ℕ) → slice_get flags i ≡ Some true → P i) → (flag ≡ true → P (length flags)) →
    (i : ℕ) → slice_get more i ≡ Some true → P i
flags_more P flags more flag pushed each own i at =
    each_more (λ j b. b ≡ true → P j) flags flag (λ j b there is. each j (there ∙ ap Some is)) own i true (ap (λ l. slice_get l i) (sym pushed) ∙ at) refl
