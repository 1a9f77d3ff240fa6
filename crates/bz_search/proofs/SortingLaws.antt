-- What stands in order is a table of the list, and no other list is.
use Rattle.std.proofs.Common.{◌≡◌, ℕ, zero, suc, ◌<◌, ◌≤◌, Bool, true, false, cond, ◌==◌, List, [], ◌∷◌, length, Some, refl, sym, ap, subst, ◌∙◌, arith}
use Rattle.std.specs.List.{AllByRecursion, filter, slice_get}
use Rattle.std.proofs.lemmas.Bool.Decides.{nat_tests}
use Rattle.bz_search.specs.Nearest.{IsTable, has_span}
use Rattle.bz_search.specs.Sorting.{IsUpTo, Ascends, is_below, put, sorted}

module _ {X : Type 0} (first second : X → ℕ) where
  up_from_below : (x y : X) → is_below first second x y ≡ true → IsUpTo first second x y
  up_from_below x y is = record { firsts = grind (arith, nat_tests); seconds = λ same. grind (arith, nat_tests) }

  up_from_not : (x y : X) → is_below first second y x ≡ false → IsUpTo first second x y
  up_from_not x y is = record { firsts = grind (arith, nat_tests); seconds = λ same. grind (arith, nat_tests) }

  not_from_up : (x y : X) → IsUpTo first second x y → is_below first second y x ≡ false
  not_from_up x y up = let f = up.firsts in let s = up.seconds in grind (arith, nat_tests)

  up_trans : (x y z : X) → IsUpTo first second x y → IsUpTo first second y z → IsUpTo first second x z
  up_trans x y z a b = record { firsts = omega arith; seconds = λ same. omega (arith, a.seconds, b.seconds, a.firsts, b.firsts) }

  all_up : (x y : X) (zs : List X) → IsUpTo first second x y → AllByRecursion (IsUpTo first second y) zs → AllByRecursion (IsUpTo first second x) zs
  all_up x y [] up all = tt
  all_up x y (z ∷ zs) up all = (up_trans x y z up all.0, all_up x y zs up all.1)

  -- what holds of each item and the one put in holds of all
  pub put_all : (P : X → Type 0) (x : X) (ys : List X) → P x → AllByRecursion P ys → AllByRecursion P (put first second x ys)
  put_all P x [] is all = (is, tt)
  put_all P x (y ∷ ys) is all = by (is_below first second y x) (put_all P x ys is all.1) where
    by : (b : Bool) → AllByRecursion P (put first second x ys) → AllByRecursion P (cond b (y ∷ put first second x ys) (x ∷ y ∷ ys))
    by true more = (all.0, more)
    by false more = (is, all)

  pub sorted_all : (P : X → Type 0) (xs : List X) → AllByRecursion P xs → AllByRecursion P (sorted first second xs)
  sorted_all P [] all = tt
  sorted_all P (x ∷ xs) all = put_all P x (sorted first second xs) all.0 (sorted_all P xs all.1)

  put_length : (x : X) (ys : List X) → length (put first second x ys) ≡ suc (length ys)
  put_length x [] = refl
  put_length x (y ∷ ys) = by (is_below first second y x) (put_length x ys) where
    by : (b : Bool) → length (put first second x ys) ≡ suc (length ys) → length (cond b (y ∷ put first second x ys) (x ∷ y ∷ ys)) ≡ suc (suc (length ys))
    by true more = ap suc more
    by false more = refl

  -- there are as many as in the list
  pub sorted_length : (xs : List X) → length (sorted first second xs) ≡ length xs
  sorted_length [] = refl
  sorted_length (x ∷ xs) = put_length x (sorted first second xs) ∙ ap suc (sorted_length xs)

  put_ascends : (x : X) (ys : List X) → Ascends first second ys → Ascends first second (put first second x ys)
  put_ascends x [] up = (tt, tt)
  put_ascends x (y ∷ ys) up = by (is_below first second y x) refl (put_ascends x ys up.1) where
    by : (b : Bool) → is_below first second y x ≡ b → Ascends first second (put first second x ys) → Ascends first second (cond b (y ∷ put first second x ys) (x ∷ y ∷ ys))
    by true is more = (put_all (IsUpTo first second y) x ys (up_from_below y x is) up.0, more)
    by false is more = let here = up_from_not x y is in ((here, all_up x y ys here up.0), up)

  pub sorted_ascends : (xs : List X) → Ascends first second (sorted first second xs)
  sorted_ascends [] = tt
  sorted_ascends (x ∷ xs) = put_ascends x (sorted first second xs) (sorted_ascends xs)

  -- an item of one span isn't below another
  span_apart : (at len : ℕ) (x y : X) → has_span first second at len x ≡ true → has_span first second at len y ≡ true → is_below first second y x ≡ true → ⊥
  span_apart at len x y a b is = grind (arith, nat_tests)

  -- those of a span stand in their order
  put_alike : (at len : ℕ) (x : X) (ys : List X) →
      filter (has_span first second at len) (put first second x ys) ≡ filter (has_span first second at len) (x ∷ ys)
  put_alike at len x [] = refl
  put_alike at len x (y ∷ ys) = by (is_below first second y x) refl (put_alike at len x ys) where
    test : X → Bool
    test = has_span first second at len

    swapped : (s t : Bool) (more : List X) → has_span first second at len x ≡ s → has_span first second at len y ≡ t → is_below first second y x ≡ true →
        cond t (y ∷ cond s (x ∷ more) more) (cond s (x ∷ more) more) ≡ cond s (x ∷ cond t (y ∷ more) more) (cond t (y ∷ more) more)
    swapped true true more a b is = absurd (span_apart at len x y a b is)
    swapped true false more a b is = refl
    swapped false true more a b is = refl
    swapped false false more a b is = refl

    by : (b : Bool) → is_below first second y x ≡ b →
        filter (has_span first second at len) (put first second x ys) ≡ filter (has_span first second at len) (x ∷ ys) →
        filter (has_span first second at len) (cond b (y ∷ put first second x ys) (x ∷ y ∷ ys)) ≡ filter (has_span first second at len) (x ∷ y ∷ ys)
    by true is more =
        ap (λ l. cond (has_span first second at len y) (y ∷ l) l) more
        ∙ swapped (has_span first second at len x) (has_span first second at len y) (filter (has_span first second at len) ys) refl refl is
    by false is more = refl

  pub sorted_alike : (at len : ℕ) (xs : List X) → filter (has_span first second at len) (sorted first second xs) ≡ filter (has_span first second at len) xs
  sorted_alike at len [] = refl
  sorted_alike at len (x ∷ xs) =
      put_alike at len x (sorted first second xs)
      ∙ ap (λ l. cond (has_span first second at len x) (x ∷ l) l) (sorted_alike at len xs)

  -- two places of a list in order
  at_places : (xs : List X) → Ascends first second xs → (i j : ℕ) (x y : X) → i < j → slice_get xs i ≡ Some x → slice_get xs j ≡ Some y → IsUpTo first second x y
  at_places [] up i j x y less at_x at_y = absurd (cc)
  at_places (z ∷ zs) up i zero x y less at_x at_y = absurd (omega arith)
  at_places (z ∷ zs) up zero (suc j) x y less at_x at_y = let same : z ≡ x = cc in subst (λ w. IsUpTo first second w y) same (later zs up.0 j at_y) where
    later : (ws : List X) → AllByRecursion (IsUpTo first second z) ws → (k : ℕ) → slice_get ws k ≡ Some y → IsUpTo first second z y
    later [] all k there = absurd (cc)
    later (w ∷ ws) all zero there = let same : w ≡ y = cc in subst (IsUpTo first second z) same all.0
    later (w ∷ ws) all (suc k) there = later ws all.1 k there
  at_places (z ∷ zs) up (suc i) (suc j) x y less at_x at_y = at_places zs up.1 i j x y (omega arith) at_x at_y

  same_place : (xs : List X) (i : ℕ) (x y : X) → slice_get xs i ≡ Some x → slice_get xs i ≡ Some y → x ≡ y
  same_place xs i x y at_x at_y = cc

  up_itself : (x : X) → IsUpTo first second x x
  up_itself x = record { firsts = omega arith; seconds = λ same. omega arith }

  up_at : (xs : List X) → Ascends first second xs → (i j : ℕ) (x y : X) → i ≤ j → slice_get xs i ≡ Some x → slice_get xs j ≡ Some y → IsUpTo first second x y
  up_at xs up i j x y less at_x at_y = by (i == j) refl where
    by : (b : Bool) → (i == j) ≡ b → IsUpTo first second x y
    by true is =
        let e : i ≡ j = grind (arith, nat_tests) in
        let same : x ≡ y = same_place xs i x y at_x (ap (slice_get xs) e ∙ at_y) in
        subst (IsUpTo first second x) same (up_itself x)
    by false is = at_places xs up i j x y (grind (arith, nat_tests)) at_x at_y

  -- what stands in order is a table of the list
  pub sorted_table : (xs : List X) → IsTable first second xs (sorted first second xs)
  sorted_table xs = record {
    starts_ascend = λ i j x y less at_x at_y. (up_at (sorted first second xs) (sorted_ascends xs) i j x y less at_x at_y).firsts;
    sizes_ascend = λ i j x y less at_x at_y same. (up_at (sorted first second xs) (sorted_ascends xs) i j x y less at_x at_y).seconds same;
    alike = λ at len. sorted_alike at len xs;
  }

  -- A list in order is known by those of each span.

  -- where some are left of a list, one of it passes
  some_left : (P : X → Type 0) (test : X → Bool) (ys : List X) (z : X) (rest : List X) → AllByRecursion P ys → filter test ys ≡ z ∷ rest → (y : X) × P y × (test y ≡ true)
  some_left P test [] z rest all is = absurd (cc)
  some_left P test (y ∷ ys) z rest all is = by (test y) refl is (some_left P test ys z rest all.1) where
    by : (b : Bool) → test y ≡ b → cond b (y ∷ filter test ys) (filter test ys) ≡ z ∷ rest → (filter test ys ≡ z ∷ rest → (y : X) × P y × (test y ≡ true)) →
        (y : X) × P y × (test y ≡ true)
    by true passes found more = (y, all.0, passes)
    by false fails found more = more found

  span_itself : (x : X) → has_span first second (first x) (second x) x ≡ true
  span_itself x = grind (arith, nat_tests)

  span_same : (x y : X) → has_span first second (first x) (second x) y ≡ true → IsUpTo first second y x × IsUpTo first second x y
  span_same x y is = (record { firsts = grind (arith, nat_tests); seconds = λ same. grind (arith, nat_tests) }, record { firsts = grind (arith, nat_tests); seconds = λ same. grind (arith, nat_tests) })

  same_span : (x y : X) → IsUpTo first second x y → IsUpTo first second y x → has_span first second (first x) (second x) y ≡ true
  same_span x y a b = let f = a.firsts in let g = b.firsts in let s = a.seconds in let t = b.seconds in grind (arith, nat_tests)

  -- the two lists have the same of each span
  abbrev AreAlike : List X → List X → Type 0
  AreAlike xs ys = (at len : ℕ) → filter (has_span first second at len) xs ≡ filter (has_span first second at len) ys

  head_passes : (test : X → Bool) (x : X) (xs : List X) → test x ≡ true → filter test (x ∷ xs) ≡ x ∷ filter test xs
  head_passes test x xs is = rw is refl

  -- the first of a list in order comes before all that another has, which is alike
  head_up : (x : X) (xs : List X) (y : X) (ys : List X) → Ascends first second (y ∷ ys) → AreAlike (x ∷ xs) (y ∷ ys) → IsUpTo first second y x
  head_up x xs y ys up alike =
      let found : filter (has_span first second (first x) (second x)) (y ∷ ys) ≡ x ∷ filter (has_span first second (first x) (second x)) xs
      = sym (alike (first x) (second x)) ∙ head_passes (has_span first second (first x) (second x)) x xs (span_itself x) in
      let one = some_left (IsUpTo first second y) (has_span first second (first x) (second x)) (y ∷ ys) x (filter (has_span first second (first x) (second x)) xs) (up_itself y, up.0) found in
      up_trans y one.0 x one.1 (span_same x one.0 one.2).0

  tail_alike : (test : X → Bool) (x : X) (xs ys : List X) → filter test (x ∷ xs) ≡ filter test (x ∷ ys) → filter test xs ≡ filter test ys
  tail_alike test x xs ys is = by (test x) is where
    by : (b : Bool) → cond b (x ∷ filter test xs) (filter test xs) ≡ cond b (x ∷ filter test ys) (filter test ys) → filter test xs ≡ filter test ys
    by true same = cc
    by false same = same

  pub same_lists : (xs ys : List X) → Ascends first second xs → Ascends first second ys → AreAlike xs ys → xs ≡ ys
  same_lists [] [] up_x up_y alike = refl
  same_lists [] (y ∷ ys) up_x up_y alike =
      let none : [] ≡ y ∷ filter (has_span first second (first y) (second y)) ys
      = alike (first y) (second y) ∙ head_passes (has_span first second (first y) (second y)) y ys (span_itself y) in
      absurd (cc)
  same_lists (x ∷ xs) [] up_x up_y alike =
      let none : [] ≡ x ∷ filter (has_span first second (first x) (second x)) xs
      = sym (alike (first x) (second x)) ∙ head_passes (has_span first second (first x) (second x)) x xs (span_itself x) in
      absurd (cc)
  same_lists (x ∷ xs) (y ∷ ys) up_x up_y alike =
      let y_up = head_up x xs y ys up_y alike in
      let x_up = head_up y ys x xs up_x (λ at len. sym (alike at len)) in
      let test = has_span first second (first x) (second x) in
      let both : x ∷ filter test xs ≡ y ∷ filter test ys
      = sym (head_passes test x xs (span_itself x)) ∙ alike (first x) (second x) ∙ head_passes test y ys (same_span x y x_up y_up) in
      let same : x ≡ y = cc in
      let P : X → Type 0 = λ z. AreAlike (x ∷ xs) (z ∷ ys) in
      let aligned : AreAlike (x ∷ xs) (x ∷ ys) = subst P (sym same) alike in
      ap (λ z. z ∷ xs) same ∙ ap (λ zs. y ∷ zs) (same_lists xs ys up_x.1 up_y.1 (λ at len. tail_alike (has_span first second at len) x xs ys (aligned at len)))

  -- a table is in order
  table_ascends : (records table : List X) → IsTable first second records table → Ascends first second table
  table_ascends records table is = from table (λ i j x y less at_x at_y. record {
    firsts = is.starts_ascend i j x y less at_x at_y;
    seconds = is.sizes_ascend i j x y less at_x at_y;
  }) where
    each : (x : X) (xs : List X) → ((k : ℕ) (y : X) → slice_get xs k ≡ Some y → IsUpTo first second x y) → AllByRecursion (IsUpTo first second x) xs
    each x [] at = tt
    each x (y ∷ ys) at = (at 0 y refl, each x ys (λ k z there. at (suc k) z there))

    from : (xs : List X) → ((i j : ℕ) (x y : X) → i ≤ j → slice_get xs i ≡ Some x → slice_get xs j ≡ Some y → IsUpTo first second x y) → Ascends first second xs
    from [] at = tt
    from (x ∷ xs) at = (each x xs (λ k y there. at 0 (suc k) x y (omega arith) refl there), from xs (λ i j y z less at_y at_z. at (suc i) (suc j) y z (omega arith) at_y at_z))

  -- so the only table of a list is what stands in order
  pub table_sorted : (records table : List X) → IsTable first second records table → table ≡ sorted first second records
  table_sorted records table is =
      same_lists table (sorted first second records) (table_ascends records table is) (sorted_ascends records)
      (λ at len. is.alike at len ∙ sym (sorted_alike at len records))

  -- a list in order stays
  pub sorted_again : (xs : List X) → Ascends first second xs → sorted first second xs ≡ xs
  sorted_again [] up = refl
  sorted_again (x ∷ xs) up = ap (put first second x) (sorted_again xs up.1) ∙ in_front xs up.0 where
    in_front : (ys : List X) → AllByRecursion (IsUpTo first second x) ys → put first second x ys ≡ x ∷ ys
    in_front [] all = refl
    in_front (y ∷ ys) all = rw (not_from_up x y all.0) refl
