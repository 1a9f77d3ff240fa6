-- In the order of depth and start, two calls that stand side by side show the first one that overlaps.
use Rattle.std.proofs.Common.{◌≡◌, inl, inr, ℕ, zero, suc, ◌+◌, ◌-◌, ◌<◌, ◌≤◌, ◌&&◌, Bool, true, false, cond, not, List, [], ◌∷◌, drop, length, map, Option, Some, None, option_map, refl, sym, ap, subst, ◌∙◌, arith}
use Rattle.std.specs.Prelude.{◌==◌, ◌||◌, slice_index_or}
use Rattle.std.specs.List.{find, list_any, slice_get}
use Rattle.std.proofs.lemmas.Bool.{cases_lt, eq-eqb, true≢false}
use Rattle.std.proofs.lemmas.Bool.Decides.{nat_tests}
use Rattle.std.proofs.lemmas.List.{drop_more, length-drop, length-map}
use Rattle.std.proofs.lemmas.Option.{none-some, same_Some, slice_get_cases, slice_get_within}
use Rattle.bz_base.specs.Span.{inside}
use Rattle.bz_breakpad_function.specs.InOrder.{calls_in_order}
use Rattle.bz_breakpad_function.specs.Lent.{inlinee_seen}
use Rattle.bz_breakpad_function.specs.declared.types.Inlinee.{Inlinee as GivenInlinee}
use Rattle.bz_breakpad_lines.specs.Table.{Inlinee, Function}
use Rattle.bz_search.proofs.SortingLaws.{sorted_table}
use Rattle.bz_gsym_layout.specs.Members.{In}
use Rattle.bz_convert.specs.Fault.{is_over, overlap, overlaps}
use Rattle.bz_convert.specs.Plan.{same_call}
use Rattle.bz_convert.specs.Reach.{AreByDepth}
use Rattle.bz_convert.specs.declared.error.ConvertError.TheVariants.{Overlap}
use Rattle.bz_convert.proofs.DistinctLemmas.{any_some, same_call_is, same_itself}
use Rattle.bz_gsym_layout.proofs.MemberLemmas.{any_in}
use Rattle.bz_convert.proofs.FaultLemmas.{find_none}
use Rattle.bz_convert.proofs.MemberLemmas.{from_table, to_table}

-- the first call that is over the one in front of it
abbrev pub first_over : List Inlinee → Option Inlinee
first_over [] = None
first_over (x ∷ []) = None
first_over (x ∷ y ∷ ys) = cond (is_over y x) (Some y) (first_over (y ∷ ys))

-- what a call that is over another tells
pub record IsOver (y x : Inlinee) : Type 0 where
  pub depth : x.depth ≡ y.depth
  pub other : same_call x y ≡ false
  pub starts : (x.start == y.start || inside x.start x.size y.start) ≡ true

over_parts : (y x : Inlinee) → is_over y x ≡ true → IsOver y x
over_parts y x is = by (same_call x y) refl (x.start == y.start || inside x.start x.size y.start) refl is where
  by : (s : Bool) → same_call x y ≡ s → (t : Bool) → (x.start == y.start || inside x.start x.size y.start) ≡ t → (x.depth == y.depth && (not s && t)) ≡ true → IsOver y x
  by true is_s t is_t is = absurd (grind (arith, nat_tests))
  by false is_s true is_t is = record { depth = grind (arith, nat_tests); other = is_s; starts = is_t }
  by false is_s false is_t is = absurd (grind (arith, nat_tests))

over_whole : (y x : Inlinee) → x.depth ≡ y.depth → same_call x y ≡ false → (x.start == y.start || inside x.start x.size y.start) ≡ true → is_over y x ≡ true
over_whole y x depths other starts =
    ap (λ b. b && (not (same_call x y) && (x.start == y.start || inside x.start x.size y.start))) (eq-eqb x.depth y.depth depths)
    ∙ ap (λ b. not b && (x.start == y.start || inside x.start x.size y.start)) other ∙ starts

same_turned : (x y : Inlinee) → same_call x y ≡ false → same_call y x ≡ false
same_turned x y other = by (same_call y x) refl where
  by : (b : Bool) → same_call y x ≡ b → b ≡ false
  by true is = absurd (true≢false (sym (same_itself x) ∙ ap (same_call x) (sym (same_call_is y x is)) ∙ other))
  by false is = refl

module _ (cs : List Inlinee) (are : AreByDepth cs) where
  -- none up to a place is over the one in front of it
  abbrev pub NoneOver : ℕ → Type 0
  NoneOver most = (k : ℕ) (x y : Inlinee) → suc k ≤ most → slice_get cs k ≡ Some x → slice_get cs (suc k) ≡ Some y → is_over y x ≡ false

  -- the one in front
  front : (j : ℕ) (y : Inlinee) → slice_get cs (suc j) ≡ Some y → (x : Inlinee) × (slice_get cs j ≡ Some x)
  front j y at_y = elim ((slice_get_cases cs j).1) [ inl there ↦ (there.0, there.2) | inr past ↦ absurd (omega (arith, past.0, slice_get_within cs (suc j) y at_y)) ]

  -- then none is over one further in front
  apart : (most : ℕ) → NoneOver most → (d i j : ℕ) (x y : Inlinee) → j ≡ suc (i + d) → j ≤ most → slice_get cs i ≡ Some x → slice_get cs j ≡ Some y → is_over y x ≡ true → ⊥
  apart most none zero i j x y far within at_x at_y is =
      let e : j ≡ suc i = omega arith in
      true≢false (sym is ∙ none i x y (omega arith) at_x (ap (slice_get cs) (sym e) ∙ at_y))
  apart most none (suc d) i zero x y far within at_x at_y is = omega arith
  apart most none (suc d) i (suc j) x y far within at_x at_y is =
      let z = front j y at_y in
      let over = over_parts y x is in
      let low = are.depths i j x z.0 (omega arith) at_x z.1 in
      let high = are.depths j (suc j) z.0 y (omega arith) z.1 at_y in
      let same : x.depth ≡ z.0.depth = let h = over.depth in omega arith in
      let below = are.starts i j x z.0 (omega arith) at_x z.1 same in
      let above = are.starts j (suc j) z.0 y (omega arith) z.1 at_y (let h = over.depth in omega arith) in
      by z.0 z.1 over same below above (same_call x z.0) refl (λ more. apart most none d i j x z.0 (omega arith) (omega arith) at_x z.1 more) where
        nearer : (z : Inlinee) → IsOver y x → x.start ≤ z.start → z.start ≤ y.start → (x.start == z.start || inside x.start x.size z.start) ≡ true
        nearer z over below above = let h = over.starts in grind (arith, nat_tests)

        by : (z : Inlinee) → slice_get cs j ≡ Some z → IsOver y x → x.depth ≡ z.depth → x.start ≤ z.start → z.start ≤ y.start → (b : Bool) → same_call x z ≡ b → (is_over z x ≡ true → ⊥) → ⊥
        by z at_z over same below above true is_same next =
            let e : x ≡ z = same_call_is x z is_same in
            true≢false (sym (subst (λ w. is_over y w ≡ true) e is) ∙ none j z y (omega arith) at_z at_y)
        by z at_z over same below above false other next = next (over_whole z x same other (nearer z over below above))

  -- one that is over a later one starts where it does
  starts_with : (i j : ℕ) (x y : Inlinee) → i ≤ j → slice_get cs i ≡ Some x → slice_get cs j ≡ Some y → is_over x y ≡ true → (y.depth ≡ x.depth) × (y.start ≡ x.start)
  starts_with i j x y up at_x at_y is =
      let over = over_parts x y is in
      let above = are.starts i j x y up at_x at_y (sym over.depth) in
      (over.depth, same over above) where
        same : IsOver x y → x.start ≤ y.start → y.start ≡ x.start
        same over above = let h = over.starts in grind (arith, nat_tests)

  turned : (i j : ℕ) (x y : Inlinee) → i ≤ j → slice_get cs i ≡ Some x → slice_get cs j ≡ Some y → is_over x y ≡ true → is_over y x ≡ true
  turned i j x y up at_x at_y is =
      let two = starts_with i j x y up at_x at_y is in
      over_whole y x (sym two.0) (same_turned y x (over_parts x y is).other) (same two.1) where
        same : y.start ≡ x.start → (x.start == y.start || inside x.start x.size y.start) ≡ true
        same e = grind (arith, nat_tests)

  -- so one up to the place is over a later one alone
  over_later : (most m q : ℕ) (z o : Inlinee) → NoneOver most → m ≤ most → slice_get cs m ≡ Some z → slice_get cs q ≡ Some o → is_over z o ≡ true → most < q
  over_later most m q z o none within at_z at_o is = elim (cases_lt most q) [
    | inl more ↦ more
    | inr less ↦ elim (cases_lt q m) [
      | inl front ↦ absurd (apart most none (m - suc q) q m o z (omega arith) within at_o at_z is)
      | inr behind ↦ elim (cases_lt m q) [
        | inl more ↦ absurd (apart most none (q - suc m) m q z o (omega arith) (omega arith) at_z at_o (turned m q z o (omega arith) at_z at_o is))
        | inr least ↦
            let e : m ≡ q = omega arith in
            let same : z ≡ o = same_Some z o (sym at_z ∙ ap (slice_get cs) e ∙ at_o) in
            absurd (true≢false (sym (ap (same_call o) same ∙ same_itself o) ∙ (over_parts z o is).other))
      ]
    ]
  ]

-- The first in both senses.
pub record IsFirstOver (cs : List Inlinee) (y : Inlinee) : Type 0 where
  pub k : ℕ
  pub x : Inlinee
  pub at_x : slice_get cs k ≡ Some x
  pub at_y : slice_get cs (suc k) ≡ Some y
  pub over : is_over y x ≡ true
  pub none : (j : ℕ) (a b : Inlinee) → suc j ≤ k → slice_get cs j ≡ Some a → slice_get cs (suc j) ≡ Some b → is_over b a ≡ false

first_over_is : (cs : List Inlinee) (y : Inlinee) → first_over cs ≡ Some y → IsFirstOver cs y
first_over_is [] y is = absurd (none-some y is)
first_over_is (x ∷ []) y is = absurd (none-some y is)
first_over_is (x ∷ z ∷ cs) y is = by (is_over z x) refl is (first_over_is (z ∷ cs) y) where
  by : (b : Bool) → is_over z x ≡ b → cond b (Some z) (first_over (z ∷ cs)) ≡ Some y → (first_over (z ∷ cs) ≡ Some y → IsFirstOver (z ∷ cs) y) → IsFirstOver (x ∷ z ∷ cs) y
  by true over is next = record {
    k = 0;
    x = x;
    at_x = refl;
    at_y = is;
    over = subst (λ w. is_over w x ≡ true) (same_Some z y is) over;
    none = λ j a b less. absurd (omega arith);
  }
  by false fails is next = let f = next is in record { k = suc f.k; x = f.x; at_x = f.at_x; at_y = f.at_y; over = f.over; none = earlier f } where
    earlier : (f : IsFirstOver (z ∷ cs) y) → (j : ℕ) (a b : Inlinee) → suc j ≤ suc f.k → slice_get (x ∷ z ∷ cs) j ≡ Some a → slice_get (x ∷ z ∷ cs) (suc j) ≡ Some b → is_over b a ≡ false
    earlier f zero a b less at_a at_b = let ea = same_Some x a at_a in let eb = same_Some z b at_b in subst (λ w. is_over b w ≡ false) ea (subst (λ w. is_over w x ≡ false) eb fails)
    earlier f (suc j) a b less at_a at_b = f.none j a b (omega arith) at_a at_b

first_over_none : (cs : List Inlinee) → first_over cs ≡ None → (j : ℕ) (a b : Inlinee) → slice_get cs j ≡ Some a → slice_get cs (suc j) ≡ Some b → is_over b a ≡ false
first_over_none [] none j a b at_a at_b = absurd (none-some a at_a)
first_over_none (x ∷ []) none j a b at_a at_b = absurd (none-some b at_b)
first_over_none (x ∷ z ∷ cs) none j a b at_a at_b = by (is_over z x) refl none j at_a at_b (first_over_none (z ∷ cs)) where
  by : (t : Bool) → is_over z x ≡ t → cond t (Some z) (first_over (z ∷ cs)) ≡ None → (j : ℕ) → slice_get (x ∷ z ∷ cs) j ≡ Some a → slice_get (z ∷ cs) j ≡ Some b →
      (first_over (z ∷ cs) ≡ None → (j : ℕ) (a b : Inlinee) → slice_get (z ∷ cs) j ≡ Some a → slice_get (z ∷ cs) (suc j) ≡ Some b → is_over b a ≡ false) → is_over b a ≡ false
  by true over none j at_a at_b next = absurd (none-some z (sym none))
  by false fails none zero at_a at_b next = let ea = same_Some x a at_a in let eb = same_Some z b at_b in subst (λ w. is_over b w ≡ false) ea (subst (λ w. is_over w x ≡ false) eb fails)
  by false fails none (suc j) at_a at_b next = next none j a b at_a at_b

-- what a test finds first
pub record IsFound {X : Type 0} (test : X → Bool) (xs : List X) (x : X) : Type 0 where
  pub m : ℕ
  pub at_x : slice_get xs m ≡ Some x
  pub passes : test x ≡ true
  pub before : (j : ℕ) (y : X) → j < m → slice_get xs j ≡ Some y → test y ≡ false

pub find_is : {X : Type 0} (test : X → Bool) (xs : List X) (x : X) → find test xs ≡ Some x → IsFound test xs x
find_is test [] x is = absurd (none-some x is)
find_is {X} test (y ∷ xs) x is = by (test y) refl is (find_is test xs x) where
  by : (b : Bool) → test y ≡ b → cond b (Some y) (find test xs) ≡ Some x → (find test xs ≡ Some x → IsFound test xs x) → IsFound test (y ∷ xs) x
  by true passes is next = record { m = 0; at_x = is; passes = subst (λ z. test z ≡ true) (same_Some y x is) passes; before = λ j z less. absurd (omega arith) }
  by false fails is next = let f = next is in record { m = suc f.m; at_x = f.at_x; passes = f.passes; before = earlier f } where
    earlier : (f : IsFound test xs x) → (j : ℕ) (z : X) → j < suc f.m → slice_get (y ∷ xs) j ≡ Some z → test z ≡ false
    earlier f zero z less at = subst (λ w. test w ≡ false) (same_Some y z at) fails
    earlier f (suc j) z less at = f.before j z (omega arith) at

module _ (f : Function) where
  abbrev calls : List Inlinee
  calls = calls_in_order f

  pub in_order : AreByDepth calls
  in_order = let is = sorted_table (λ (i : Inlinee). i.depth) (λ i. i.start) f.inlinees in record { depths = is.starts_ascend; starts = is.sizes_ascend }

  there : (x : Inlinee) → In f.inlinees x → In calls x
  there x among = to_table (λ (i : Inlinee). i.depth) (λ i. i.start) f.inlinees calls (sorted_table (λ i. i.depth) (λ i. i.start) f.inlinees) x among

  among : (x : Inlinee) → In calls x → In f.inlinees x
  among x at = from_table (λ (i : Inlinee). i.depth) (λ i. i.start) f.inlinees calls (sorted_table (λ i. i.depth) (λ i. i.start) f.inlinees) x at

  -- a call that overlaps is over one of those in order
  over_one : (z : Inlinee) → overlaps f z ≡ true → (o : Inlinee) × In calls o × (is_over z o ≡ true)
  over_one z is = let found = any_some (is_over z) f.inlinees is in (found.0, there found.0 found.1, found.2)

  -- a test of those in order is a test of all
  pub any_in_order : (test : Inlinee → Bool) → list_any test calls ≡ list_any test f.inlinees
  any_in_order test = by (list_any test calls) refl (list_any test f.inlinees) refl where
    by : (a : Bool) → list_any test calls ≡ a → (b : Bool) → list_any test f.inlinees ≡ b → a ≡ b
    by true is true also = refl
    by false is false also = refl
    by true is false also = let found = any_some test calls is in absurd (true≢false (sym (any_in test f.inlinees found.0 (among found.0 found.1) found.2) ∙ also))
    by false is true also = let found = any_some test f.inlinees also in absurd (true≢false (sym (any_in test calls found.0 (there found.0 found.1) found.2) ∙ is))

  by_first : (y : Inlinee) → IsFirstOver calls y → (z : Inlinee) → IsFound (overlaps f) calls z → (z.depth ≡ y.depth) × (z.start ≡ y.start)
  by_first y first z found = elim (cases_lt found.m (suc first.k)) [
    | inl less ↦
        let o = over_one z found.passes in
        let far = over_later calls in_order first.k found.m o.1.0 z o.0 (λ j a b within. first.none j a b within) (omega arith) found.at_x o.1.1 o.2 in
        let two = starts_with calls in_order found.m o.1.0 z o.0 (omega arith) found.at_x o.1.1 o.2 in
        let low = in_order.depths found.m (suc first.k) z y (omega arith) found.at_x first.at_y in
        let high = in_order.depths (suc first.k) o.1.0 y o.0 (omega arith) first.at_y o.1.1 in
        let depths : z.depth ≡ y.depth = omega (arith, two.0) in
        let below = in_order.starts found.m (suc first.k) z y (omega arith) found.at_x first.at_y depths in
        let above = in_order.starts (suc first.k) o.1.0 y o.0 (omega arith) first.at_y o.1.1 (omega (arith, two.0)) in
        (depths, omega (arith, two.1))
    | inr more ↦ elim (cases_lt (suc first.k) found.m) [
      | inl less ↦ absurd (true≢false (sym (any_in (is_over y) f.inlinees first.x (among first.x (first.k, first.at_x)) first.over) ∙ found.before (suc first.k) y less first.at_y))
      | inr least ↦
          let e : found.m ≡ suc first.k = omega arith in
          let same : z ≡ y = same_Some z y (sym found.at_x ∙ ap (slice_get calls) e ∙ first.at_y) in
          (ap (λ (i : Inlinee). i.depth) same, ap (λ (i : Inlinee). i.start) same)
    ]
  ]

  -- the first one that overlaps is seen in the pairs
  pub overlap_seen : {E : Type 0} (tell : ℕ → ℕ → E) → option_map (λ (i : Inlinee). tell i.depth i.start) (find (overlaps f) calls) ≡ option_map (λ (i : Inlinee). tell i.depth i.start) (first_over calls)
  overlap_seen {E} tell = by (find (overlaps f) calls) refl (first_over calls) refl where
    by : (a : Option Inlinee) → find (overlaps f) calls ≡ a → (b : Option Inlinee) → first_over calls ≡ b →
        option_map (λ (i : Inlinee). tell i.depth i.start) a ≡ option_map (λ (i : Inlinee). tell i.depth i.start) b
    by None is None also = refl
    by None is (Some y) also =
        let first = first_over_is calls y also in
        absurd (true≢false (sym (any_in (is_over y) f.inlinees first.x (among first.x (first.k, first.at_x)) first.over) ∙ find_none (overlaps f) calls is y (suc first.k, first.at_y)))
    by (Some z) is None also =
        let found = find_is (overlaps f) calls z is in
        let o = over_one z found.passes in
        let most : ℕ = found.m + o.1.0 in
        let far = over_later calls in_order most found.m o.1.0 z o.0 (λ j a b within at_a at_b. first_over_none calls also j a b at_a at_b) (omega arith) found.at_x o.1.1 o.2 in
        absurd (omega arith)
    by (Some z) is (Some y) also =
        let two = by_first y (first_over_is calls y also) z (find_is (overlaps f) calls z is) in
        ap (λ n. Some (tell n z.start)) two.0 ∙ ap (λ n. Some (tell y.depth n)) two.1

-- One turn of the loop over the pairs.
first_over_short : (xs : List Inlinee) → length xs ≤ 1 → first_over xs ≡ None
first_over_short [] short = refl
first_over_short (x ∷ []) short = refl
first_over_short (x ∷ y ∷ xs) short = absurd (omega arith)

module _ (calls : List GivenInlinee) (d : GivenInlinee) where
  abbrev call_at : ℕ → Inlinee
  call_at i = inlinee_seen (slice_index_or calls i d)

  over_step : (j : ℕ) → suc j < length calls →
      first_over (map inlinee_seen (drop j calls)) ≡ cond (is_over (call_at (suc j)) (call_at j)) (Some (call_at (suc j))) (first_over (map inlinee_seen (drop (suc j) calls)))
  over_step j within =
      let e : j + 1 ≡ suc j = omega arith in
      let rest : drop (suc j) calls ≡ slice_index_or calls (suc j) d ∷ drop (suc j + 1) calls = drop_more calls (suc j) d within in
      ap (λ l. first_over (map inlinee_seen l)) (drop_more calls j d (omega arith) ∙ ap (λ n. slice_index_or calls j d ∷ drop n calls) e ∙ ap (λ l. slice_index_or calls j d ∷ l) rest)
      ∙ ap (λ l. cond (is_over (call_at (suc j)) (call_at j)) (Some (call_at (suc j))) (first_over (map inlinee_seen l))) (sym rest)

  pub over_turn : (i : ℕ) → 1 ≤ i → i < length calls →
      first_over (map inlinee_seen (drop (i - 1) calls)) ≡ cond (is_over (call_at i) (call_at (i - 1))) (Some (call_at i)) (first_over (map inlinee_seen (drop i calls)))
  over_turn zero low within = absurd (omega arith)
  over_turn (suc j) low within =
      let e : j ≡ suc j - 1 = omega arith in
      subst (λ k. first_over (map inlinee_seen (drop k calls)) ≡ cond (is_over (call_at (suc j)) (call_at k)) (Some (call_at (suc j))) (first_over (map inlinee_seen (drop (suc j) calls)))) e (over_step j within)

  module _ (f : Function) (are : map inlinee_seen calls ≡ calls_in_order f) (i : ℕ) where
    seen : overlap f ≡ option_map (λ (c : Inlinee). Overlap f.start c.depth c.start) (first_over (map inlinee_seen calls))
    seen = overlap_seen f (Overlap f.start) ∙ ap (λ l. option_map (λ (c : Inlinee). Overlap f.start c.depth c.start) (first_over l)) (sym are)

    pub over_here : 1 ≤ i → i < length calls → is_over (call_at i) (call_at (i - 1)) ≡ true → first_over (map inlinee_seen (drop (i - 1) calls)) ≡ first_over (map inlinee_seen calls) →
        Some (Overlap f.start (call_at i).depth (call_at i).start) ≡ overlap f
    over_here low within over so_far =
        let found : first_over (map inlinee_seen calls) ≡ Some (call_at i) = sym so_far ∙ over_turn i low within ∙ ap (λ b. cond b (Some (call_at i)) (first_over (map inlinee_seen (drop i calls)))) over in
        sym (seen ∙ ap (option_map (λ (c : Inlinee). Overlap f.start c.depth c.start)) found)

    pub over_next : 1 ≤ i → i < length calls → is_over (call_at i) (call_at (i - 1)) ≡ false → first_over (map inlinee_seen (drop (i - 1) calls)) ≡ first_over (map inlinee_seen calls) →
        first_over (map inlinee_seen (drop (i + 1 - 1) calls)) ≡ first_over (map inlinee_seen calls)
    over_next low within fails so_far =
        let e : i + 1 - 1 ≡ i = omega arith in
        ap (λ n. first_over (map inlinee_seen (drop n calls))) e
        ∙ sym (over_turn i low within ∙ ap (λ b. cond b (Some (call_at i)) (first_over (map inlinee_seen (drop i calls)))) fails) ∙ so_far

    pub over_end : length calls ≤ i → first_over (map inlinee_seen (drop (i - 1) calls)) ≡ first_over (map inlinee_seen calls) → None ≡ overlap f
    over_end past so_far =
        let short : length (map inlinee_seen (drop (i - 1) calls)) ≤ 1 = omega (arith, length-map (drop (i - 1) calls) inlinee_seen, length-drop (i - 1) calls) in
        sym (seen ∙ ap (option_map (λ (c : Inlinee). Overlap f.start c.depth c.start)) (sym so_far ∙ first_over_short (map inlinee_seen (drop (i - 1) calls)) short))
