-- The calls of a function in which none overlaps another. Those that start alike and lie as deep say
-- the same, so sorted ones stand beside each other. Without repeats they are those of the plan.
use Rattle.std.proofs.Common.{◌≡◌, ◌⊎◌, inl, inr, ℕ, zero, suc, ◌<◌, ◌≤◌, Bool, true, false, cond, List, [], ◌∷◌, map, Option, Some, None, refl, sym, ap, subst, ◌∙◌, arith}
use Rattle.std.specs.List.{AllByRecursion, filter, slice_get}
use Rattle.std.proofs.lemmas.Bool.{cases_lt, eq-eqb, true≢false}
use Rattle.std.proofs.lemmas.Bool.Decides.{nat_tests}
use Rattle.std.proofs.lemmas.Option.{none-some, same_Some}
use Rattle.bz_base.specs.Nearest.{IsTable}
use Rattle.bz_base.specs.Sorting.{Ascends, IsUpTo, is_below, put, sorted}
use Rattle.bz_breakpad.specs.Lent.{inlinee_seen}
use Rattle.bz_breakpad_function.specs.InOrder.{calls_in_order}
use Rattle.bz_breakpad_lines.specs.Table.{Function, Inlinee}
use Rattle.bz_convert.specs.Fault.{is_over}
use Rattle.bz_gsym_layout.specs.Members.{In}
use Rattle.bz_convert.specs.Plan.{distinct_calls, has_size, same_call, sized_calls}
use Rattle.bz_convert.proofs.DistinctLemmas.{from_distinct, none_twice, same_call_is, same_itself, to_distinct}
use Rattle.bz_convert.proofs.FaultLemmas.{any_none}
use Rattle.bz_gsym_layout.proofs.MemberLemmas.{filter_to, member_of, filter_from, pair_from}
use Rattle.bz_convert.specs.Laid.{AreApart}
use Rattle.bz_convert.specs.Sized.{is_repeated, placed_inlinees, without_repeats}
use Rattle.bz_convert.specs.declared.conversion.calls.PlacedCall.{PlacedCall}
use Rattle.bz_convert.proofs.MemberLemmas.{from_table, to_table, two_alike}
use Rattle.bz_search.proofs.SortingLaws.{sorted_ascends, sorted_table, table_sorted}

abbrev start : Inlinee → ℕ
start i = i.start

abbrev depth : Inlinee → ℕ
depth i = i.depth

-- a call stands before another in the order, and not beside it
record Below (x y : Inlinee) : Type 0 where
  starts : x.start ≤ y.start
  depths : x.start ≡ y.start → x.depth < y.depth

never_both : (x y : Inlinee) → Below x y → Below y x → ⊥
never_both x y a b = let same : x.start ≡ y.start = omega (arith, a.starts, b.starts) in omega (arith, a.depths same, b.depths (sym same))

abbrev Strict : List Inlinee → Type 0
Strict [] = Unit {0}
Strict (x ∷ xs) = ((y : Inlinee) → In xs y → Below x y) × Strict xs

in_cases : (x : Inlinee) (xs : List Inlinee) (z : Inlinee) → In (x ∷ xs) z → (x ≡ z) ⊎ In xs z
in_cases x xs z (zero, at) = inl (same_Some x z at)
in_cases x xs z (suc i, at) = inr (i, at)

-- two lists in strict order that have the same calls are one list
strict_same : (xs ys : List Inlinee) → Strict xs → Strict ys → ((z : Inlinee) → In xs z → In ys z) → ((z : Inlinee) → In ys z → In xs z) → xs ≡ ys
strict_same [] [] sx sy to from = refl
strict_same [] (y ∷ ys) sx sy to from = absurd (none-some y (from y (0, refl)).1)
strict_same (x ∷ xs) [] sx sy to from = absurd (none-some x (to x (0, refl)).1)
strict_same (x ∷ xs) (y ∷ ys) sx sy to from =
    ap (λ z. z ∷ xs) same ∙ ap (λ l. y ∷ l) (strict_same xs ys sx.1 sy.1 (λ z found. forth z (sx.0 z found) (in_cases y ys z (to z (suc found.0, found.1)))) (λ z found. back z (sy.0 z found) (in_cases x xs z (from z (suc found.0, found.1))))) where
      heads : (x ≡ y) ⊎ In xs y → (y ≡ x) ⊎ In ys x → x ≡ y
      heads (inl same) other = same
      heads (inr found) (inl same) = sym same
      heads (inr found) (inr also) = absurd (never_both x y (sx.0 y found) (sy.0 x also))

      same : x ≡ y
      same = heads (in_cases x xs y (from y (0, refl))) (in_cases y ys x (to x (0, refl)))

      forth : (z : Inlinee) → Below x z → (y ≡ z) ⊎ In ys z → In ys z
      forth z below (inr found) = found
      forth z below (inl at) = let own = subst (λ w. Below w z) (same ∙ at) below in absurd (never_both z z own own)

      back : (z : Inlinee) → Below y z → (x ≡ z) ⊎ In xs z → In xs z
      back z below (inr found) = found
      back z below (inl at) = let own = subst (λ w. Below w z) (sym same ∙ at) below in absurd (never_both z z own own)

strictly : (x y : Inlinee) → IsUpTo start depth x y → (x.start ≡ y.start → x.depth ≡ y.depth → ⊥) → Below x y
strictly x y up other = record {
  starts = up.firsts;
  depths = λ same. elim (cases_lt x.depth y.depth) [ inl less ↦ less | inr more ↦ absurd (other same (omega (arith, up.seconds same))) ];
}

strict_from : (xs : List Inlinee) → Ascends start depth xs →
    ((i j : ℕ) (x y : Inlinee) → i < j → slice_get xs i ≡ Some x → slice_get xs j ≡ Some y → x.start ≡ y.start → x.depth ≡ y.depth → ⊥) → Strict xs
strict_from [] up none = tt
strict_from (x ∷ xs) up none = (
  λ y found. strictly x y (member_of (IsUpTo start depth x) xs up.0 y found) (none 0 (suc found.0) x y (omega arith) refl found.1),
  strict_from xs up.1 (λ i j y z less at_y at_z. none (suc i) (suc j) y z (omega arith) at_y at_z),
)

-- Without repeats.
repeats_from : (before : Option Inlinee) (xs : List Inlinee) (z : Inlinee) → In (without_repeats before xs) z → In xs z
repeats_from before [] z found = found
repeats_from before (x ∷ xs) z found = by (is_repeated before x) found (repeats_from (Some x) xs z) where
  further : In xs z → In (x ∷ xs) z
  further (i, at) = (suc i, at)

  by : (b : Bool) → In (cond b (without_repeats (Some x) xs) (x ∷ without_repeats (Some x) xs)) z → (In (without_repeats (Some x) xs) z → In xs z) → In (x ∷ xs) z
  by true found next = further (next found)
  by false (zero, at) next = (0, at)
  by false (suc i, at) next = further (next (i, at))

repeated_is : (before : Option Inlinee) (x : Inlinee) → is_repeated before x ≡ true → before ≡ Some x
repeated_is None x is = absurd (true≢false (sym is))
repeated_is (Some b) x is = ap Some (same_call_is b x is)

repeats_to : (before : Option Inlinee) (xs : List Inlinee) (z : Inlinee) → In xs z → (before ≡ Some z) ⊎ In (without_repeats before xs) z
repeats_to before [] z found = absurd (none-some z found.1)
repeats_to before (x ∷ xs) z (i, at) = all i at (λ found. repeats_to (Some x) xs z found) where
  own : (x ≡ z) → (b : Bool) → is_repeated before x ≡ b → (before ≡ Some z) ⊎ In (cond b (without_repeats (Some x) xs) (x ∷ without_repeats (Some x) xs)) z
  own same true is = inl (repeated_is before x is ∙ ap Some same)
  own same false is = inr (0, ap Some same)

  further : (b : Bool) → In (without_repeats (Some x) xs) z → In (cond b (without_repeats (Some x) xs) (x ∷ without_repeats (Some x) xs)) z
  further true found = found
  further false (k, there) = (suc k, there)

  more : (Some x ≡ Some z) ⊎ In (without_repeats (Some x) xs) z → (before ≡ Some z) ⊎ In (without_repeats before (x ∷ xs)) z
  more (inl same) = own (same_Some x z same) (is_repeated before x) refl
  more (inr found) = inr (further (is_repeated before x) found)

  all : (i : ℕ) → slice_get (x ∷ xs) i ≡ Some z → (In xs z → (Some x ≡ Some z) ⊎ In (without_repeats (Some x) xs) z) → (before ≡ Some z) ⊎ In (without_repeats before (x ∷ xs)) z
  all zero at next = own (same_Some x z at) (is_repeated before x) refl
  all (suc i) at next = more (next (i, at))

-- calls that stand alike are the same
abbrev AreSpots : List Inlinee → Type 0
AreSpots xs = (x y : Inlinee) → In xs x → In xs y → x.start ≡ y.start → x.depth ≡ y.depth → x ≡ y

record IsStrictAfter (b : Inlinee) (xs : List Inlinee) : Type 0 where
  strict : Strict xs
  above : (y : Inlinee) → In xs y → Below b y

up_then_below : (b x y : Inlinee) → IsUpTo start depth b x → Below x y → Below b y
up_then_below b x y up below = record {
  starts = omega (arith, up.firsts, below.starts);
  depths = λ same.
      let one : b.start ≡ x.start = omega (arith, up.firsts, below.starts) in
      let two : x.start ≡ y.start = omega (arith, up.firsts, below.starts) in
      omega (arith, up.seconds one, below.depths two);
}

repeats_strict : (b : Inlinee) (xs : List Inlinee) → AllByRecursion (IsUpTo start depth b) xs → Ascends start depth xs → AreSpots (b ∷ xs) → IsStrictAfter b (without_repeats (Some b) xs)
repeats_strict b [] all up spots = record { strict = tt; above = λ y found. absurd (none-some y found.1) }
repeats_strict b (x ∷ xs) all up spots =
    by (same_call b x) refl (repeats_strict x xs up.0 up.1 (λ y z in_y in_z. spots y z (suc in_y.0, in_y.1) (suc in_z.0, in_z.1))) where
      by : (t : Bool) → same_call b x ≡ t → IsStrictAfter x (without_repeats (Some x) xs) → IsStrictAfter b (cond t (without_repeats (Some x) xs) (x ∷ without_repeats (Some x) xs))
      by true is next = subst (λ w. IsStrictAfter w (without_repeats (Some x) xs)) (sym (same_call_is b x is)) next
      by false fails next = record { strict = (next.above, next.strict); above = λ y found. higher y (in_cases x (without_repeats (Some x) xs) y found) } where
        first : Below b x
        first = strictly b x all.0 (λ starts depths. true≢false (sym (ap (same_call b) (sym (spots b x (0, refl) (1, refl) starts depths)) ∙ same_itself b) ∙ fails))

        higher : (y : Inlinee) → (x ≡ y) ⊎ In (without_repeats (Some x) xs) y → Below b y
        higher y (inl same) = subst (Below b) same first
        higher y (inr found) = up_then_below b x y all.0 (next.above y found)

first_strict : (xs : List Inlinee) → Ascends start depth xs → AreSpots xs → Strict (without_repeats None xs)
first_strict [] up spots = tt
first_strict (x ∷ xs) up spots = let is = repeats_strict x xs up.0 up.1 spots in (is.above, is.strict)

none_before : (xs : List Inlinee) (z : Inlinee) → In xs z → In (without_repeats None xs) z
none_before xs z found = by (repeats_to None xs z found) where
  by : (None ≡ Some z) ⊎ In (without_repeats None xs) z → In (without_repeats None xs) z
  by (inl none) = absurd (none-some z none)
  by (inr there) = there

-- Lists that are sorted, as they are seen.
module _ {X Y : Type 0} (view : X → Y) (first second : Y → ℕ) where
  put_seen : (x : X) (ys : List X) → map view (put (λ p. first (view p)) (λ p. second (view p)) x ys) ≡ put first second (view x) (map view ys)
  put_seen x [] = refl
  put_seen x (y ∷ ys) = by (is_below first second (view y) (view x)) (put_seen x ys) where
    by : (b : Bool) → map view (put (λ p. first (view p)) (λ p. second (view p)) x ys) ≡ put first second (view x) (map view ys) →
        map view (cond b (y ∷ put (λ p. first (view p)) (λ p. second (view p)) x ys) (x ∷ y ∷ ys)) ≡ cond b (view y ∷ put first second (view x) (map view ys)) (view x ∷ view y ∷ map view ys)
    by true next = ap (λ l. view y ∷ l) next
    by false next = refl

  sorted_seen : (xs : List X) → map view (sorted (λ p. first (view p)) (λ p. second (view p)) xs) ≡ sorted first second (map view xs)
  sorted_seen [] = refl
  sorted_seen (x ∷ xs) = put_seen x (sorted (λ p. first (view p)) (λ p. second (view p)) xs) ∙ ap (put first second (view x)) (sorted_seen xs)

module _ (f : Function) (apart : AreApart f) where
  over_there : (x y : Inlinee) → x.start ≡ y.start → x.depth ≡ y.depth → same_call x y ≡ false → is_over y x ≡ true
  over_there x y starts depths other = rw (other, eq-eqb x.depth y.depth depths, eq-eqb x.start y.start starts) refl

  spot : (x y : Inlinee) → In f.inlinees x → In f.inlinees y → x.start ≡ y.start → x.depth ≡ y.depth → x ≡ y
  spot x y in_x in_y starts depths = by (same_call x y) refl where
    by : (t : Bool) → same_call x y ≡ t → x ≡ y
    by true is = same_call_is x y is
    by false fails = absurd (true≢false (sym (over_there x y starts depths fails) ∙ any_none (is_over y) f.inlinees (apart y in_y) x in_x))

  abbrev distinct : List Inlinee
  distinct = filter has_size (distinct_calls f.inlinees)

  abbrev all : List Inlinee
  all = filter has_size (calls_in_order f)

  own_table : IsTable start depth distinct (sized_calls f)
  own_table = sorted_table start depth distinct

  in_order : IsTable depth start f.inlinees (calls_in_order f)
  in_order = sorted_table depth start f.inlinees

  pub from_sized : (z : Inlinee) → In (sized_calls f) z → In f.inlinees z × (has_size z ≡ true)
  from_sized z found =
      let among = from_table start depth distinct (sized_calls f) own_table z found in
      let kept = filter_from has_size (distinct_calls f.inlinees) among.0 z among.1 in
      (from_distinct f.inlinees z kept.0, kept.1)

  to_sized : (z : Inlinee) → In f.inlinees z → has_size z ≡ true → In (sized_calls f) z
  to_sized z found sized =
      let kept = to_distinct f.inlinees z found in
      to_table start depth distinct (sized_calls f) own_table z (filter_to has_size (distinct_calls f.inlinees) kept.0 z kept.1 sized)

  from_all : (z : Inlinee) → In (sorted start depth all) z → In f.inlinees z × (has_size z ≡ true)
  from_all z found =
      let among = from_table start depth all (sorted start depth all) (sorted_table start depth all) z found in
      let kept = filter_from has_size (calls_in_order f) among.0 z among.1 in
      (from_table depth start f.inlinees (calls_in_order f) in_order z kept.0, kept.1)

  to_all : (z : Inlinee) → In f.inlinees z → has_size z ≡ true → In (sorted start depth all) z
  to_all z found sized =
      let kept = to_table depth start f.inlinees (calls_in_order f) in_order z found in
      to_table start depth all (sorted start depth all) (sorted_table start depth all) z (filter_to has_size (calls_in_order f) kept.0 z kept.1 sized)

  sized_differ : (i j : ℕ) (x y : Inlinee) → i < j → slice_get (sized_calls f) i ≡ Some x → slice_get (sized_calls f) j ≡ Some y → x.start ≡ y.start → x.depth ≡ y.depth → ⊥
  sized_differ i j x y less at_i at_j starts depths =
      let two = two_alike start depth distinct (sized_calls f) own_table i j x y less at_i at_j (sym starts) (sym depths) in
      let pair = pair_from has_size (distinct_calls f.inlinees) two.i two.j two.x two.y two.before two.at_i two.at_j in
      let alike : (two.x.start ≡ two.y.start) × (two.x.depth ≡ two.y.depth) = (let a = two.passes_i in let b = two.passes_j in grind (arith, nat_tests), let a = two.passes_i in let b = two.passes_j in grind (arith, nat_tests)) in
      none_twice f.inlinees pair.0 pair.1 two.x two.y pair.2 pair.3 pair.4
      (spot two.x two.y (from_distinct f.inlinees two.x (pair.0, pair.3)) (from_distinct f.inlinees two.y (pair.1, pair.4)) alike.0 alike.1)

  pub sized_are : without_repeats None (sorted start depth all) ≡ sized_calls f
  sized_are =
      strict_same (without_repeats None (sorted start depth all)) (sized_calls f)
      (first_strict (sorted start depth all) (sorted_ascends start depth all) (λ x y in_x in_y. spot x y (from_all x in_x).0 (from_all y in_y).0))
      (strict_from (sized_calls f) (sorted_ascends start depth distinct) sized_differ)
      (λ z found. let from = from_all z (repeats_from None (sorted start depth all) z found) in to_sized z from.0 from.1)
      (λ z found. let from = from_sized z found in none_before (sorted start depth all) z (to_all z from.0 from.1))

  -- calls that are sorted, without repeats
  pub placed_are : (old new : List PlacedCall) → IsTable (λ (p : PlacedCall). p.call.addr) (λ p. p.call.depth) old new → placed_inlinees old ≡ all → without_repeats None (placed_inlinees new) ≡ sized_calls f
  placed_are old new is seen =
      let view : PlacedCall → Inlinee = λ p. inlinee_seen p.call in
      let order : new ≡ sorted (λ p. start (view p)) (λ p. depth (view p)) old = table_sorted (λ p. start (view p)) (λ p. depth (view p)) old new is in
      ap (λ l. without_repeats None l) (ap (map view) order ∙ sorted_seen view start depth old ∙ ap (sorted start depth) seen) ∙ sized_are
