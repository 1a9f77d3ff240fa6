-- The calls that are laid out for a function without a fault stand behind those around them.
use Rattle.std.proofs.Common.{◌≡◌, inl, inr, ℕ, zero, suc, ◌+◌, ◌<◌, ◌≤◌, true, List, [], ◌∷◌, length, Some, refl, sym, ap, ◌∙◌, arith}
use Rattle.std.specs.List.{slice_get}
use Rattle.std.proofs.lemmas.Bool.{cases_lt, le-leb, lt-ltb, ltb-true}
use Rattle.std.proofs.lemmas.Option.{none-some, same_Some}
use Rattle.bz_base.specs.Span.{inside, last_address}
use Rattle.bz_breakpad_lines.specs.Table.{Function, Inlinee, SourceLine, Table}
use Rattle.bz_gsym_layout.specs.Members.{In}
use Rattle.bz_convert.specs.Plan.{calls_beside, changes, distinct_calls, is_checked, laid_calls, sized_calls}
use Rattle.bz_convert.proofs.CallLemmas.{are_sound, is_table, lies_within}
use Rattle.bz_convert.proofs.DistinctLemmas.{to_distinct}
use Rattle.bz_convert.proofs.FaultLemmas.{IsClean, IsNested}
use Rattle.bz_convert.proofs.LaidLemmas.{laid_checked}
use Rattle.bz_convert.proofs.NestingLemmas.{AreNested, has, has_parts}
use Rattle.bz_convert.proofs.SizedLemmas.{from_sized}
use Rattle.bz_convert.proofs.SoundLemmas.{are_nested}

-- Calls that are nested go down by one depth at most.
module _ {X : Type 0} (depth start size : X → ℕ) (xs : List X) (i : ℕ) (x y : X) (at_x : slice_get xs i ≡ Some x) (at_y : slice_get xs (suc i) ≡ Some y)
    (is : AreNested depth start size (start y) 0 xs) (holds : has depth start size (start y) y ≡ true) where
  goes_down_by_one : depth y ≤ depth x + 1
  goes_down_by_one =
      elim (cases_lt (depth x + 1) (depth y)) [
        | inr less ↦ less
        | inl more ↦ absurd (too_deep (depth y) (suc i) y at_y holds (omega arith) more refl)
      ] where
        -- an ancestor of depth one below x, before x, and its own parent beside x
        beside : (j : ℕ) (z : X) → slice_get xs j ≡ Some z → has depth start size (start y) z ≡ true → depth z ≡ depth x + 1 → j < suc i → ⊥
        beside j z at_z h d less =
            let before : j < i = elim (cases_lt j i) [ inl h ↦ h | inr same ↦ (let e : j ≡ i = omega arith in absurd (omega (arith, d, ap depth (same_Some z x (sym at_z ∙ ap (slice_get xs) e ∙ at_x))))) ] in
            let p = is.parent j z at_z h (omega (arith, d)) in
            let w = p.1 in
            let end = is.apart p.0 i w x (let q = p.2 in omega arith) p.3 at_x (let e = p.5 in omega (arith, d)) in
            let up = is.ascend i (suc i) x y (omega arith) at_x at_y in
            let parts = has_parts depth start size (start y) w p.4 in
            omega (arith, end, up, parts.1)

        too_deep : (n j : ℕ) (z : X) → slice_get xs j ≡ Some z → has depth start size (start y) z ≡ true → j < suc (suc i) → depth x + 1 < depth z → depth z ≡ n → ⊥
        too_deep zero j z at_z h less more same = omega arith
        too_deep (suc n) j z at_z h less more same =
            let p = is.parent j z at_z h (omega arith) in
            elim (cases_lt (depth x + 1) (depth p.1)) [
              | inl still ↦ too_deep n p.0 p.1 p.3 p.4 (let q = p.2 in omega arith) still (let e = p.5 in omega arith)
              | inr least ↦ beside p.0 p.1 p.3 p.4 (let e = p.5 in omega arith) (let q = p.2 in omega arith)
            ]

-- the first is outermost, each goes down by one depth at most, and none starts before the function or
-- before one in front of it
pub record AreCallsInOrder (start : ℕ) (calls : List Inlinee) : Type 0 where
  pub first : (x : Inlinee) → slice_get calls 0 ≡ Some x → x.depth ≡ 0
  pub down : (i : ℕ) (x y : Inlinee) → slice_get calls i ≡ Some x → slice_get calls (suc i) ≡ Some y → y.depth ≤ x.depth + 1
  pub from : (i : ℕ) (x : Inlinee) → slice_get calls i ≡ Some x → start ≤ x.start
  pub ascend : (i j : ℕ) (x y : Inlinee) → i ≤ j → slice_get calls i ≡ Some x → slice_get calls j ≡ Some y → x.start ≤ y.start

no_calls : (start : ℕ) → AreCallsInOrder start []
no_calls start = record {
  first = λ x at. absurd (none-some x at);
  down = λ i x y at. absurd (none-some x at);
  from = λ i x at. absurd (none-some x at);
  ascend = λ i j x y less at. absurd (none-some x at);
}

module _ (f : Function) (is_nested : IsNested f) (checked : is_checked f ≡ true) where
  abbrev depth : Inlinee → ℕ
  depth i = i.depth

  abbrev start : Inlinee → ℕ
  start i = i.start

  abbrev size : Inlinee → ℕ
  size i = i.size

  nested_at : (addr : ℕ) → AreNested depth start size addr 0 (sized_calls f)
  nested_at addr = are_nested depth start size (distinct_calls f.inlinees) (sized_calls f) (are_sound f is_nested checked) (is_table f is_nested checked) addr

  of_size : (x : Inlinee) → In (sized_calls f) x → In (distinct_calls f.inlinees) x × (0 < x.size)
  of_size x found = let own = from_sized f is_nested.apart x found in (to_distinct f.inlinees x own.0, ltb-true 0 x.size own.1)

  own_start : (x : Inlinee) → In (sized_calls f) x → inside x.start x.size x.start ≡ true
  own_start x found =
      let own = of_size x found in
      let fits = (are_sound f is_nested checked).fits x own.0 own.1 in
      let some = own.1 in
      rw (le-leb (x.start + x.size) last_address fits, le-leb x.start x.start (omega arith), lt-ltb x.start (x.start + x.size) (omega arith)) refl

  sized_order : AreCallsInOrder f.start (sized_calls f)
  sized_order = record {
    first = λ x at. elim (cases_lt 0 x.depth) [
      | inl deep ↦ absurd (let p = (nested_at x.start).parent 0 x at (own_start x (0, at)) deep in let less = p.2 in omega arith)
      | inr none ↦ omega arith
    ];
    down = λ i x y at_x at_y. goes_down_by_one depth start size (sized_calls f) i x y at_x at_y (nested_at y.start) (own_start y (suc i, at_y));
    from = λ i x at. let own = of_size x (i, at) in (lies_within f is_nested checked x.depth x own.0 own.1 refl).0;
    ascend = λ i j x y less at_x at_y. (is_table f is_nested checked).starts_ascend i j x y less at_x at_y;
  }

module _ (table : Table) (f : Function) (clean : IsClean table f) where
  pub laid_order : AreCallsInOrder f.start (laid_calls f)
  laid_order = by (changes f) (laid_checked f) where
    by : (rows : List (ℕ × SourceLine)) → (0 < length rows → is_checked f ≡ true) → AreCallsInOrder f.start (calls_beside rows (sized_calls f))
    by [] checked = no_calls f.start
    by (row ∷ rows) checked = let is = checked (omega arith) in sized_order f (clean.nested is) is
