-- The calls of a function without a fault are nested and don't overlap, and lie inside the function.
use Rattle.std.proofs.Common.{◌≡◌, inl, inr, ℕ, zero, suc, ◌+◌, ◌^◌, ◌<◌, ◌≤◌, ◌&&◌, Bool, true, false, not, nat_le, List, Some, refl, sym, ap, ◌∙◌, arith}
use Rattle.std.specs.Prelude.{◌==◌, ◌||◌}
use Rattle.std.specs.List.{filter, list_any, slice_get}
use Rattle.std.proofs.lemmas.Bool.{and_parts, cases_lt, eq-eqb, eqb-true, leb-true, lt-ltb, ne_eqb, true≢false}
use Rattle.bz_base.specs.Nearest.{IsTable}
use Rattle.bz_base.specs.Span.{inside, last_address}
use Rattle.bz_breakpad_function.specs.Locations.{calls_around}
use Rattle.bz_breakpad_lines.specs.Table.{Inlinee, Function}
use Rattle.bz_search.proofs.SortingLaws.{sorted_table}
use Rattle.bz_gsym_layout.specs.Members.{In}
use Rattle.bz_convert.specs.Fault.{is_over, is_within}
use Rattle.bz_convert.specs.Plan.{distinct_calls, has_size, is_checked, same_call, sized_calls}
use Rattle.bz_gsym_layout.specs.Nesting.{calls_in, nested}
use Rattle.bz_convert.proofs.DistinctLemmas.{any_some, chain_distinct, from_distinct, none_twice, other_call, to_distinct}
use Rattle.bz_convert.proofs.FaultLemmas.{IsNested, any_none}
use Rattle.bz_convert.proofs.SoundLemmas.{AreSound, tree_is_chain}

-- what it is that a call of the depth of another is over it
over_is : (x y : Inlinee) → x.depth ≡ y.depth → (x ≡ y → ⊥) → is_over y x ≡ (x.start == y.start || inside x.start x.size y.start)
over_is x y depths other =
    ap (λ b. b && (not (same_call x y) && (x.start == y.start || inside x.start x.size y.start))) (eq-eqb x.depth y.depth depths)
    ∙ ap (λ b. not b && (x.start == y.start || inside x.start x.size y.start)) (other_call x y other)

neither : (a b : Bool) → (a || b) ≡ false → (a ≡ false) × (b ≡ false)
neither true b none = absurd (true≢false none)
neither false b none = (refl, none)

module _ (f : Function) (is_nested : IsNested f) (checked : is_checked f ≡ true) where
  abbrev calls : List Inlinee
  calls = distinct_calls f.inlinees

  sized : (x : Inlinee) → 0 < x.size → has_size x ≡ true
  sized x some = lt-ltb 0 x.size some

  -- no two of a depth start alike, and none starts inside another
  not_over : (x y : Inlinee) → In calls x → In calls y → x.depth ≡ y.depth → (x ≡ y → ⊥) → ((x.start == y.start) ≡ false) × (inside x.start x.size y.start ≡ false)
  not_over x y in_x in_y depths other =
      neither (x.start == y.start) (inside x.start x.size y.start)
      (sym (over_is x y depths other) ∙ any_none (is_over y) f.inlinees (is_nested.apart y (from_distinct f.inlinees y in_y)) x (from_distinct f.inlinees x in_x))

  differ : (i j : ℕ) (x y : Inlinee) → slice_get calls i ≡ Some x → slice_get calls j ≡ Some y → (i ≡ j → ⊥) → x ≡ y → ⊥
  differ i j x y at_i at_j other same =
      elim (cases_lt i j) [
        | inl less ↦ none_twice f.inlinees i j x y less at_i at_j same
        | inr more ↦ elim (cases_lt j i) [ inl less ↦ none_twice f.inlinees j i y x less at_j at_i (sym same) | inr least ↦ other (omega arith) ]
      ]

  parent : (x : Inlinee) → In calls x → 0 < x.size → 0 < x.depth →
      (y : Inlinee) × In calls y × (y.depth + 1 ≡ x.depth) × (y.start ≤ x.start) × (x.start + x.size ≤ y.start + y.size)
  parent x there some deep =
      let is : list_any (λ (outer : Inlinee). outer.depth + 1 == x.depth && is_within x.start x.size outer.start outer.size) f.inlinees ≡ true =
      sym (rw (ne_eqb x.depth 0 (λ none. omega arith)) refl) ∙ is_nested.inside x (from_distinct f.inlinees x there) (sized x some) in
      let found = any_some (λ (outer : Inlinee). outer.depth + 1 == x.depth && is_within x.start x.size outer.start outer.size) f.inlinees is in
      let y = found.0 in
      let two = and_parts (y.depth + 1 == x.depth) (is_within x.start x.size y.start y.size) found.2 in
      let bounds = and_parts (nat_le y.start x.start) (nat_le (x.start + x.size) (y.start + y.size)) two.1 in
      (y, to_distinct f.inlinees y found.1, eqb-true (y.depth + 1) x.depth two.0, leb-true y.start x.start bounds.0, leb-true (x.start + x.size) (y.start + y.size) bounds.1)

  -- a call lies in the function
  pub lies_within : (d : ℕ) (x : Inlinee) → In calls x → 0 < x.size → x.depth ≡ d → (f.start ≤ x.start) × (x.start + x.size ≤ f.start + f.size)
  lies_within zero x there some at =
      let is : is_within x.start x.size f.start f.size ≡ true = sym (rw (eq-eqb x.depth 0 at) refl) ∙ is_nested.inside x (from_distinct f.inlinees x there) (sized x some) in
      let bounds = and_parts (nat_le f.start x.start) (nat_le (x.start + x.size) (f.start + f.size)) is in
      (leb-true f.start x.start bounds.0, leb-true (x.start + x.size) (f.start + f.size) bounds.1)
  lies_within (suc d) x there some at =
      let up = parent x there some (omega arith) in
      let y = up.0 in
      let low = up.3 in
      let high = up.4 in
      let outer = lies_within d y up.1 (omega (arith, low, high)) (let e = up.2 in omega arith) in
      (omega (arith, outer.0), omega (arith, outer.1))

  end_fits : f.start + f.size ≤ last_address
  end_fits = leb-true (f.start + f.size) last_address (and_parts (not (f.size == 0)) (nat_le (f.start + f.size) last_address) checked).1

  starts_apart : (x y : Inlinee) → (x.start == y.start) ≡ false → x.start ≡ y.start → ⊥
  starts_apart x y fails same = true≢false (sym (eq-eqb x.start y.start same) ∙ fails)

  pub are_sound : AreSound (λ (i : Inlinee). i.depth) (λ i. i.start) (λ i. i.size) calls
  are_sound = record {
    apart = λ i j x y at_i at_j depths other.
        let over = not_over x y (i, at_i) (j, at_j) depths (differ i j x y at_i at_j other) in
        (starts_apart x y over.0, λ less. over.1);
    parent = parent;
    fits = λ x there some. omega (arith, (lies_within x.depth x there some refl).1, end_fits);
  }

  pub is_table : IsTable (λ (i : Inlinee). i.start) (λ i. i.depth) (filter has_size calls) (sized_calls f)
  is_table = sorted_table (λ (i : Inlinee). i.start) (λ i. i.depth) (filter has_size calls)

  -- the calls of the tree around an address are those of the chain
  pub tree_around : (addr : ℕ) → ((x : Inlinee) → In f.inlinees x → x.depth < 2 ^ 32) →
      calls_in (λ (i : Inlinee). i.start) (λ i. i.size) addr (nested (λ i. i.depth) 0 (sized_calls f)) ≡ calls_around addr f.inlinees
  tree_around addr short =
      tree_is_chain (λ (i : Inlinee). i.depth) (λ i. i.start) (λ i. i.size) calls (sized_calls f) are_sound is_table addr
      (λ x there some. omega (arith, short x (from_distinct f.inlinees x there)))
      ∙ chain_distinct addr f.inlinees
