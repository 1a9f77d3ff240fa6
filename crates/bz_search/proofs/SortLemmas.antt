-- What a stable sort by start and size gives is a table.
use Rattle.std.proofs.Common.{◌≡◌, ℕ, ◌≤◌, Bool, true, false, List, [], ◌∷◌, length, map, Some, refl, sym, ◌∙◌, arith}
use Rattle.std.specs.List.{filter, slice_get}
use Rattle.std.proofs.lemmas.Bool.Decides.{nat_tests}
use Rattle.std.proofs.lemmas.Option.{slice_get_within, get_or_from_slice_get}
use Rattle.std.specs.Cmp.{IsStrictWeakOrder}
use Rattle.std.specs.List.Sorted.{IsSortedBy, IsStableBy, ties}
use Rattle.std.specs.Ordering.{is_lt, nat_cmp, ordering_then}
use Rattle.std.proofs.lemmas.Cmp.{nat_cmp_total, on_total, then_total}
use Rattle.std.proofs.lemmas.List.Sorted.{sorted_far}
use Rattle.std.proofs.lemmas.List.MinMax.{ranks_by}
use Rattle.bz_search.specs.Nearest.{has_span, IsTable}
use Rattle.bz_search.specs.Starts.{NeverDescends}
use Rattle.bz_search.proofs.FilterLemmas.{first_in_list}
use Rattle.bz_search.proofs.TableLemmas.{start_at, record_at}

module _ {X : Type 0} (start size : X → ℕ) where
  -- the order of a table, as the sort answers by it
  abbrev pub is_before : X → X → Bool
  is_before x y = is_lt (ordering_then (nat_cmp (start x) (start y)) (nat_cmp (size x) (size y)))

  -- the order is one
  ranks : IsStrictWeakOrder is_before
  ranks = ranks_by (then_total (on_total start nat_cmp_total) (on_total size nat_cmp_total)) (λ x. x)

  -- of two records in order the starts don't descend
  starts_up : (x y : X) → is_before y x ≡ false → start x ≤ start y
  starts_up x y not_before = grind (arith, nat_tests)

  -- nor the sizes, where the starts are the same
  sizes_up : (x y : X) → is_before y x ≡ false → start x ≡ start y → size x ≤ size y
  sizes_up x y not_before same = grind (arith, nat_tests)

  -- those that tie with a record have its start and its size
  ties_alike : (at length : ℕ) (x y : X) → has_span start size at length x ≡ true →
      ties is_before x y ≡ has_span start size at length y
  ties_alike at length x y same = grind (arith, nat_tests)

  -- tests that agree leave the same of a list
  filter_alike : (p q : X → Bool) → ((x : X) → p x ≡ q x) → (xs : List X) → filter p xs ≡ filter q xs
  filter_alike p q same [] = refl
  filter_alike p q same (x ∷ xs) = rw (same x, filter_alike p q same xs) refl

  -- a stable sort keeps those with a start and a size, where there is one
  alike_of_one : (records table : List X) → IsStableBy is_before records table → (at length : ℕ) (x : X) →
      has_span start size at length x ≡ true →
      filter (has_span start size at length) table ≡ filter (has_span start size at length) records
  alike_of_one records table stable at length x same =
      let one = λ (y : X). ties_alike at length x y same in
      sym (filter_alike (ties is_before x) (has_span start size at length) one table) ∙ stable x ∙ filter_alike (ties is_before x) (has_span start size at length) one records

  -- and where there is none
  alike_of_any : (records table : List X) → IsStableBy is_before records table → (at length : ℕ) →
      filter (has_span start size at length) table ≡ filter (has_span start size at length) records
  alike_of_any records table stable at length = by_table (filter (has_span start size at length) table) refl where
    by_records : (l : List X) → filter (has_span start size at length) records ≡ l →
        [] ≡ filter (has_span start size at length) table → filter (has_span start size at length) table ≡ l
    by_records [] is none = sym none
    by_records (x ∷ rest) is none = alike_of_one records table stable at length x ((first_in_list (has_span start size at length) records x rest is).1.passes) ∙ is

    by_table : (l : List X) → filter (has_span start size at length) table ≡ l →
        l ≡ filter (has_span start size at length) records
    by_table [] is = sym is ∙ by_records (filter (has_span start size at length) records) refl (sym is)
    by_table (x ∷ rest) is = sym is ∙ alike_of_one records table stable at length x ((first_in_list (has_span start size at length) table x rest is).1.passes)

  -- two records of a sorted list
  in_order : (table : List X) → IsSortedBy is_before table → (i j : ℕ) (x y : X) → i ≤ j → slice_get table i ≡ Some x →
      slice_get table j ≡ Some y → is_before y x ≡ false
  in_order table sorted i j x y up at_x at_y =
      let far = sorted_far is_before ranks table sorted i j x up (slice_get_within table j y at_y) in
      rw (get_or_from_slice_get table i x x at_x, get_or_from_slice_get table j y x at_y) at far

  -- what a stable sort by start and size gives is a table
  pub table_from_sort : (records table : List X) → IsSortedBy is_before table → IsStableBy is_before records table →
      IsTable start size records table
  table_from_sort records table sorted stable = record {
    starts_ascend = λ i j x y up at_x at_y. starts_up x y (in_order table sorted i j x y up at_x at_y);
    sizes_ascend = λ i j x y up at_x at_y same. sizes_up x y (in_order table sorted i j x y up at_x at_y) same;
    alike = alike_of_any records table stable;
  }

  -- its starts never descend
  pub starts_never_descend : (table : List X) → IsSortedBy is_before table → NeverDescends (map start table)
  starts_never_descend table sorted i j up within =
      let x = record_at start size table i (omega arith) in
      let y = record_at start size table j within in
      let e : start x.0 ≤ start y.0 = starts_up x.0 y.0 (in_order table sorted i j x.0 y.0 up x.1 y.1) in
      omega (arith, start_at start size table i x.0 x.1, start_at start size table j y.0 y.1)
