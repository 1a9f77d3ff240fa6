-- Tables of records that are seen through a view: what is nearest in one is nearest in the list.
use Rattle.std.proofs.Common.{◌≡◌, ℕ, ◌<◌, ◌≤◌, Bool, true, false, cond, nat_le, List, [], ◌∷◌, map, Option, Some, None, option_and_then, option_map, inl, inr, refl, sym, ap, ◌∙◌, arith}
use Rattle.std.specs.List.{filter, slice_get}
use Rattle.std.proofs.lemmas.Option.{slice_get-map, slice_get_cases}
use Rattle.std.proofs.lemmas.Bool.{cases_lt}
use Rattle.bz_search.specs.Nearest.{IsCandidate, comes_first, first_of, candidate, if_covers, nearest_covering, has_span, IsTable}
use Rattle.bz_search.specs.Span.{covers}
use Rattle.bz_search.proofs.NearestLemmas.{candidate_is, none_below, candidate_again, none_from_above}
use Rattle.bz_search.proofs.TableLemmas.{in_table, at_start, below_address}

-- Tables of records that are seen through a view.
module _ {X Y : Type 0} (view : Y → X) where
  -- the view of a choice is the choice of the views
  pub map_cond : (b : Bool) (o p : Option Y) → option_map view (cond b o p) ≡ cond b (option_map view o) (option_map view p)
  map_cond true o p = refl
  map_cond false o p = refl

module _ {X Y : Type 0} (start size : X → ℕ) (view : Y → X) where
  -- what is left of the view is the view of what is left
  filter-map : (test : X → Bool) (ys : List Y) → filter test (map view ys) ≡ map view (filter (λ y. test (view y)) ys)
  filter-map test [] = refl
  filter-map test (y ∷ ys) = by_test (test (view y)) (filter-map test ys) where
    by_test : (b : Bool) → filter test (map view ys) ≡ map view (filter (λ z. test (view z)) ys) →
        cond b (view y ∷ filter test (map view ys)) (filter test (map view ys)) ≡ map view (cond b (y ∷ filter (λ z. test (view z)) ys) (filter (λ z. test (view z)) ys))
    by_test true more = ap (λ l. view y ∷ l) more
    by_test false more = more

  -- what is seen at a place is the view of what stands there
  seen_at : (ys : List Y) (i : ℕ) (x : X) → slice_get (map view ys) i ≡ Some x →
      (y : Y) × (slice_get ys i ≡ Some y) × (view y ≡ x)
  seen_at ys i x there = elim ((slice_get_cases ys i).1) [
    | inl within ↦ (within.0, within.2, same_some (view within.0) x (sym (slice_get-map view ys i ∙ ap (option_map view) within.2) ∙ there))
    | inr past ↦ absurd (cc (slice_get-map view ys i, ap (option_map view) past.1))
  ] where
    same_some : (a b : X) → Some a ≡ Some b → a ≡ b
    same_some a b same = cc

  -- the view of a table is the table of the view
  pub table_seen : (records table : List Y) → IsTable (λ y. start (view y)) (λ y. size (view y)) records table →
      IsTable start size (map view records) (map view table)
  table_seen records table is = record {
    starts_ascend = λ i j x y up at_x at_y. let a = seen_at table i x at_x in let b = seen_at table j y at_y in
        omega (arith, is.starts_ascend i j a.0 b.0 up a.1 b.1, ap start a.2, ap start b.2);
    sizes_ascend = λ i j x y up at_x at_y same. let a = seen_at table i x at_x in let b = seen_at table j y at_y in
        omega (arith, is.sizes_ascend i j a.0 b.0 up a.1 b.1 (ap start a.2 ∙ same ∙ sym (ap start b.2)), ap size a.2, ap size b.2);
    alike = λ at length. filter-map (has_span start size at length) table ∙ ap (map view) (is.alike at length) ∙ sym (filter-map (has_span start size at length) records);
  }

  -- a list whose view is a table is a table of itself
  pub table_itself : (records : List X) (table : List Y) → IsTable start size records (map view table) →
      IsTable (λ y. start (view y)) (λ y. size (view y)) table table
  table_itself records table is = record {
    starts_ascend = λ i j x y up at_x at_y. is.starts_ascend i j (view x) (view y) up (slice_get-map view table i ∙ ap (option_map view) at_x) (slice_get-map view table j ∙ ap (option_map view) at_y);
    sizes_ascend = λ i j x y up at_x at_y same. is.sizes_ascend i j (view x) (view y) up (slice_get-map view table i ∙ ap (option_map view) at_x) (slice_get-map view table j ∙ ap (option_map view) at_y) same;
    alike = λ at length. refl;
  }

  -- of a record and the candidate after it, the view is to be tried where the record is
  first_of_seen : (addr : ℕ) (y : Y) (o : Option Y) →
      option_map view (first_of (λ z. start (view z)) (λ z. size (view z)) addr y o) ≡ first_of start size addr (view y) (option_map view o)
  first_of_seen addr y None = map_cond view (nat_le (start (view y)) addr) (Some y) None
  first_of_seen addr y (Some z) = map_cond view (comes_first start size addr (view y) (view z)) (Some y) (Some z)

  -- the view of the candidate is the candidate of the view
  candidate_seen : (addr : ℕ) (ys : List Y) →
      option_map view (candidate (λ y. start (view y)) (λ y. size (view y)) addr ys) ≡ candidate start size addr (map view ys)
  candidate_seen addr [] = refl
  candidate_seen addr (y ∷ ys) = first_of_seen addr y (candidate (λ z. start (view z)) (λ z. size (view z)) addr ys) ∙ ap (first_of start size addr (view y)) (candidate_seen addr ys)

  -- the view covers an address where the record does
  if_covers_seen : (addr : ℕ) (o : Option Y) →
      option_map view (option_and_then (if_covers (λ y. start (view y)) (λ y. size (view y)) addr) o) ≡ option_and_then (if_covers start size addr) (option_map view o)
  if_covers_seen addr None = refl
  if_covers_seen addr (Some y) = map_cond view (covers (start (view y)) (size (view y)) addr) (Some y) None

  -- the view of the nearest is the nearest of the view
  pub covering_seen : (addr : ℕ) (ys : List Y) →
      option_map view (nearest_covering (λ y. start (view y)) (λ y. size (view y)) addr ys) ≡ nearest_covering start size addr (map view ys)
  covering_seen addr ys = if_covers_seen addr (candidate (λ y. start (view y)) (λ y. size (view y)) addr ys) ∙ ap (option_and_then (if_covers start size addr)) (candidate_seen addr ys)

-- The nearest record of a table is that of the list.
module _ {X : Type 0} (start size : X → ℕ) (records table : List X) (is : IsTable start size records table) (addr : ℕ) where
  -- a candidate of the table is the one of the list
  candidate_of_list : (place : ℕ) (x : X) → IsCandidate start size table addr place x →
      candidate start size addr records ≡ Some x
  candidate_of_list place x found = elim (cases_lt (start x) addr) [
    | inl below ↦ again (below_address start size records table is addr place x found.there below (above below))
    | inr not_below ↦ again (at_start start size records table is addr place x found.there (omega (arith, found.not_above)) (before (omega (arith, found.not_above))))
  ] where
    again : (p : ℕ) × IsCandidate start size records addr p x → candidate start size addr records ≡ Some x
    again p = candidate_again start size addr records p.0 x p.1

    before : start x ≡ addr → (k : ℕ) (y : X) → k < place → slice_get table k ≡ Some y → start y < addr
    before exact k y lower there =
        let up : start y ≤ start x = is.starts_ascend k place y x (omega arith) there found.there in
        elim (cases_lt (start y) addr) [
          | inl below ↦ below
          | inr not_below ↦
              let same : start y ≡ start x = omega arith in
              let sizes : size y ≤ size x = is.sizes_ascend k place y x (omega arith) there found.there same in
              elim (found.smallest_at exact k y there same) [ inl less ↦ absurd (omega arith) | inr first ↦ absurd (omega (arith, first.1)) ]
        ]

    above : start x < addr → (k : ℕ) (y : X) → place < k → slice_get table k ≡ Some y → addr < start y
    above below k y higher there =
        let up : start x ≤ start y = is.starts_ascend place k x y (omega arith) found.there there in
        elim (cases_lt addr (start y)) [
          | inl over ↦ over
          | inr within ↦
              let down : start y ≤ start x = found.closest k y there within in
              let same : start y ≡ start x = omega arith in
              let sizes : size x ≤ size y = is.sizes_ascend place k x y (omega arith) found.there there (sym same) in
              elim (found.largest_below below k y there same) [ inl less ↦ absurd (omega arith) | inr last ↦ absurd (omega (arith, last.1)) ]
        ]

  -- table and list have the same candidate
  pub candidate_of_table : candidate start size addr table ≡ candidate start size addr records
  candidate_of_table = by_table (candidate start size addr table) refl where
    by_table : (o : Option X) → candidate start size addr table ≡ o → o ≡ candidate start size addr records
    by_table (Some x) found = let is = candidate_is start size addr table x found in sym (candidate_of_list is.0 x is.1)
    by_table None none = sym (none_from_above start size addr records (λ i y there.
        let like = in_table start size records table is i y there in
        let above : addr < start like.like = none_below start size addr table none like.place like.like like.there in
        omega (arith, like.start_is)))

  -- and the same answer
  pub covering_of_table : nearest_covering start size addr table ≡ nearest_covering start size addr records
  covering_of_table = ap (option_and_then (if_covers start size addr)) candidate_of_table

-- a search in a table whose view is a table of the list gives what is nearest in the list
pub covering_through : {X Y : Type 0} (start size : X → ℕ) (view : Y → X) (records : List X) (table : List Y) →
    IsTable start size records (map view table) → (addr : ℕ)
    → option_map view (nearest_covering (λ y. start (view y)) (λ y. size (view y)) addr table) ≡ nearest_covering start size addr records
covering_through start size view records table is addr = covering_seen start size view addr table ∙ covering_of_table start size records (map view table) is addr
