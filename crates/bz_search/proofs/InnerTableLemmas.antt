-- A search in a table by depth and start gives what `inner` gives of the list in its own order.
use Rattle.std.proofs.Common.{◌≡◌, ◌⊎◌, inl, inr, ℕ, ◌-◌, ◌<◌, ◌≤◌, Bool, true, false, ◌&&◌, ◌||◌, ◌==◌, nat_lt, nat_le, List, [], ◌∷◌, ◌++◌, length, Option, Some, None, refl, sym, ◌∙◌, arith, get_or}
use Rattle.std.specs.List.{filter, slice_get}
use Rattle.std.specs.List.Sorted.{IsPartitionedBy, IsPartitionPoint}
use Rattle.std.proofs.lemmas.Bool.{cases_lt}
use Rattle.std.proofs.lemmas.Bool.Decides.{nat_tests}
use Rattle.std.proofs.lemmas.Option.{slice_get_within, slice_get-get_or, slice_get_read, get_or_from_slice_get}
use Rattle.bz_search.specs.Nearest.{has_span, IsTable}
use Rattle.bz_search.specs.Chain.{IsInner, inner}
use Rattle.bz_search.proofs.FilterLemmas.{IsLast, last_in_list, last_in_filter}
use Rattle.bz_search.proofs.TableLemmas.{in_table, spans_same, starts_same, sizes_same}
use Rattle.bz_search.proofs.InnerLemmas.{Finds, inner_again, inner_none, inner_finds}

module _ {X : Type 0} (depth start : X → ℕ) where
  -- a record of the table comes after the depth and the address
  abbrev pub IsAfter : ℕ → ℕ → X → Type 0
  IsAfter at addr x = (at < depth x) ⊎ ((depth x ≡ at) × (addr < start x))

  -- the test for one that doesn't
  abbrev pub is_before : ℕ → ℕ → X → Bool
  is_before at addr x = nat_lt (depth x) at || (depth x == at && nat_le (start x) addr)

  -- what stands before such a record is one too
  pub still_before : (at addr : ℕ) (x y : X) → depth x ≤ depth y → (depth x ≡ depth y → start x ≤ start y) →
      is_before at addr y ≡ true → is_before at addr x ≡ true
  still_before at addr x y depths starts later = grind (arith, nat_tests)

  -- a record that comes after, and isn't deeper, has the depth
  same_depth : (at addr : ℕ) (x : X) → depth x ≤ at → is_before at addr x ≡ false → depth x ≡ at
  same_depth at addr x above after = grind (arith, nat_tests)

  -- and starts above the address
  above_address : (at addr : ℕ) (x : X) → depth x ≡ at → is_before at addr x ≡ false → addr < start x
  above_address at addr x d after = grind (arith, nat_tests)

  -- a record that fails the test comes after
  pub does_come_after : (at addr : ℕ) (x : X) → is_before at addr x ≡ false → IsAfter at addr x
  does_come_after at addr x after = elim (cases_lt at (depth x)) [
    | inl deeper ↦ inl deeper
    | inr above ↦ inr (same_depth at addr x above after, above_address at addr x (same_depth at addr x above after) after)
  ]

  -- one that passes and has the depth doesn't start above the address
  pub before_is_below : (at addr : ℕ) (x : X) → depth x ≡ at → is_before at addr x ≡ true → start x ≤ addr
  before_is_below at addr x d before = grind (arith, nat_tests)

  -- and one that passes and hasn't the depth has a lesser one
  pub before_is_lesser : (at addr : ℕ) (x : X) → ¬ (depth x ≡ at) → is_before at addr x ≡ true → depth x < at
  before_is_lesser at addr x other before = grind (arith, nat_tests)

  module _ (records table : List X) (is : IsTable depth start records table) (at addr : ℕ) where
    -- the last record of the table that doesn't come after the depth and the address is the one to try,
    -- if it has the depth
    pub table_inner : (place : ℕ) (x : X) → slice_get table place ≡ Some x → depth x ≡ at → start x ≤ addr →
        ((k : ℕ) (y : X) → place < k → slice_get table k ≡ Some y → IsAfter at addr y) →
        inner depth start at addr records ≡ Some x
    table_inner place x there d s after = inner_again depth start records at addr last.0 x (record {
      there = last.1.there;
      depth_is = d;
      not_above = s;
      closest = closest;
      last = λ i y at_y depth_y start_y. last.1.after_others i y at_y (spans_same depth start x y (depth_y ∙ sym d) start_y);
    }) where
      found : (front : List X) × (filter (has_span depth start (depth x) (start x)) table ≡ front ++ x ∷ [])
      found = last_in_filter (has_span depth start (depth x) (start x)) table place x (record {
        there = there;
        passes = spans_same depth start x x refl refl;
        after_others = λ k y at_y same. elim (cases_lt place k) [
          | inl higher ↦ absurd (omega (arith, after k y higher at_y, starts_same depth start x y same, sizes_same depth start x y same))
          | inr before ↦ before
        ];
      })

      last : (p : ℕ) × IsLast (has_span depth start (depth x) (start x)) records p x
      last = last_in_list (has_span depth start (depth x) (start x)) records found.0 x (sym (is.alike (depth x) (start x)) ∙ found.1)

      closest : (i : ℕ) (y : X) → slice_get records i ≡ Some y → depth y ≡ at → start y ≤ addr → start y ≤ start x
      closest i y at_y depth_y within =
          let like = in_table depth start records table is i y at_y in
          let before : like.place ≤ place = elim (cases_lt place like.place) [
            | inl higher ↦ absurd (omega (arith, after like.place like.like higher like.there, like.start_is, like.size_is))
            | inr low ↦ low
          ] in
          let starts : start like.like ≤ start x = is.sizes_ascend like.place place like.like x before like.there there (omega (arith, like.start_is)) in
          omega (arith, like.size_is)

    -- where each record of the table up to a place has a lesser depth, and those from there on come
    -- after, there is none
    pub table_no_inner : (place : ℕ) → ((k : ℕ) (y : X) → k < place → slice_get table k ≡ Some y → depth y < at) →
        ((k : ℕ) (y : X) → place ≤ k → slice_get table k ≡ Some y → IsAfter at addr y) →
        inner depth start at addr records ≡ None
    table_no_inner place before after = inner_none depth start records at addr (λ i y at_y depth_y.
        let like = in_table depth start records table is i y at_y in
        elim (cases_lt like.place place) [
          | inl lower ↦ absurd (omega (arith, before like.place like.like lower like.there, like.start_is))
          | inr higher ↦ omega (arith, after like.place like.like higher like.there, like.start_is, like.size_is)
        ])

    -- the records of the table that don't come after stand before those that do
    pub is_parted : IsPartitionedBy (is_before at addr) table
    is_parted i j d up within later =
        let x : slice_get table i ≡ Some (get_or table i d) = slice_get-get_or table i d (omega arith) in
        let y : slice_get table j ≡ Some (get_or table j d) = slice_get-get_or table j d within in
        still_before at addr (get_or table i d) (get_or table j d) (is.starts_ascend i j (get_or table i d) (get_or table j d) up x y) (is.sizes_ascend i j (get_or table i d) (get_or table j d) up x y) later

    module _ (place : ℕ) (point : IsPartitionPoint (λ y. is_before at addr y ≡ true) (λ y. is_before at addr y ≡ false) table place) where
      -- the records from the point on come after
      after_point : (k : ℕ) (y : X) → place ≤ k → slice_get table k ≡ Some y → IsAfter at addr y
      after_point k y higher there = does_come_after at addr y (rw (get_or_from_slice_get table k y y there) at (point.1 k y higher (slice_get_within table k y there)))

      -- the last record before the point is the one to try, if it has the depth
      pub at_point : (x : X) → place ≤ length table → ¬ (place ≡ 0) → x ≡ get_or table (place - 1) x → depth x ≡ at →
          Some x ≡ inner depth start at addr records
      at_point x within some read d =
          let there : slice_get table (place - 1) ≡ Some x = slice_get_read table (length table) (place - 1) x refl (omega arith) read in
          let before : is_before at addr x ≡ true = rw (sym read) at (point.0 (place - 1) x (omega arith) (omega arith)) in
          sym (table_inner (place - 1) x there d (before_is_below at addr x d before) (λ k y higher at_y. after_point k y (omega arith) at_y))

      -- and else there is none
      pub not_at_point : (x : X) → place ≤ length table → ¬ (place ≡ 0) → x ≡ get_or table (place - 1) x → ¬ (depth x ≡ at) →
          None ≡ inner depth start at addr records
      not_at_point x within some read other =
          let there : slice_get table (place - 1) ≡ Some x = slice_get_read table (length table) (place - 1) x refl (omega arith) read in
          let before : is_before at addr x ≡ true = rw (sym read) at (point.0 (place - 1) x (omega arith) (omega arith)) in
          let lesser : depth x < at = before_is_lesser at addr x other before in
          sym (table_no_inner place
          (λ k y lower at_y. let up : depth y ≤ depth x = is.starts_ascend k (place - 1) y x (omega arith) at_y there in omega arith)
          after_point)

      -- where the point is the front there is none
      pub no_point : place ≡ 0 → None ≡ inner depth start at addr records
      no_point zero_place = sym (table_no_inner place (λ k y lower at_y. absurd (omega arith)) after_point)

-- The record to try in a table is that of the list.
module _ {X : Type 0} (depth start : X → ℕ) (records table : List X) (is : IsTable depth start records table) (at addr : ℕ) where
  -- a record to try in the table is the one of the list
  inner_of_list : (place : ℕ) (x : X) → IsInner depth start table at addr place x → inner depth start at addr records ≡ Some x
  inner_of_list place x found = table_inner depth start records table is at addr place x found.there found.depth_is found.not_above after where
    after : (k : ℕ) (y : X) → place < k → slice_get table k ≡ Some y → (at < depth y) ⊎ ((depth y ≡ at) × (addr < start y))
    after k y higher there =
        let deeper : depth x ≤ depth y = is.starts_ascend place k x y (omega arith) found.there there in
        elim (cases_lt at (depth y)) [
          | inl below ↦ inl below
          | inr above ↦
              let same : depth y ≡ at = omega (arith, found.depth_is) in
              inr (
                same,
                elim (cases_lt addr (start y)) [
                  | inl over ↦ over
                  | inr within ↦
                      let down : start y ≤ start x = found.closest k y there same within in
                      let up : start x ≤ start y = is.sizes_ascend place k x y (omega arith) found.there there (found.depth_is ∙ sym same) in
                      let last : k ≤ place = found.last k y there same (omega arith) in
                      absurd (omega arith)
                ],
              )
        ]

  -- table and list have the same record to try
  pub inner_of_table : inner depth start at addr table ≡ inner depth start at addr records
  inner_of_table = by_table (inner depth start at addr table) refl (inner_finds depth start at addr table) where
    by_table : (o : Option X) → inner depth start at addr table ≡ o → Finds depth start at addr table o →
        o ≡ inner depth start at addr records
    by_table (Some x) found finds = sym (inner_of_list finds.0 x finds.1)
    by_table None none above = sym (inner_none depth start records at addr (λ i y there d.
        let like = in_table depth start records table is i y there in
        let over : addr < start like.like = above like.place like.like like.there (like.start_is ∙ d) in
        omega (arith, like.size_is)))
