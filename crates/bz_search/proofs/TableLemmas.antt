-- A search among the starts of a table gives what the rule over the list in its own order gives.
use Rattle.std.proofs.Common.{◌≡◌, ℕ, ◌<◌, ◌≤◌, true, List, [], ◌∷◌, ◌++◌, length, map, Option, Some, None, option_and_then, option_map, ◌⊎◌, inl, inr, refl, sym, ap, ◌∙◌, arith, get_or}
use Rattle.std.specs.List.{filter, slice_get, slice_index}
use Rattle.std.proofs.lemmas.Bool.Decides.{nat_tests}
use Rattle.std.proofs.lemmas.Option.{slice_get-map, slice_get_within, slice_get_cases, slice_get_read, get_or_from_slice_get}
use Rattle.std.proofs.lemmas.Bool.{cases_lt}
use Rattle.std.proofs.lemmas.List.{length-map}
use Rattle.bz_search.specs.Nearest.{IsCandidate, candidate, if_covers, nearest_covering, has_span, IsTable}
use Rattle.bz_search.specs.Starts.{IsPlace, IsFound}
use Rattle.bz_search.proofs.NearestLemmas.{candidate_again, none_from_above}
use Rattle.bz_search.proofs.FilterLemmas.{IsFirst, IsLast, some_pass, first_in_list, first_in_filter, last_in_list, last_in_filter}

module _ {X : Type 0} (start size : X → ℕ) where
  -- records of one span have the same start
  pub starts_same : (x y : X) → has_span start size (start x) (size x) y ≡ true → start y ≡ start x
  starts_same x y same = grind (arith, nat_tests)

  -- and their sizes
  pub sizes_same : (x y : X) → has_span start size (start x) (size x) y ≡ true → size y ≡ size x
  sizes_same x y same = grind (arith, nat_tests)

  -- records of the same start and size are of one span
  pub spans_same : (x y : X) → start y ≡ start x → size y ≡ size x → has_span start size (start x) (size x) y ≡ true
  spans_same x y starts sizes = grind (arith, nat_tests)

  -- the table has a record of the same start and size
  pub record InTable (table : List X) (y : X) : Type 0 where
    pub place : ℕ
    pub like : X
    pub there : slice_get table place ≡ Some like
    pub start_is : start like ≡ start y
    pub size_is : size like ≡ size y

  -- each record of the list has its like in the table
  pub in_table : (records table : List X) → IsTable start size records table → (i : ℕ) (y : X) →
      slice_get records i ≡ Some y → InTable table y
  in_table records table is i y at =
      let some = some_pass (has_span start size (start y) (size y)) records i y at (spans_same y y refl refl) in
      let first = first_in_list (has_span start size (start y) (size y)) table some.0 some.1 (is.alike (start y) (size y) ∙ some.2) in
      record { place = first.0; like = some.0; there = first.1.there; start_is = starts_same y some.0 first.1.passes; size_is = sizes_same y some.0 first.1.passes }

  -- of two sizes the first is smaller, or they are the same
  smaller_or_same : (m n : ℕ) → m ≤ n → (P : Type 0) → (m ≡ n → P) → (m < n) ⊎ ((m ≡ n) × P)
  smaller_or_same m n le P same = elim (cases_lt m n) [ inl below ↦ inl below | inr above ↦ let e : m ≡ n = omega arith in inr (e, same e) ]

  module _ (records table : List X) (is : IsTable start size records table) (addr place : ℕ) (x : X) (there : slice_get table place ≡ Some x) where
    -- the first record of the table that starts at the address is the one to try
    pub at_start : start x ≡ addr → ((k : ℕ) (y : X) → k < place → slice_get table k ≡ Some y → start y < addr) →
        (p : ℕ) × IsCandidate start size records addr p x
    at_start exact before = (
      first.0,
      record {
        there = first.1.there;
        not_above = omega arith;
        closest = λ i y at within. omega arith;
        smallest_at = λ e i y at same. smaller_or_same (size x) (size y) (smallest i y at same) (first.0 ≤ i) (λ sizes. first.1.before_others i y at (spans_same x y same (sym sizes)));
        largest_below = λ below i y at same. absurd (omega arith);
      },
    ) where
      found : (rest : List X) × (filter (has_span start size (start x) (size x)) table ≡ x ∷ rest)
      found = first_in_filter (has_span start size (start x) (size x)) table place x (record {
        there = there;
        passes = spans_same x x refl refl;
        before_others = λ k y at same. elim (cases_lt k place) [ inl lower ↦ absurd (omega (arith, before k y lower at, starts_same x y same)) | inr after ↦ after ];
      })

      first : (p : ℕ) × IsFirst (has_span start size (start x) (size x)) records p x
      first = first_in_list (has_span start size (start x) (size x)) records x found.0 (sym (is.alike (start x) (size x)) ∙ found.1)

      smallest : (i : ℕ) (y : X) → slice_get records i ≡ Some y → start y ≡ start x → size x ≤ size y
      smallest i y at same =
          let like = in_table records table is i y at in
          let after : place ≤ like.place = elim (cases_lt like.place place) [ inl lower ↦ absurd (omega (arith, before like.place like.like lower like.there, like.start_is)) | inr late ↦ late ] in
          let sizes : size x ≤ size like.like = is.sizes_ascend place like.place x like.like after there like.there (omega (arith, like.start_is)) in
          omega (arith, like.size_is)

    -- and else the last record that starts below the address
    pub below_address : start x < addr → ((k : ℕ) (y : X) → place < k → slice_get table k ≡ Some y → addr < start y) →
        (p : ℕ) × IsCandidate start size records addr p x
    below_address below after = (
      last.0,
      record {
        there = last.1.there;
        not_above = omega arith;
        closest = λ i y at within. let like = in_table records table is i y at in
            let starts : start like.like ≤ start x = is.starts_ascend like.place place like.like x (early i y at within) like.there there in
            omega (arith, like.start_is);
        smallest_at = λ exact i y at same. absurd (omega arith);
        largest_below = λ h i y at same. smaller_or_same (size y) (size x) (largest i y at same) (i ≤ last.0) (λ sizes. last.1.after_others i y at (spans_same x y same sizes));
      },
    ) where
      found : (front : List X) × (filter (has_span start size (start x) (size x)) table ≡ front ++ x ∷ [])
      found = last_in_filter (has_span start size (start x) (size x)) table place x (record {
        there = there;
        passes = spans_same x x refl refl;
        after_others = λ k y at same. elim (cases_lt place k) [ inl higher ↦ absurd (omega (arith, after k y higher at, starts_same x y same)) | inr before ↦ before ];
      })

      last : (p : ℕ) × IsLast (has_span start size (start x) (size x)) records p x
      last = last_in_list (has_span start size (start x) (size x)) records found.0 x (sym (is.alike (start x) (size x)) ∙ found.1)

      early : (i : ℕ) (y : X) (at : slice_get records i ≡ Some y) → start y ≤ addr →
          (in_table records table is i y at).place ≤ place
      early i y at within =
          let like = in_table records table is i y at in
          elim (cases_lt place like.place) [ inl higher ↦ absurd (omega (arith, after like.place like.like higher like.there, like.start_is)) | inr before ↦ before ]

      largest : (i : ℕ) (y : X) → slice_get records i ≡ Some y → start y ≡ start x → size y ≤ size x
      largest i y at same =
          let like = in_table records table is i y at in
          let sizes : size like.like ≤ size x = is.sizes_ascend like.place place like.like x (early i y at (omega arith)) like.there there (omega (arith, like.start_is)) in
          omega (arith, like.size_is)

  -- the start at a place of the table
  pub start_at : (table : List X) (k : ℕ) (y : X) → slice_get table k ≡ Some y → slice_index (map start table) k ≡ start y
  start_at table k y at = get_or_from_slice_get (map start table) k (start y) 0 (slice_get-map start table k ∙ ap (option_map start) at)

  -- the record at a place that the search found
  pub record_at : (table : List X) (k : ℕ) → k < length (map start table) → (y : X) × (slice_get table k ≡ Some y)
  record_at table k within = elim ((slice_get_cases table k).1) [ inl in_range ↦ (in_range.0, in_range.2) | inr past ↦ absurd (omega (arith, past.0, length-map table start)) ]

  -- a record of the table has its start among the starts
  starts_within : (table : List X) (k : ℕ) (y : X) → slice_get table k ≡ Some y → k < length (map start table)
  starts_within table k y at = omega (arith, slice_get_within table k y at, length-map table start)

  -- what the search finds in the starts of the table is the record to try of the list in its own order
  pub table_candidate : (records table : List X) → IsTable start size records table → (addr : ℕ) (found : Option (ℕ × ℕ)) →
      IsFound (map start table) addr found
      → option_and_then (λ p. slice_get table p.0) found ≡ candidate start size addr records
  table_candidate records table is addr None none = sym (none_from_above start size addr records (λ i y at.
      let like = in_table records table is i y at in
      omega (arith, none like.place (starts_within table like.place like.like like.there), start_at table like.place like.like like.there, like.start_is)))
  table_candidate records table is addr (Some p) found =
      let y = record_at table p.0 found.within in
      let start_is : start y.0 ≡ p.1 = sym (start_at table p.0 y.0 y.1) ∙ found.start_is in
      y.1 ∙ sym (candidate_again start size addr records (is_tried y.0 y.1 start_is).0 y.0 (is_tried y.0 y.1 start_is).1) where
        is_tried : (x : X) → slice_get table p.0 ≡ Some x → start x ≡ p.1 →
            (place : ℕ) × IsCandidate start size records addr place x
        is_tried x there start_is = elim (cases_lt p.1 addr) [
          | inl below ↦ below_address records table is addr p.0 x there (omega arith) (λ k y higher at.
              omega (arith, found.last below k higher (starts_within table k y at), start_at table k y at))
          | inr not_below ↦ at_start records table is addr p.0 x there (omega (arith, found.not_above)) (λ k y lower at.
              omega (arith, found.first (omega (arith, found.not_above)) k lower, start_at table k y at))
        ]

  -- the record at a place that the search found answers if it covers the address
  pub covering_at : (records table : List X) → IsTable start size records table → (addr place at : ℕ) (x : X) →
      IsPlace (map start table) addr place at → x ≡ get_or table place x
      → if_covers start size addr x ≡ nearest_covering start size addr records
  covering_at records table is addr place at x found read =
      let there : slice_get table place ≡ Some x = slice_get_read table (length table) place x refl (omega (arith, found.within, length-map table start)) read in
      ap (option_and_then (if_covers start size addr)) (sym there ∙ table_candidate records table is addr (Some (place, at)) found)

  -- and none answers where it found no place
  pub covering_nowhere : (records table : List X) → IsTable start size records table → (addr : ℕ) →
      IsFound (map start table) addr None → None ≡ nearest_covering start size addr records
  covering_nowhere records table is addr found = ap (option_and_then (if_covers start size addr)) (table_candidate records table is addr None found)
