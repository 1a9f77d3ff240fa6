-- Where no two records start alike, their starts alone say which one answers.
use Rattle.std.proofs.Common.{◌≡◌, inl, inr, ℕ, suc, ◌<◌, cond, List, [], ◌∷◌, Option, Some, None, refl, sym, ap, ◌∙◌, arith}
use Rattle.std.specs.List.{slice_get}
use Rattle.std.proofs.lemmas.Bool.{cases_lt}
use Rattle.std.proofs.lemmas.Bool.Decides.{nat_tests}
use Rattle.std.proofs.lemmas.Option.{same_Some}
use Rattle.bz_base.specs.Nearest.{IsTable, candidate, comes_first, first_of}
use Rattle.bz_search.proofs.NearestLemmas.{candidate_is, candidate_again, none_below, none_from_above}
use Rattle.bz_gsym_layout.specs.Members.{In}
use Rattle.bz_convert.proofs.MemberLemmas.{to_table, from_table}

module _ {X : Type 0} (start : X → ℕ) where
  -- no two start alike
  abbrev pub Differ : List X → Type 0
  Differ xs = (i j : ℕ) (x y : X) → i < j → slice_get xs i ≡ Some x → slice_get xs j ≡ Some y → start x ≡ start y → ⊥

  module _ (size other : X → ℕ) (addr : ℕ) where
    comes_alike : (x y : X) → (start x ≡ start y → ⊥) → comes_first start size addr x y ≡ comes_first start other addr x y
    comes_alike x y differ = grind (arith, nat_tests)

    first_alike : (x : X) (o : Option X) → ((y : X) → o ≡ Some y → start x ≡ start y → ⊥) → first_of start size addr x o ≡ first_of start other addr x o
    first_alike x None differ = refl
    first_alike x (Some y) differ = ap (λ b. cond b (Some x) (Some y)) (comes_alike x y (differ y refl))

    -- then the sizes don't matter
    pub candidate_alike : (xs : List X) → Differ xs → candidate start size addr xs ≡ candidate start other addr xs
    candidate_alike [] differ = refl
    candidate_alike (x ∷ xs) differ =
        first_alike x (candidate start size addr xs) (λ y found same.
        let is = candidate_is start size addr xs y found in
        differ 0 (suc is.0) x y (omega arith) refl is.1.there same)
        ∙ ap (first_of start other addr x) (candidate_alike xs (λ i j y z less at_i at_j. differ (suc i) (suc j) y z (omega arith) at_i at_j))

  -- nor does the order: in the table of a list the same record is to be tried
  module _ (size : X → ℕ) (records table : List X) (is : IsTable start size records table) (differ : Differ table) (addr : ℕ) where
    alone : (x y : X) → In table x → In table y → start y ≡ start x → (i : ℕ) → slice_get table i ≡ Some y → (x_at : ℕ) → slice_get table x_at ≡ Some x → i ≡ x_at
    alone x y in_x in_y same i at_y j at_x =
        elim (cases_lt i j) [
          | inl less ↦ absurd (differ i j y x less at_y at_x same)
          | inr more ↦ elim (cases_lt j i) [ inl less ↦ absurd (differ j i x y less at_x at_y (sym same)) | inr e ↦ omega arith ]
        ]

    pub candidate_in_table : candidate start size addr table ≡ candidate start size addr records
    candidate_in_table = by (candidate start size addr records) refl where
      by : (o : Option X) → candidate start size addr records ≡ o → candidate start size addr table ≡ o
      by None none = none_from_above start size addr table (λ i y at.
          let there = from_table start size records table is y (i, at) in none_below start size addr records none there.0 y there.1)
      by (Some x) found =
          let first = candidate_is start size addr records x found in
          let at = to_table start size records table is x (first.0, first.1.there) in
          candidate_again start size addr table at.0 x (record {
            there = at.1;
            not_above = first.1.not_above;
            closest = λ i y at_y below. let there = from_table start size records table is y (i, at_y) in first.1.closest there.0 y there.1 below;
            smallest_at = λ exact i y at_y same.
                let e : i ≡ at.0 = alone x y at (i, at_y) same i at_y at.0 at.1 in
                let s : y ≡ x = same_Some y x (sym at_y ∙ ap (slice_get table) e ∙ at.1) in
                inr (ap size (sym s), omega arith);
            largest_below = λ below i y at_y same.
                let e : i ≡ at.0 = alone x y at (i, at_y) same i at_y at.0 at.1 in
                let s : y ≡ x = same_Some y x (sym at_y ∙ ap (slice_get table) e ∙ at.1) in
                inr (ap size s, omega arith);
          })
