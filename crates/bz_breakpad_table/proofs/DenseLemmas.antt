-- Entries of the ids from a first one on, one after another, with others behind them: an entry more,
-- and a look-up.
use Rattle.std.proofs.Common.{◌≡◌, ℕ, ◌+◌, ◌-◌, ◌<◌, ◌≤◌, cond, suc, Ordering, Less, Equal, Greater, List, [], ◌∷◌, ◌++◌, length, get_or, set, Some, refl, ap, ◌∙◌, append-nil, arith}
use Rattle.std.specs.BTreeMap.{insert_entry, is_at}
use Rattle.std.specs.List.{enumerate_from}
use Rattle.std.specs.Map.{lookup}
use Rattle.std.specs.Ordering.{is_eq, match_ordering, nat_cmp}
use Rattle.std.proofs.lemmas.Cmp.{ranked}

module _ {X : Type 0} where
  -- the value of an id among the first ones stands at its place
  found : (first id : ℕ) (xs : List X) (others : List (ℕ × X)) (d : X) → first ≤ id → id < first + length xs →
      lookup (is_at (nat_cmp id)) (enumerate_from first xs ++ others) ≡ Some (get_or xs (id - first) d)
  found first id [] others d from below = absurd (omega (arith, from, below))
  found first id (x ∷ xs) others d from below =
      by (nat_cmp id first) refl (λ above. found (first + 1) id xs others d (omega (arith, above)) (omega (arith, below))) where
        by : (r : Ordering) → r ≡ nat_cmp id first →
            (first < id → lookup (is_at (nat_cmp id)) (enumerate_from (first + 1) xs ++ others) ≡ Some (get_or xs (id - (first + 1)) d)) →
            cond (is_eq r) (Some x) (lookup (is_at (nat_cmp id)) (enumerate_from (first + 1) xs ++ others)) ≡ Some (get_or (x ∷ xs) (id - first) d)
        by Less is later = absurd (omega (arith, ranked id first Less is, from))
        by Equal is later =
            let here : 0 ≡ id - first = omega (arith, ranked id first Equal is) in
            ap (λ i. Some (get_or (x ∷ xs) i d)) here
        by Greater is later =
            let next : suc (id - (first + 1)) ≡ id - first = omega (arith, ranked id first Greater is) in
            later (ranked id first Greater is) ∙ ap (λ i. Some (get_or (x ∷ xs) i d)) next

  -- an id behind the first ones is found among the others
  pub missed : (first id : ℕ) (xs : List X) (others : List (ℕ × X)) → first + length xs ≤ id →
      lookup (is_at (nat_cmp id)) (enumerate_from first xs ++ others) ≡ lookup (is_at (nat_cmp id)) others
  missed first id [] others behind = refl
  missed first id (x ∷ xs) others behind = by (nat_cmp id first) refl (missed (first + 1) id xs others (omega (arith, behind))) where
    by : (r : Ordering) → r ≡ nat_cmp id first →
        lookup (is_at (nat_cmp id)) (enumerate_from (first + 1) xs ++ others) ≡ lookup (is_at (nat_cmp id)) others →
        cond (is_eq r) (Some x) (lookup (is_at (nat_cmp id)) (enumerate_from (first + 1) xs ++ others)) ≡ lookup (is_at (nat_cmp id)) others
    by Less is later = absurd (omega (arith, ranked id first Less is, behind))
    by Equal is later = absurd (omega (arith, ranked id first Equal is, behind))
    by Greater is later = later

  -- an entry of an id among the first ones takes its place
  replaced : (first id : ℕ) (xs : List X) (others : List (ℕ × X)) (y : X) → first ≤ id → id < first + length xs →
      enumerate_from first (set xs (id - first) y) ++ others ≡ insert_entry nat_cmp (enumerate_from first xs ++ others) id y
  replaced first id [] others y from below = absurd (omega (arith, from, below))
  replaced first id (x ∷ xs) others y from below =
      by (nat_cmp id first) refl (λ above. replaced (first + 1) id xs others y (omega (arith, above)) (omega (arith, below))) where
        by : (r : Ordering) → r ≡ nat_cmp id first →
            (first < id → enumerate_from (first + 1) (set xs (id - (first + 1)) y) ++ others ≡ insert_entry nat_cmp (enumerate_from (first + 1) xs ++ others) id y) →
            enumerate_from first (set (x ∷ xs) (id - first) y) ++ others
            ≡ match_ordering r ((id, y) ∷ (first, x) ∷ (enumerate_from (first + 1) xs ++ others)) ((first, y) ∷ (enumerate_from (first + 1) xs ++ others)) ((first, x) ∷ insert_entry nat_cmp (enumerate_from (first + 1) xs ++ others) id y)
        by Less is later = absurd (omega (arith, ranked id first Less is, from))
        by Equal is later =
            let here : id - first ≡ 0 = omega (arith, ranked id first Equal is) in
            ap (λ i. enumerate_from first (set (x ∷ xs) i y) ++ others) here
        by Greater is later =
            let next : id - first ≡ suc (id - (first + 1)) = omega (arith, ranked id first Greater is) in
            ap (λ i. enumerate_from first (set (x ∷ xs) i y) ++ others) next ∙ ap (λ more. (first, x) ∷ more) (later (ranked id first Greater is))

  -- an entry of an id behind the first ones comes among the others
  pub behind : (first id : ℕ) (xs : List X) (others : List (ℕ × X)) (y : X) → first + length xs ≤ id →
      enumerate_from first xs ++ insert_entry nat_cmp others id y ≡ insert_entry nat_cmp (enumerate_from first xs ++ others) id y
  behind first id [] others y after = refl
  behind first id (x ∷ xs) others y after = by (nat_cmp id first) refl (behind (first + 1) id xs others y (omega (arith, after))) where
    by : (r : Ordering) → r ≡ nat_cmp id first →
        enumerate_from (first + 1) xs ++ insert_entry nat_cmp others id y ≡ insert_entry nat_cmp (enumerate_from (first + 1) xs ++ others) id y →
        (first, x) ∷ (enumerate_from (first + 1) xs ++ insert_entry nat_cmp others id y)
        ≡ match_ordering r ((id, y) ∷ (first, x) ∷ (enumerate_from (first + 1) xs ++ others)) ((first, y) ∷ (enumerate_from (first + 1) xs ++ others)) ((first, x) ∷ insert_entry nat_cmp (enumerate_from (first + 1) xs ++ others) id y)
    by Less is later = absurd (omega (arith, ranked id first Less is, after))
    by Equal is later = absurd (omega (arith, ranked id first Equal is, after))
    by Greater is later = ap (λ more. (first, x) ∷ more) later

  -- one value more is that of the id behind the first ones
  one_more : (first : ℕ) (xs : List X) (y : X) → enumerate_from first (xs ++ y ∷ []) ≡ enumerate_from first xs ++ (first + length xs, y) ∷ []
  one_more first [] y = let here : first ≡ first + 0 = omega arith in ap (λ id. (id, y) ∷ []) here
  one_more first (x ∷ xs) y =
      let next : first + 1 + length xs ≡ first + suc (length xs) = omega arith in
      ap (λ more. (first, x) ∷ more) (one_more (first + 1) xs y ∙ ap (λ id. enumerate_from (first + 1) xs ++ (id, y) ∷ []) next)

  -- where the first id is 0, the places are the ids
  pub found_at : (id : ℕ) (xs : List X) (others : List (ℕ × X)) (d : X) → id < length xs →
      lookup (is_at (nat_cmp id)) (enumerate_from 0 xs ++ others) ≡ Some (get_or xs id d)
  found_at id xs others d below =
      let place : id - 0 ≡ id = omega arith in
      found 0 id xs others d (omega arith) (omega (arith, below)) ∙ ap (λ i. Some (get_or xs i d)) place

  pub replaced_at : (id : ℕ) (xs : List X) (others : List (ℕ × X)) (y : X) → id < length xs →
      enumerate_from 0 (set xs id y) ++ others ≡ insert_entry nat_cmp (enumerate_from 0 xs ++ others) id y
  replaced_at id xs others y below =
      let place : id ≡ id - 0 = omega arith in
      ap (λ i. enumerate_from 0 (set xs i y) ++ others) place ∙ replaced 0 id xs others y (omega arith) (omega (arith, below))

  -- an entry of the id behind the first ones, without others
  pub next_one : (id : ℕ) (xs : List X) (others : List (ℕ × X)) (y : X) → id ≡ length xs → others ≡ [] →
      enumerate_from 0 (xs ++ y ∷ []) ++ others ≡ insert_entry nat_cmp (enumerate_from 0 xs ++ others) id y
  next_one id xs others y next none =
      rw none (
      append-nil (enumerate_from 0 (xs ++ y ∷ []))
      ∙ one_more 0 xs y
      ∙ ap (λ last. enumerate_from 0 xs ++ (last, y) ∷ []) (omega (arith, next))
      ∙ behind 0 id xs [] y (omega (arith, next))
      )
