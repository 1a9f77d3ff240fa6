-- Lists that are gone through from the front: what is left of them, and what is still to be written.
use Rattle.std.proofs.Common.{◌≡◌, ℕ, ◌+◌, ◌<◌, ◌≤◌, List, ◌++◌, flat_map, length, map, drop, sym, ap, ◌∙◌, append_assoc, append-nil}
use Rattle.std.specs.Prelude.{slice_index_or}
use Rattle.std.proofs.lemmas.List.{drop_all, drop_more}

-- what is written of an item, and of those behind it, is the whole
module _ {X Y : Type 0} (view : X → Y) (written : Y → List ℕ) (xs : List X) (i : ℕ) (out whole : List ℕ) (left : out ++ flat_map written (map view (drop i xs)) ≡ whole) where
  pub seen_turn : (d : X) → i < length xs → (new : List ℕ) → new ≡ out ++ written (view (slice_index_or xs i d)) → new ++ flat_map written (map view (drop (i + 1) xs)) ≡ whole
  seen_turn d within new wrote =
      let x = slice_index_or xs i d in
      ap (λ l. l ++ flat_map written (map view (drop (i + 1) xs))) wrote ∙ append_assoc out (written (view x)) (flat_map written (map view (drop (i + 1) xs)))
      ∙ ap (λ l. out ++ flat_map written (map view l)) (sym (drop_more xs i d within)) ∙ left

  pub seen_end : length xs ≤ i → out ≡ whole
  seen_end past = sym (append-nil out) ∙ ap (λ l. out ++ flat_map written (map view l)) (sym (drop_all i xs past)) ∙ left

module _ {X : Type 0} (written : X → List ℕ) (xs : List X) (i : ℕ) (out whole : List ℕ) (left : out ++ flat_map written (drop i xs) ≡ whole) where
  pub flat_turn : (d : X) → i < length xs → (new : List ℕ) → new ≡ out ++ written (slice_index_or xs i d) → new ++ flat_map written (drop (i + 1) xs) ≡ whole
  flat_turn d within new wrote =
      let x = slice_index_or xs i d in
      ap (λ l. l ++ flat_map written (drop (i + 1) xs)) wrote ∙ append_assoc out (written x) (flat_map written (drop (i + 1) xs))
      ∙ ap (λ l. out ++ flat_map written l) (sym (drop_more xs i d within)) ∙ left

  pub flat_end : length xs ≤ i → out ≡ whole
  flat_end past = sym (append-nil out) ∙ ap (λ l. out ++ flat_map written l) (sym (drop_all i xs past)) ∙ left
