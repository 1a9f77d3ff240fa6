-- Lists in which what is used stands once, where it was first used.
use Rattle.std.specs.Prelude.{◌≡◌, ℕ, suc, Bool, List, [], ◌∷◌, ◌++◌, Option, Some, None, option_map, if◌then◌else◌}
use Rattle.std.specs.List.{list_any}

module _ {X : Type 0} (same : X → X → Bool) where
  -- the list with one more at its end, unless one that is the same stands there
  abbrev pub with_one : List X → X → List X
  with_one xs x = if list_any (λ y. same y x) xs then xs else xs ++ x ∷ []

  -- the index of the first that is the same, if there is one
  abbrev pub index_if : X → List X → Option ℕ
  index_if x [] = None
  index_if x (y ∷ ys) = if same y x then Some 0 else option_map suc (index_if x ys)

-- each that is listed is found with its index, by what it is listed for
abbrev pub HasIndexes : {Q X : Type 0} → (Q → Option ℕ) → (Q → X) → (X → X → Bool) → List X → Type 0
HasIndexes {Q} found view same listed = (q : Q) → found q ≡ index_if same (view q) listed
