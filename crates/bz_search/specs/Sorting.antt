-- A list in the order of two numbers of each item. Items that are alike in both stand in the order of
-- the list.
use Rattle.std.specs.Prelude.{◌≡◌, ℕ, ◌≤◌, Bool, ◌==◌, nat_lt, ◌&&◌, ◌||◌, List, [], ◌∷◌, if◌then◌else◌}
use Rattle.std.specs.List.{AllByRecursion}

module _ {X : Type 0} (first second : X → ℕ) where
  -- two items in order
  pub record IsUpTo (x y : X) : Type 0 where
    pub firsts : first x ≤ first y
    pub seconds : first x ≡ first y → second x ≤ second y

  -- each item and those after it stand in order
  abbrev pub Ascends : List X → Type 0
  Ascends [] = Unit {0}
  Ascends (x ∷ xs) = AllByRecursion (IsUpTo x) xs × Ascends xs

  -- the first number is smaller, or it is the same and the second is
  abbrev pub is_below : X → X → Bool
  is_below x y = nat_lt (first x) (first y) || (first x == first y && nat_lt (second x) (second y))

  -- an item put into a list, after those that are below it
  abbrev pub put : X → List X → List X
  put x [] = x ∷ []
  put x (y ∷ ys) = if is_below y x then y ∷ put x ys else x ∷ y ∷ ys

  -- the list in order: each item put into those after it
  abbrev pub sorted : List X → List X
  sorted [] = []
  sorted (x ∷ xs) = put x (sorted xs)
