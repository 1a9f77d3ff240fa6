-- Inlined calls as trees: each with those inside it.
use Rattle.std.specs.Prelude.{ℕ, ◌+◌, ◌==◌, nat_lt, List, [], ◌∷◌, ◌++◌, if◌then◌else◌}
use Rattle.bz_base.specs.Span.{inside}

-- siblings: the first with the calls inside it, and those after it
pub data Forest (X : Type 0) : Type 0 where
  NoCalls : Forest X
  Call : (call : X) → (within : Forest X) → (after : Forest X) → Forest X

module _ {X : Type 0} (depth : X → ℕ) where
  -- the calls of a depth, up to the first call that is less deep; the deeper ones that stand behind a
  -- call lie inside it
  abbrev pub nested : ℕ → List X → Forest X
  nested at [] = NoCalls
  nested at (x ∷ xs) =
      if nat_lt (depth x) at then NoCalls
      else (if depth x == at then Call x (nested (at + 1) xs) (nested at xs) else nested at xs)

module _ {X : Type 0} (start size : X → ℕ) where
  -- the calls that have an address inside, as those around them do, each before those inside it
  abbrev pub calls_in : ℕ → Forest X → List X
  calls_in addr NoCalls = []
  calls_in addr (Call x within after) = (if inside (start x) (size x) addr then x ∷ calls_in addr within else []) ++ calls_in addr after

-- the same trees of what each call is seen as
abbrev pub map_forest : {X Y : Type 0} → (X → Y) → Forest X → Forest Y
map_forest f NoCalls = NoCalls
map_forest f (Call x within after) = Call (f x) (map_forest f within) (map_forest f after)
