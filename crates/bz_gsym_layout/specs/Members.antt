-- What stands in a list.
use Rattle.std.specs.Prelude.{◌≡◌, ℕ, List, Some, slice_get}

-- what stands somewhere in a list
abbrev pub In : {X : Type 0} → List X → X → Type 0
In xs x = (i : ℕ) × (slice_get xs i ≡ Some x)
