-- Where names stand that share bytes: a name's end is a name as well, from each character on.
use Rattle.std.specs.Prelude.{◌≡◌, ◌↔◌, ℕ, ◌<◌, ◌≤◌, Bool, true, List, length, drop}
use Rattle.std.specs.Str.{IsCharBoundary}
use Rattle.bz_elf.specs.Symbols.{is_name}

-- a name stands at a place of the strings
abbrev pub is_name_at : List ℕ → ℕ → Bool
is_name_at strings place = is_name (drop place strings)

-- from one place on and before another, a name stands where a character begins, and nowhere else
pub record IsText (strings : List ℕ) (from end : ℕ) : Type 0 where
  pub within : end ≤ length strings
  pub names : (place : ℕ) → from ≤ place → place < end → (is_name_at strings place ≡ true) ↔ IsCharBoundary strings place
