-- A place among starts, or none, as one number.
use Rattle.std.specs.Prelude.{◌≡◌, ℕ, zero, suc, Option, None, Some, refl}

-- places are counted from one, and zero is none
abbrev pub counted_place : ℕ → Option ℕ
counted_place zero = None
counted_place (suc place) = Some place

-- the number that stands for the place
abbrev pub place_count : Option ℕ → ℕ
place_count None = zero
place_count (Some place) = suc place

-- which is the one that the place came from
pub count_again : (counted : ℕ) → place_count (counted_place counted) ≡ counted
count_again zero = refl
count_again (suc place) = refl
