-- Which of a function's rows answers at an address.
use Rattle.std.specs.Prelude.{ℕ, nat_lt, List, [], ◌∷◌, Option, Some, if◌then◌else◌}

-- the last row that doesn't lie above the address, where the rows ascend
abbrev pub row_at : {L : Type 0} → ℕ → Option (ℕ × L) → List (ℕ × L) → Option (ℕ × L)
row_at addr last [] = last
row_at addr last (row ∷ rows) = if nat_lt addr row.0 then last else row_at addr (Some row) rows
