-- The rows of a function: the addresses at which another line record answers than at the one before.
use Rattle.std.specs.Prelude.{ℕ, zero, suc, ◌+◌, ◌&&◌, Bool, List, [], ◌∷◌, ◌++◌, Option, Some, None, is_none, is_some, if◌then◌else◌}

module _ {L : Type 0} (same : L → L → Bool) where
  -- the row at an address, by the record that answers before it and by the one that answers there
  abbrev pub row_by : ℕ → Option L → Option L → List (ℕ × L)
  row_by at before None = []
  row_by at None (Some line) = (at, line) ∷ []
  row_by at (Some former) (Some line) = if same former line then [] else (at, line) ∷ []

  -- the rows of so many addresses, where a record answers before them or none does
  abbrev pub rows_from : (ℕ → Option L) → Option L → ℕ → ℕ → List (ℕ × L)
  rows_from line_at before at zero = []
  rows_from line_at before at (suc count) = row_by at before (line_at at) ++ rows_from line_at (line_at at) (at + 1) count

-- the first of so many addresses at which no record answers, where one answered before
abbrev pub gap_from : {L : Type 0} → (ℕ → Option L) → Option L → ℕ → ℕ → Option ℕ
gap_from line_at before at zero = None
gap_from line_at before at (suc count) = if is_some before && is_none (line_at at) then Some at else gap_from line_at (line_at at) (at + 1) count
