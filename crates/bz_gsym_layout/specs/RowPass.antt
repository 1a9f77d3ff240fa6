-- What rows tell, by the tables in which their source files have their numbers.
use Rattle.std.specs.Prelude.{◌≡◌, ◌<◌, ◌+◌, ℕ, List, [], ◌∷◌, Some, slice_get}
use Rattle.bz_gsym_layout.specs.Layout.{Tables, source_index}
use Rattle.bz_gsym_layout.specs.Plan.{Line}
use Rattle.bz_gsym_layout.specs.declared.plan.Row.{Row}

-- the row has the numbers of the line
pub record IsRowOf (t : Tables) (line : ℕ × Line) (row : Row) : Type 0 where
  pub addr : line.0 ≡ row.addr
  pub file : source_index t line.1.source ≡ row.source + 1
  pub line_is : line.1.line ≡ row.line

-- each row has the numbers of its line
abbrev pub AreRowsOf : Tables → List (ℕ × Line) → List Row → Type 0
AreRowsOf t [] [] = Unit {0}
AreRowsOf t (line ∷ lines) (row ∷ rows) = IsRowOf t line row × AreRowsOf t lines rows
AreRowsOf t _ _ = ⊥

-- the source files of rows have indexes below a limit
abbrev pub AreSourced : ℕ → List Row → Type 0
AreSourced limit rows = (i : ℕ) (row : Row) → slice_get rows i ≡ Some row → row.source < limit
