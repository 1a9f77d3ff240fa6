-- Which functions can be laid out: those whose numbers and texts the format has room for.
use Rattle.std.specs.Prelude.{◌≡◌, ℕ, ◌+◌, ◌^◌, ◌<◌, ◌≤◌, List, [], ◌∷◌, Some, slice_get, IsUtf8}
use Rattle.std.specs.List.{AllByRecursion}
use Rattle.bz_base.specs.Byte.{HasNo, zero_byte}
use Rattle.bz_base.specs.Span.{last_address}
use Rattle.bz_gsym_layout.specs.Nesting.{Forest}
use Rattle.bz_gsym_layout.specs.Nesting.Forest.{NoCalls, Call}
use Rattle.bz_gsym_layout.specs.Numbering.{texts_of}
use Rattle.bz_gsym_layout.specs.Plan.{Called, Code, Line}

-- a text that a zero byte can end
abbrev pub IsStorable : List ℕ → Type 0
IsStorable text = HasNo zero_byte text × IsUtf8 text

-- rows that ascend from an address on, of numbers that fit
abbrev pub RowsAscend : ℕ → List (ℕ × Line) → Type 0
RowsAscend addr [] = Unit {0}
RowsAscend addr (row ∷ rows) = (addr ≤ row.0) × (row.0 < 2 ^ 64) × (row.1.line < 2 ^ 32) × RowsAscend row.0 rows

-- calls none of which starts before the one around it, of numbers that fit
abbrev pub CallsStartInside : ℕ → Forest Called → Type 0
CallsStartInside base NoCalls = Unit {0}
CallsStartInside base (Call c within after) = (base ≤ c.start) × (c.start + c.size ≤ last_address) × (c.at.line < 2 ^ 32) × CallsStartInside c.start within × CallsStartInside base after

-- a function that can be laid out; rows and calls are asked only where its end fits 64 bits
pub record IsLayable (c : Code) : Type 0 where
  pub size : c.size ≡ 0 → ⊥
  pub small : c.size < 2 ^ 32
  pub start : c.start < 2 ^ 64
  pub texts : AllByRecursion IsStorable (texts_of c)
  pub rows : c.start + c.size ≤ last_address → RowsAscend c.start c.rows
  pub calls : c.start + c.size ≤ last_address → CallsStartInside c.start c.calls

-- the starts of functions never descend
abbrev pub StartsAscend : List Code → Type 0
StartsAscend codes = (i j : ℕ) (x y : Code) → i ≤ j → slice_get codes i ≡ Some x → slice_get codes j ≡ Some y → x.start ≤ y.start
