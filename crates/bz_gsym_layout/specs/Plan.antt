-- What is laid out: functions with their rows and the calls that were inlined into them, in texts.
use Rattle.std.specs.Prelude.{ℕ, List, []}
use Rattle.bz_gsym_layout.specs.Nesting.{Forest}

-- a source file: its directory, which may be empty, and its name
pub record Source : Type 0 where
  pub dir : List ℕ
  pub file : List ℕ

-- a line of a source file
pub record Line : Type 0 where
  pub source : Source
  pub line : ℕ

-- a call that was inlined: where its code lies, its name, and the line that it was called at
pub record Called : Type 0 where
  pub start : ℕ
  pub size : ℕ
  pub name : List ℕ
  pub at : Line

-- a function: its rows are addresses with their lines
pub record Code : Type 0 where
  pub start : ℕ
  pub size : ℕ
  pub name : List ℕ
  pub rows : List (ℕ × Line)
  pub calls : Forest Called

-- a source file that isn't known
abbrev pub no_source : Source
no_source = record { dir = []; file = [] }
