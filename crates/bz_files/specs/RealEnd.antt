-- The ends of a text over a reader or a writer.
use Rattle.std.specs.Prelude.{ℕ, List, Option}

-- how many calls failed, and the bytes that the reader has left or the writer holds, where it tells
-- them
pub record RealEnd : Type 0 where
  pub faults : ℕ
  pub known : Option (List ℕ)

-- an end with these bytes, of which nothing was asked yet
abbrev pub new_end : Option (List ℕ) → RealEnd
new_end known = record { faults = 0; known = known }
