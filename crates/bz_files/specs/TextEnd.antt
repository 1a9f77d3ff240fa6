-- What one call of an end of a text does to the bytes behind it, where these are told.
use Rattle.std.specs.Prelude.{◌≡◌, ℕ, ◌<◌, List, [], ◌++◌, length, take, drop, Option, Some, None, Result, Ok, Err}
use Rattle.bz_files.specs.declared.text.IoFault.{IoFault}

-- the first bytes that were left are now the first of the piece; the end is answered only where none
-- was left; a failed call moves nothing. Where the bytes weren't told, they aren't told after.
abbrev pub Takes : Option (List ℕ) → Option (List ℕ) → List ℕ → List ℕ → Result ℕ IoFault → Type 0
Takes None left piece filled result = left ≡ None
Takes (Some before) left piece filled (Ok n) =
    (left ≡ Some (drop n before)) × (filled ≡ take n before ++ drop n piece) × (n ≡ 0 → 0 < length piece → before ≡ [])
Takes (Some before) left piece filled (Err _) = (left ≡ Some before) × (filled ≡ piece)

-- the first bytes of the piece stand at the end of what was written; a failed call writes nothing
abbrev pub Puts : Option (List ℕ) → Option (List ℕ) → List ℕ → Result ℕ IoFault → Type 0
Puts None written piece result = written ≡ None
Puts (Some before) written piece (Ok n) = written ≡ Some (before ++ take n piece)
Puts (Some before) written piece (Err _) = written ≡ Some before
