-- Which of several records answers for an address: the one with the nearest start, if it covers the
-- address. The records stand in the order of their file, and may repeat and overlap.
use Rattle.std.specs.Prelude.{◌≡◌, ◌⊎◌, ℕ, ◌<◌, ◌≤◌, Bool, true, false, not, ◌==◌, nat_le, nat_lt, ◌&&◌, ◌||◌, List, [], ◌∷◌, Option, Some, None, if◌then◌else◌, slice_get, option_and_then}
use Rattle.std.specs.List.{filter}
use Rattle.bz_search.specs.Span.{covers}

module _ {X : Type 0} (start size : X → ℕ) where
  -- the record at a place is the one to try: no other start lies nearer below the address. Of the
  -- records that start at the address itself it is the smallest, and the first of equals. Of those that
  -- start below it, it is the largest, and the last of equals
  pub record IsCandidate (records : List X) (addr place : ℕ) (x : X) : Type 0 where
    pub there : slice_get records place ≡ Some x
    pub not_above : start x ≤ addr
    pub closest : (i : ℕ) (y : X) → slice_get records i ≡ Some y → start y ≤ addr → start y ≤ start x
    pub smallest_at : start x ≡ addr → (i : ℕ) (y : X) → slice_get records i ≡ Some y → start y ≡ start x →
        (size x < size y) ⊎ ((size x ≡ size y) × (place ≤ i))
    pub largest_below : start x < addr → (i : ℕ) (y : X) → slice_get records i ≡ Some y → start y ≡ start x →
        (size y < size x) ⊎ ((size y ≡ size x) × (i ≤ place))

  -- the answer is the candidate if it covers the address, and else none; an enclosing record that
  -- starts earlier is never tried
  abbrev pub IsNearestCovering : List X → ℕ → Option X → Type 0
  IsNearestCovering records addr (Some x) = (place : ℕ) × IsCandidate records addr place x × (covers (start x) (size x) addr ≡ true)
  IsNearestCovering records addr None = (place : ℕ) (x : X) → IsCandidate records addr place x → covers (start x) (size x) addr ≡ false

  -- whether a record is to be tried before another, which stands after it and doesn't start above the
  -- address
  abbrev pub comes_first : ℕ → X → X → Bool
  comes_first addr x y =
      if start x == addr
      then not (start y == addr) || nat_le (size x) (size y)
      else nat_lt (start x) addr && (nat_lt (start y) (start x) || (start y == start x && nat_lt (size y) (size x)))

  -- a record, or the one to be tried among those after it
  abbrev pub first_of : ℕ → X → Option X → Option X
  first_of addr x None = if nat_le (start x) addr then Some x else None
  first_of addr x (Some y) = if comes_first addr x y then Some x else Some y

  -- the record to be tried
  abbrev pub candidate : ℕ → List X → Option X
  candidate addr [] = None
  candidate addr (x ∷ xs) = first_of addr x (candidate addr xs)

  -- a record, if it covers the address
  abbrev pub if_covers : ℕ → X → Option X
  if_covers addr x = if covers (start x) (size x) addr then Some x else None

  -- the record to be tried, if it covers the address
  abbrev pub nearest_covering : ℕ → List X → Option X
  nearest_covering addr records = option_and_then (if_covers addr) (candidate addr records)

  -- a record has this start and this size
  abbrev pub has_span : ℕ → ℕ → X → Bool
  has_span at length x = at == start x && length == size x

  -- the table has the records of the list by start and then by size. Those that are alike in both stand
  -- in the order of the list
  pub record IsTable (records table : List X) : Type 0 where
    pub starts_ascend : (i j : ℕ) (x y : X) → i ≤ j → slice_get table i ≡ Some x → slice_get table j ≡ Some y → start x ≤ start y
    pub sizes_ascend : (i j : ℕ) (x y : X) → i ≤ j → slice_get table i ≡ Some x → slice_get table j ≡ Some y → start x ≡ start y → size x ≤ size y
    pub alike : (at length : ℕ) → filter (has_span at length) table ≡ filter (has_span at length) records
