-- Starts that never descend, and where a search among them ends.
use Rattle.std.specs.Prelude.{◌≡◌, ℕ, ◌+◌, ◌*◌, ◌^◌, ◌<◌, ◌≤◌, List, length, Option, Some, None, slice_index, slice_index_or}

-- no start is below one before it
abbrev pub NeverDescends : List ℕ → Type 0
NeverDescends starts = (i j : ℕ) → i ≤ j → j < length starts → slice_index starts i ≤ slice_index starts j

-- the place is the first whose start equals the address, else the last of those with a smaller start
pub record IsPlace (starts : List ℕ) (addr place start : ℕ) : Type 0 where
  pub within : place < length starts
  pub start_is : slice_index starts place ≡ start
  pub not_above : start ≤ addr
  pub first : start ≡ addr → (k : ℕ) → k < place → slice_index starts k < addr
  pub last : start < addr → (k : ℕ) → place < k → k < length starts → addr < slice_index starts k

-- the search gives that place with its start, or none where each start is above the address
abbrev pub IsFound : List ℕ → ℕ → Option (ℕ × ℕ) → Type 0
IsFound starts addr (Some x) = IsPlace starts addr x.0 x.1
IsFound starts addr None = (k : ℕ) → k < length starts → addr < slice_index starts k

-- a search gives this place, or none where each start is above the address
abbrev pub IsAt : List ℕ → ℕ → Option ℕ → Type 0
IsAt starts addr (Some place) = IsPlace starts addr place (slice_index starts place)
IsAt starts addr None = (k : ℕ) → k < length starts → addr < slice_index starts k

-- so few starts that each place among them can be kept in four bytes
abbrev pub HaveShortPlaces : List ℕ → Type 0
HaveShortPlaces starts = length starts < 2 ^ 32

-- so many probes are few enough for a search among so many starts
abbrev pub AreFew : ℕ → ℕ → Type 0
AreFew probes count = 2 ^ probes ≤ 2 * count + 1

-- the places are found one by one, each for the address that stands at the same index
abbrev pub AreFound : List ℕ → List ℕ → List (Option ℕ) → Type 0
AreFound starts addrs places = (k : ℕ) → k < length addrs → IsAt starts (slice_index addrs k) (slice_index_or places k None)

-- the places that are there so far are found for the first of the addresses
abbrev pub AreFoundSoFar : List ℕ → List ℕ → List (Option ℕ) → Type 0
AreFoundSoFar starts addrs places = (k : ℕ) → k < length places → IsAt starts (slice_index addrs k) (slice_index_or places k None)
