-- Searches among starts that never descend, for many addresses in step.
use Rattle.std.specs.Prelude.{◌≡◌, ℕ, ◌-◌, ◌/◌, ◌<◌, ◌≤◌, List, length, slice_index, slice_index_or}
use Rattle.bz_search.specs.declared.abreast.Search.{Search}
use Rattle.bz_search.specs.Starts.{NeverDescends}
use Rattle.bz_search.specs.Sweep.{IsGap}

-- the place is sought from low up to high
abbrev pub low : Search → ℕ
low search = slice_index search.ends 1

abbrev pub high : Search → ℕ
high search = slice_index search.ends 0

-- so many starts are still to be told apart
abbrev pub remaining : Search → ℕ
remaining search = high search - low search

-- a search that goes on: the starts before low are below the address, and those from high on aren't;
-- the start at high is known
pub record IsSearch (starts : List ℕ) (search : Search) : Type 0 where
  pub sorted : NeverDescends starts
  pub ordered : low search ≤ high search
  pub within : high search ≤ length starts
  pub lower : (k : ℕ) → k < low search → slice_index starts k < search.addr
  pub upper : (k : ℕ) → high search ≤ k → k < length starts → search.addr ≤ slice_index starts k
  pub above_is : high search < length starts → slice_index starts (high search) ≡ slice_index search.beside 0

-- the search goes on for the same address, and no more than half of the starts remain
pub record Halves (starts : List ℕ) (old new : Search) : Type 0 where
  pub goes_on : IsSearch starts new
  pub addr : new.addr ≡ old.addr
  pub half : remaining new ≤ remaining old / 2

-- where nothing remains, the search has its place
abbrev pub IsAtEnd : List ℕ → Search → Type 0
IsAtEnd starts search = IsGap starts search.addr (high search) (slice_index search.beside 0)

-- the search has come to its end for the same address
pub record Ends (starts : List ℕ) (old new : Search) : Type 0 where
  pub at_end : IsAtEnd starts new
  pub addr : new.addr ≡ old.addr

-- each search has become another one by the step
abbrev pub EachBy : (Search → Search → Type 0) → List Search → List Search → Type 0
EachBy step old new = (k : ℕ) (default : Search) → k < length old → step (slice_index_or old k default) (slice_index_or new k default)
