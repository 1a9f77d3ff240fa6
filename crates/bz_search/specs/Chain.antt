-- Which of several nested records lies around an address at each depth. The records stand in the order
-- of their file.
use Rattle.std.specs.Prelude.{◌≡◌, ◌⊎◌, ℕ, zero, suc, ◌+◌, ◌<◌, ◌≤◌, Bool, ◌==◌, nat_le, nat_lt, ◌&&◌, List, [], ◌∷◌, Option, Some, None, if◌then◌else◌, slice_get}
use Rattle.bz_search.specs.Span.{inside}

-- how many depths there are, from 0 on: a chain ends after the last of them
abbrev pub depths : ℕ
depths = 4294967296

module _ {X : Type 0} (depth start : X → ℕ) where
  -- the record at a place is the one to try at the depth: no other start of that depth lies nearer
  -- below the address. Of equal starts it is the last
  pub record IsInner (records : List X) (at addr place : ℕ) (x : X) : Type 0 where
    pub there : slice_get records place ≡ Some x
    pub depth_is : depth x ≡ at
    pub not_above : start x ≤ addr
    pub closest : (i : ℕ) (y : X) → slice_get records i ≡ Some y → depth y ≡ at → start y ≤ addr → start y ≤ start x
    pub last : (i : ℕ) (y : X) → slice_get records i ≡ Some y → depth y ≡ at → start y ≡ start x → i ≤ place

  -- a record fits where it has the depth and doesn't start above the address
  abbrev pub fits : ℕ → ℕ → X → Bool
  fits at addr x = depth x == at && nat_le (start x) addr

  -- a record, or the one to be tried among those after it
  abbrev pub inner_of : ℕ → ℕ → X → Option X → Option X
  inner_of at addr x None = if fits at addr x then Some x else None
  inner_of at addr x (Some y) = if fits at addr x && nat_lt (start y) (start x) then Some x else Some y

  -- the record to be tried at the depth
  abbrev pub inner : ℕ → ℕ → List X → Option X
  inner at addr [] = None
  inner at addr (x ∷ xs) = inner_of at addr x (inner at addr xs)

  module _ (size : X → ℕ) where
    -- the record, if it has the address inside
    abbrev pub around : ℕ → Option X → Option X
    around addr None = None
    around addr (Some x) = if inside (start x) (size x) addr then Some x else None

    -- a record with those that come after it
    abbrev pub link : Option X → (ℕ → List X) → List X
    link None rest = []
    link (Some x) rest = x ∷ rest 0

    -- so many records around the address at most, from a depth on
    unfoldable pub chain_from : List X → ℕ → ℕ → ℕ → List X
    chain_from records addr zero at = []
    chain_from records addr (suc most) at = link (around addr (inner at addr records)) (λ _. chain_from records addr most (at + 1))

    -- the records around the address, from the outermost on
    unfoldable pub chain : List X → ℕ → List X
    chain records addr = chain_from records addr depths 0

    -- the records are the ones to try at the depth and at those after it, each with the address inside.
    -- The chain ends where there is no such record, or at the end of depths
    abbrev pub IsChainTo : ℕ → List X → ℕ → ℕ → List X → Type 0
    IsChainTo end records addr at [] = (at ≡ end) ⊎ (around addr (inner at addr records) ≡ None)
    IsChainTo end records addr at (x ∷ xs) = (at < end) × (around addr (inner at addr records) ≡ Some x) × IsChainTo end records addr (at + 1) xs
