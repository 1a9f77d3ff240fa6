-- A pass along starts that never descend, for the addresses of a batch in their order.
use Rattle.std.specs.Prelude.{◌≡◌, ℕ, ◌<◌, ◌≤◌, List, length, slice_index}

-- where a sweep stands for an address: the starts before the place are below the address, and those
-- from there on aren't; the start at the place is known
pub record IsGap (starts : List ℕ) (addr place above : ℕ) : Type 0 where
  pub within : place ≤ length starts
  pub lower : (k : ℕ) → k < place → slice_index starts k < addr
  pub upper : (k : ℕ) → place ≤ k → k < length starts → addr ≤ slice_index starts k
  pub above_is : place < length starts → slice_index starts place ≡ above

-- an address of the batch with its index, as the pair of both
abbrev pub IsEntry : List ℕ → ℕ × ℕ → Type 0
IsEntry addrs entry = (entry.1 < length addrs) × (slice_index addrs entry.1 ≡ entry.0)
