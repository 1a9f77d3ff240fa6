-- Counts of 64 bits, which stand still at their end.
use Rattle.std.specs.Prelude.{◌≡◌, ℕ, ◌+◌, ◌≤◌, ◌⊎◌, min}

-- the last value of a count
abbrev pub last_count : ℕ
last_count = 18446744073709551615

-- the count after one more
abbrev pub counted : ℕ → ℕ
counted n = min (n + 1) last_count

-- how a count of faults stands after a call: it is one more where the call failed by a fault, and
-- stands still else
pub record CountsFaults (before after : ℕ) (failed : Type 0) : Type 0 where
  pub grows : before ≤ after
  pub fault : failed → after ≡ counted before
  pub steady : failed ⊎ (after ≡ before)
