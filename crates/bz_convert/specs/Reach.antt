-- How far calls reach, each with those of its depth in front of it.
use Rattle.std.specs.Prelude.{◌≡◌, ℕ, ◌+◌, ◌≤◌, ◌==◌, nat_lt, List, length, Option, Some, None, slice_get, if◌then◌else◌}
use Rattle.bz_breakpad_lines.specs.Table.{Inlinee}
use Rattle.bz_convert.specs.declared.calls.Reach.{Reach}

-- calls by depth and start
pub record AreByDepth (cs : List Inlinee) : Type 0 where
  pub depths : (i j : ℕ) (x y : Inlinee) → i ≤ j → slice_get cs i ≡ Some x → slice_get cs j ≡ Some y → x.depth ≤ y.depth
  pub starts : (i j : ℕ) (x y : Inlinee) → i ≤ j → slice_get cs i ≡ Some x → slice_get cs j ≡ Some y → x.depth ≡ y.depth → x.start ≤ y.start

-- the greater of two ends
abbrev pub later_end : ℕ → ℕ → ℕ
later_end a b = if nat_lt b a then a else b

-- how far a call reaches with those of its depth in front of it, by the one before it
abbrev pub reach_after : Option Reach → Inlinee → Reach
reach_after None c = record { depth = c.depth; start = c.start; end = c.start + c.size }
reach_after (Some last) c = record { depth = c.depth; start = c.start; end = if last.depth == c.depth then later_end last.end (c.start + c.size) else c.start + c.size }

-- the reach of the call at a place is the greatest end of those of its depth up to there
pub record IsReach (calls : List Inlinee) (place : ℕ) (c : Inlinee) (r : Reach) : Type 0 where
  pub depth : r.depth ≡ c.depth
  pub start : r.start ≡ c.start
  pub most : (i : ℕ) (o : Inlinee) → i ≤ place → slice_get calls i ≡ Some o → o.depth ≡ c.depth → o.start + o.size ≤ r.end
  pub attained : (i : ℕ) × (o : Inlinee) × (i ≤ place) × (slice_get calls i ≡ Some o) × (o.depth ≡ c.depth) × (r.end ≡ o.start + o.size)

-- each call, with those up to it
pub record AreReaches (calls : List Inlinee) (reaches : List Reach) : Type 0 where
  pub count : length reaches ≡ length calls
  pub each : (i : ℕ) (c : Inlinee) (r : Reach) → slice_get calls i ≡ Some c → slice_get reaches i ≡ Some r → IsReach calls i c r
