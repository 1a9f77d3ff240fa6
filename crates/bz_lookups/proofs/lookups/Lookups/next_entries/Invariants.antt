use Rattle.std.proofs.Common.{◌≡◌, ◌+◌, ◌-◌, ◌<◌, ◌≤◌, ℕ, length, map}
use Rattle.std.specs.List.{AllByRecursion, Contains}
use Rattle.bz_lookups.specs.Together.{IsAmong}
use Rattle.bz_lookups.proofs.lookups.Lookups.next_entries.Given as goal

-- the entries so far are those up to the index
abbrev pub invariant-loop-index : goal.invariant-loop-index
invariant-loop-index l = record {
  among : AllByRecursion (IsAmong l.self l.first (l.end - l.first)) (map (λ (e : ℕ × ℕ). e.1) l.entries.items);
  each : (index : ℕ) → l.first ≤ index → index < l.index → Contains (map (λ (e : ℕ × ℕ). e.1) l.entries.items) index;
  count : length l.entries.items + l.first ≡ l.index;
  most : length l.entries.items ≤ l.end - l.first;
}
