use Rattle.std.proofs.Common.{◌≡◌, ◌-◌, ◌<◌, ◌≤◌, ℕ, length}
use Rattle.bz_lookups.specs.Together.{IsAnswered}
use Rattle.bz_lookups.proofs.lookups.Lookups.owned_answers.Given as goal

-- the answers so far are those of the batch
abbrev pub invariant-loop-first : goal.invariant-loop-first
invariant-loop-first l = record {
  count : length l.answers.items ≡ l.first;
  within : length l.answers.items ≤ length l.self.addrs;
  are : (index : ℕ) → index < length l.answers.items → IsAnswered l.self l.answers.items index;
}

-- fewer are left
abbrev pub decreases-loop-first : goal.decreases-loop-first
decreases-loop-first l = length l.self.addrs - l.first
