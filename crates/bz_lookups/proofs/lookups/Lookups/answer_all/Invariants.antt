use Rattle.std.proofs.Common.{◌≡◌, ◌-◌, ◌<◌, ℕ, length, slice_index_or}
use Rattle.bz_lookups.specs.Together.{IsAnswered}
use Rattle.bz_lookups.proofs.lookups.Lookups.answer_all.Given as goal

-- the answers at the first indices were put
abbrev pub invariant-loop-from : goal.invariant-loop-from
invariant-loop-from l = record {
  count : length l.answers.items ≡ length l.fn.answers.items;
  kept : (index : ℕ) → IsAnswered l.self l.fn.answers.items index → IsAnswered l.self l.answers.items index;
  made : (k default : ℕ) → k < l.from → IsAnswered l.self l.answers.items (slice_index_or l.indices k default);
}

-- fewer are left
abbrev pub decreases-loop-from : goal.decreases-loop-from
decreases-loop-from l = length l.indices - l.from
