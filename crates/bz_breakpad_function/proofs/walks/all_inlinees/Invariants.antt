use Rattle.std.proofs.Common.{◌≡◌, map, take}
use Rattle.bz_breakpad_table.specs.Kept.{kept_call}
use Rattle.bz_breakpad_function.specs.Lent.{inlinee_seen}
use Rattle.bz_breakpad_function.proofs.walks.all_inlinees.Given as goal

-- the calls so far
abbrev pub invariant-loop-range : goal.invariant-loop-range
invariant-loop-range l = map inlinee_seen l.calls.items ≡ map (kept_call l.bytes) (take l.range-index l.ranges)
