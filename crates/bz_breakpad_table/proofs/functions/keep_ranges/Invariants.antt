use Rattle.std.proofs.Common.{◌≡◌, ◌++◌, map, take}
use Rattle.bz_breakpad_table.specs.CallRanges.{range_kept}
use Rattle.bz_breakpad_table.proofs.functions.keep_ranges.Given as goal

-- an inlined call is kept for each of the ranges so far
abbrev pub invariant-loop-range : goal.invariant-loop-range
invariant-loop-range l = l.calls.items ≡ l.fn.calls.items ++ map (range_kept l.depth l.place) (take l.range-index l.ranges)
