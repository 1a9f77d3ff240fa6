use Rattle.std.proofs.Common.{◌≡◌, ◌-◌}
use Rattle.bz_gsym.specs.InlineRanges.{after_ranges}
use Rattle.bz_gsym.proofs.inline.reader.skip_ranges.Given as goal

abbrev pub invariant-loop-seen : goal.invariant-loop-seen
invariant-loop-seen l = after_ranges (l.count - l._seen) l.cursor.left ≡ after_ranges l.count l.fn.cursor.left
