use Rattle.std.proofs.Common.{length}
use Rattle.bz_breakpad_lines.specs.Quick.{AreInTurn}
use Rattle.bz_breakpad_lines.specs.Records.{RANGE}
use Rattle.bz_breakpad_lines.specs.Stops.{AreStops}
use Rattle.bz_breakpad_lines.specs.Told.{ranges_told}
use Rattle.bz_breakpad_lines.proofs.inline.shown_ranges.Given as goal

-- the ranges so far stand in turn before what is left
abbrev pub invariant-loop-range : goal.invariant-loop-range
invariant-loop-range l = record {
  ranges : AreInTurn RANGE l.shown.text.now (ranges_told l.ranges.items) l.left.text.now;
  stops : AreStops l.left.text.now l.left.stops;
}

abbrev pub decreases-loop-range : goal.decreases-loop-range
decreases-loop-range l = length l.left.text.now
