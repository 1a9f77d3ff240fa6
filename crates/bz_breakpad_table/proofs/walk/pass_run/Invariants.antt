use Rattle.std.proofs.Common.{◌+◌, ◌<◌, ◌≤◌, length}
use Rattle.bz_breakpad_lines.specs.Stops.{AreStops}
use Rattle.bz_breakpad_table.specs.Walked.{GoesOn}
use Rattle.bz_breakpad_table.proofs.walk.pass_run.Given as goal

-- a walk may end its run before what is left, so many records later; each has a byte at least
abbrev pub invariant-loop-next : goal.invariant-loop-next
invariant-loop-next l = record {
  goes_on : GoesOn l.rest l.fn.start l.left l.last l.count;
  stops : AreStops l.left l.stops;
  positive : 0 < l.last.digits;
  few : l.last.digits ≤ 8;
  within : l.count + length l.left ≤ length l.rest;
}

abbrev pub decreases-loop-next : goal.decreases-loop-next
decreases-loop-next l = length l.left
