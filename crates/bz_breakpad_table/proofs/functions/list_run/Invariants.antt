use Rattle.std.proofs.Common.{◌≤◌, length}
use Rattle.bz_breakpad_table.specs.Kept.{AreListedTo}
use Rattle.bz_breakpad_table.proofs.functions.list_run.Given as goal

-- the line records up to the rest are listed
abbrev pub invariant-loop-line : goal.invariant-loop-line
invariant-loop-line l = record {
  within : length l.rest ≤ l.run.to;
  listed : AreListedTo l.bytes l.run l.rest l.keys.items;
}

-- it gets shorter
abbrev pub decreases-loop-line : goal.decreases-loop-line
decreases-loop-line l = length l.rest
