use Rattle.std.proofs.Common.{◌-◌, ◌≤◌, length}
use Rattle.std.specs.List.{prefix_len}
use Rattle.bz_bytes.proofs.scan.run_len.Given as goal

-- the bytes so far pass
abbrev pub invariant-loop-len : goal.invariant-loop-len
invariant-loop-len g l = record {
  passes : l.len ≤ prefix_len g.T.ByteTest.passes l.text;
  within : l.len ≤ length l.text;
}

abbrev pub decreases-loop-len : goal.decreases-loop-len
decreases-loop-len g l = length l.text - l.len
