use Rattle.std.proofs.Common.{◌≡◌, take}
use Rattle.bz_breakpad_table.specs.LineRun.{IsRunFront}
use Rattle.bz_breakpad_table.proofs.RunLemmas.{candidate_in}
use Rattle.bz_breakpad_function.proofs.line_run.line_in_front.Given as goal

-- a run stands at the front of the rest, and of it the same record is to be tried
abbrev pub invariant-loop-cut : goal.invariant-loop-cut
invariant-loop-cut l = record {
  front : IsRunFront l.rest l.len;
  same : candidate_in l.addr (take l.len l.rest) ≡ candidate_in l.addr (take l.fn.len l.text);
}

-- it gets shorter
abbrev pub decreases-loop-cut : goal.decreases-loop-cut
decreases-loop-cut l = l.len
