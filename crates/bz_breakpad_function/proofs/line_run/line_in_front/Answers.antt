use Rattle.std.proofs.Common.{arith, ◌∙◌}
use Rattle.std.proofs.lemmas.List.{take_rest}
use Rattle.bz_breakpad_function.proofs.RunFrontLemmas.{back_front, back_tries, front_front_run, front_tries, read_in_front}
use Rattle.bz_breakpad_function.proofs.line_run.line_in_front.Goals as goal

pub start_at-requires : goal.start_at-requires
start_at-requires c = read_in_front c.loop-cut.rest.now c.loop-cut.len c.loop-cut.invariant.front c.in-Some.cut c.in-Some.ensures.cut

pub loop-cut-preserved-then-start_at-addr : goal.loop-cut-preserved-then-start_at-addr
loop-cut-preserved-then-start_at-addr c =
    let rest = c.loop-cut.rest.now in
    let len = c.loop-cut.len in
    let cut = c.in-Some.cut in
    let run = c.loop-cut.invariant.front in
    let is = c.in-Some.ensures.cut in
    rw (take_rest rest cut) (record {
      front = back_front rest len run cut is;
      same = back_tries rest len run cut is c.args.addr (omega arith) ∙ c.loop-cut.invariant.same;
    })

pub loop-cut-preserved : goal.loop-cut-preserved
loop-cut-preserved c =
    let rest = c.loop-cut.rest.now in
    let len = c.loop-cut.len in
    let cut = c.in-Some.cut in
    let run = c.loop-cut.invariant.front in
    let is = c.in-Some.ensures.cut in
    record {
      front = front_front_run rest len run cut is;
      same = front_tries rest len run cut is c.args.addr (omega arith) ∙ c.loop-cut.invariant.same;
    }
