use Rattle.bz_breakpad_function.specs.declared.types.Inlinee.{Inlinee}
use Rattle.bz_convert.proofs.ReachLemmas.{reach_turn}
use Rattle.bz_convert.proofs.calls.reaches_of.Goals as goal

-- what stands where no call does
abbrev no_call : Inlinee
no_call = record { depth = 0; addr = 0; size = 0; call_file = 0; call_line = 0; origin_id = 0 }

pub loop-call-preserved : goal.loop-call-preserved
loop-call-preserved c =
    let s = c.loop-call in
    reach_turn c.args.calls.now s.call-index no_call c.loop-call-test.true c.requires s.reaches.items c.push.new.self.items s.last c.reach_after-reach.result c.reach_after-reach.ensures c.in_ok-push.ensures.items s.invariant
