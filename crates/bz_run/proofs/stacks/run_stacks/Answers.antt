use Rattle.std.proofs.Common.{refl}
use Rattle.bz_run.proofs.StackEndLemmas.{runs_with_reply, runs_without_reply}
use Rattle.bz_run.proofs.stacks.run_stacks.Goals as goal

-- the reply was written, as far as writing didn't fail
pub returns-in-Ok : goal.returns-in-Ok
returns-in-Ok g c =
    let made = c.in-Ok.ensures in
    runs_with_reply g.R.TextIn g.W.TextOut g.F.Files c.args.path.now c.args.config c.finish.result _ _ _ _ _ _ c.in-Ok.reply
    made.reply made.turns made.opens made.fails c.finish.ensures

-- no reply was given: reading or looking failed, or memory ran out
pub returns-in-Err : goal.returns-in-Err
returns-in-Err g c =
    let made = c.in-Err.ensures in
    runs_without_reply g.R.TextIn g.W.TextOut g.F.Files c.args.path.now c.args.config c.failed.result _ _ _ _ _ _ c.in-Err.error
    c.failed.ensures.failure c.failed.ensures.fault made.turns made.opens made.fails refl
