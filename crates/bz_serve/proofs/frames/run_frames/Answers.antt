use Rattle.std.proofs.Common.{refl}
use Rattle.bz_serve.proofs.FrameRunLemmas.{runs_with_reply, runs_without_reply}
use Rattle.bz_serve.proofs.frames.run_frames.Goals as goal

-- the reply was written, as far as writing didn't fail
pub returns-in-Ok : goal.returns-in-Ok
returns-in-Ok g c =
    runs_with_reply g.R.TextIn g.W.TextOut g.F.Files c.args.root.now c.args.opts.now c.finish.result _ _ _ _ _ _ c.in-Ok.reply c.in-Ok.ensures c.finish.ensures

-- no reply was given: reading or looking failed, or memory ran out
pub returns-in-Err : goal.returns-in-Err
returns-in-Err g c =
    runs_without_reply g.R.TextIn g.W.TextOut g.F.Files c.args.root.now c.args.opts.now c.failed.result _ _ _ _ _ _ c.in-Err.error
    c.failed.ensures.failure c.failed.ensures.fault c.in-Err.ensures refl
