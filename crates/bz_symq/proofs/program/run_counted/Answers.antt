use Rattle.std.proofs.Common.{refl}
use Rattle.bz_symq.specs.Command.{command_of}
use Rattle.bz_symq.proofs.EndLemmas.{runs_with_reply, runs_without_reply}
use Rattle.bz_symq.proofs.program.run_counted.Goals as goal

-- the reply was written, as far as writing didn't fail
pub returns-in-Ok-clause-run : goal.returns-in-Ok-clause-run
returns-in-Ok-clause-run g c =
    let made = c.in-Ok.ensures in
    runs_with_reply g.R.TextIn g.W.TextOut g.F.Files (command_of c.args.command.now) c.finish.result _ _ _ _ _ _ c.in-Ok.reply
    made.reply made.turns made.opens made.fails c.finish.ensures

-- no reply was given: reading or looking failed, or memory ran out
pub returns-in-Err-clause-run : goal.returns-in-Err-clause-run
returns-in-Err-clause-run g c =
    let made = c.in-Err.ensures in
    runs_without_reply g.R.TextIn g.W.TextOut g.F.Files (command_of c.args.command.now) c.failed.result _ _ _ _ _ _ c.in-Err.error
    c.failed.ensures.failure c.failed.ensures.fault made.turns made.opens made.fails refl
