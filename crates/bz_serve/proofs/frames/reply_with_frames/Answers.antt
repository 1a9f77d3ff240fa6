use Rattle.std.proofs.Common.{◌≤◌, length, arith}
use Rattle.bz_symq.proofs.FaultLemmas.{no_fault}
use Rattle.bz_requests.specs.InputText.{greatest_input}
use Rattle.bz_requests.proofs.InputTextLemmas.{over_at_end}
use Rattle.bz_serve.proofs.FrameTurnLemmas.{turns_replied, turns_stopped}
use Rattle.bz_serve.proofs.frames.reply_with_frames.Goals as goal

-- the input was read whole, and its lines were replied to
pub returns-in-Ok : goal.returns-in-Ok
returns-in-Ok g c =
    let short : length c.in-Ok.text.items ≤ greatest_input = omega (arith, c.in-Ok.text.ok.0, c.in-Ok.ensures.short) in
    turns_replied g.R.TextIn g.F.Files c.args.root.now c.args.opts.now _ _ c.in-Ok.ensures.bounded
    c.in-Ok.text.items c.reply_to_frames.result _ _ short c.in-Ok.ensures.whole
    (over_at_end _ _ c.in-Ok.text.items short c.in-Ok.ensures.whole c.in-Ok.ensures.end)
    (no_fault _ _ _ (λ never. cc) c.in-Ok.ensures.faults)
    (rw c.as_slice.ensures.value at c.reply_to_frames.ensures.reply) (rw c.as_slice.ensures.value at c.reply_to_frames.ensures.answered)

-- the input wasn't read to its end
pub returns-in-Err : goal.returns-in-Err
returns-in-Err g c =
    let stopped = c.in-Err.ensures in
    turns_stopped g.R.TextIn g.F.Files c.args.root.now c.args.opts.now _ _ stopped.bounded c.in-Err.stop c.unread.result _ c.unread.ensures stopped.long stopped.past stopped.faults
