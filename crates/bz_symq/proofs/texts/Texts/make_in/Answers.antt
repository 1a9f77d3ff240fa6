use Rattle.std.proofs.Common.{◌∙◌}
use Rattle.bz_symq.proofs.texts.Texts.make_in.Goals as goal

pub loop-from-preserved : goal.loop-from-preserved
loop-from-preserved c =
    let so_far = c.loop-from.invariant in
    let more = c.in_ok-make_some.ensures.ok in
    record { texts = more.texts so_far.texts; first = more.first ∙ so_far.first; count = more.count ∙ so_far.count }
