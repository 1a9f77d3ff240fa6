use Rattle.std.proofs.Common.{Some, sym, ap, ◌∙◌}
use Rattle.bz_serve.proofs.FrameLemmas.{text_none, text_some}
use Rattle.bz_serve.proofs.frames.reading.text.Goals as goal

pub returns-in_ok-text-in-Ok : goal.returns-in_ok-text-in-Ok
returns-in_ok-text-in-Ok c =
    ap Some (c.in_ok-text-in-Ok.ensures.ok ∙ c.in-Ok.ensures.cases.0) ∙ sym (text_some c.args.field.now c.in-Ok.ensures.cases.1)

pub returns-in-Err : goal.returns-in-Err
returns-in-Err c = sym (text_none c.args.field.now c.in-Err.ensures.cases.0)
