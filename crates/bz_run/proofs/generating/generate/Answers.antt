use Rattle.std.proofs.Common.{refl, string_bytes}
use Rattle.bz_run.proofs.GeneratedEndLemmas.{generates_nothing, generates_text}
use Rattle.bz_run.proofs.generating.generate.Goals as goal

-- the summary was to be written
pub returns-in-Ok : goal.returns-in-Ok
returns-in-Ok g c =
    generates_text g.W.TextOut c.args.config c.args.seed c.args.functions c.args.addresses _ _ (string_bytes c.in-Ok.text) c.finish.result c.in-Ok.ensures.ok (rw c.text_reply-summary.ensures at c.finish.ensures)

-- there was none
pub returns-in-Err : goal.returns-in-Err
returns-in-Err g c = generates_nothing g.W.TextOut c.args.config c.args.seed c.args.functions c.args.addresses _ _ refl
