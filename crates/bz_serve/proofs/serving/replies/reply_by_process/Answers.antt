use Rattle.std.proofs.Common.{inl, map, refl}
use Rattle.bz_base.specs.Answer.{reading}
use Rattle.bz_canon.specs.AnswerText.{answer_texts}
use Rattle.bz_serve.proofs.DoesLemmas.{does_batch}
use Rattle.bz_serve.proofs.KeptTextLemmas.{asked_of_text}
use Rattle.bz_serve.proofs.RequestReplyLemmas.{replied_given, replied_refused}
use Rattle.bz_serve.proofs.SomeReplyLemmas.{process_given, process_refused}
use Rattle.bz_serve.proofs.serving.replies.reply_by_process.Goals as goal

-- the answers are said
pub returns-in-Ok-clause-reply : goal.returns-in-Ok-clause-reply
returns-in-Ok-clause-reply g c query is =
    replied_given g.F.Files _ _ (λ answers. map reading answers.items) (answer_texts c.args.addrs.items) _ _ _ c.in-Ok.answers _
    (does_batch g.F.Files c.args.src.now _ _ _ _ _ query is _ _ _ _ c.args.addrs.items (rw c.as_slice.ensures.value at c.in-Ok.ensures.process) (λ member answer is. is))
    refl

-- they are by some mappings, whatever the files tell
pub returns-in-Ok-clause-untold : goal.returns-in-Ok-clause-untold
returns-in-Ok-clause-untold g c map_files number is =
    inl (
      map reading c.in-Ok.answers.items,
      process_given g.F.Files (λ answers. map reading answers.items) _ _ _ c.args.src.now map_files number is c.args.addrs.items _ _ _ _ c.in-Ok.answers (rw c.as_slice.ensures.value at c.in-Ok.ensures.process) (λ member answer is. is) c.requires,
      refl,
    )

-- the refusal is said
pub returns-in-Err-clause-reply : goal.returns-in-Err-clause-reply
returns-in-Err-clause-reply g c query is =
    replied_refused g.F.Files _ _ (λ answers. map reading answers.items) (answer_texts c.args.addrs.items) _ _ _ c.in-Err.error c.said_refusal.result
    (does_batch g.F.Files c.args.src.now _ _ _ _ _ query is _ _ _ _ c.args.addrs.items (rw c.as_slice.ensures.value at c.in-Err.ensures.process) (λ member answer is. is))
    c.said_refusal.ensures

-- for want of mappings
pub returns-in-Err-clause-untold : goal.returns-in-Err-clause-untold
returns-in-Err-clause-untold g c map_files number is =
    process_refused g.F.Files (λ answers. map reading answers.items) _ _ _ c.args.src.now map_files number is c.args.addrs.items _ _ _ _ c.in-Err.error c.said_refusal.result (rw c.as_slice.ensures.value at c.in-Err.ensures.process) c.said_refusal.ensures

-- the mappings that are kept stay as they were
pub returns-in-Ok-clause-kept : goal.returns-in-Ok-clause-kept
returns-in-Ok-clause-kept g c = asked_of_text _ _ c.requires g.F.Files c.args.src.now _ _ c.in-Ok.ensures.process (λ query promise. promise.mappings)

pub returns-in-Err-clause-kept : goal.returns-in-Err-clause-kept
returns-in-Err-clause-kept g c = asked_of_text _ _ c.requires g.F.Files c.args.src.now _ _ c.in-Err.ensures.process (λ query promise. promise.mappings)
