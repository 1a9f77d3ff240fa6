use Rattle.bz_base.specs.Answer.{reading}
use Rattle.bz_requests.specs.Requests.{target_of}
use Rattle.bz_canon.specs.AnswerText.{answer_text}
use Rattle.bz_serve.proofs.DoesLemmas.{does_target}
use Rattle.bz_serve.proofs.KeptTextLemmas.{asked_of_text}
use Rattle.bz_serve.proofs.RequestReplyLemmas.{replied_given, replied_refused}
use Rattle.bz_serve.proofs.SomeReplyLemmas.{single_given, single_refused}
use Rattle.bz_serve.proofs.serving.replies.reply_to_addr.Goals as goal

-- the answer is said
pub returns-in-Ok-clause-reply : goal.returns-in-Ok-clause-reply
returns-in-Ok-clause-reply g c =
    let kind = c.input_of-input.ensures.kind in
    let addr = c.input_of-input.ensures.addrs in
    replied_given g.F.Files _ _ reading (answer_text c.args.addr) _ _ _ c.in-Ok.answer c.said_answer.result
    (does_target g.F.Files c.in_ok-src.src _ _ _ _ _ c.args.server.now.map_files (target_of c.args.target.now) c.in_ok-src.ensures.ok _ _ _ reading c.args.addr
    (rw (kind, addr) at c.in-Ok.ensures.call) (rw (kind, addr) at c.in-Ok.ensures.process) (λ member answer is. is))
    c.said_answer.ensures

-- the refusal is said
pub returns-clause-reply : goal.returns-clause-reply
returns-clause-reply g c =
    let kind = c.input_of-input.ensures.kind in
    let addr = c.input_of-input.ensures.addrs in
    replied_refused g.F.Files _ _ reading (answer_text c.args.addr) _ _ _ c.in-Err.error c.said_refusal.result
    (does_target g.F.Files c.in_ok-src.src _ _ _ _ _ c.args.server.now.map_files (target_of c.args.target.now) c.in_ok-src.ensures.ok _ _ _ reading c.args.addr
    (rw (kind, addr) at c.in-Err.ensures.call) (rw (kind, addr) at c.in-Err.ensures.process) (λ member answer is. is))
    c.said_refusal.ensures

-- that answer or refusal may come, whatever the files tell
pub returns-in-Ok-clause-untold : goal.returns-in-Ok-clause-untold
returns-in-Ok-clause-untold g c =
    let kind = c.input_of-input.ensures.kind in
    let addr = c.input_of-input.ensures.addrs in
    single_given g.F.Files reading c.in_ok-src.src c.args.addr c.said_answer.result _ _ _ _ _ _ _ c.args.server.now.map_files (target_of c.args.target.now) c.in-Ok.answer c.in_ok-src.ensures.ok c.in_ok-src.ensures.source
    (rw (kind, addr) at c.in-Ok.ensures.call) (rw (kind, addr) at c.in-Ok.ensures.process) (λ member answer is. is) c.requires c.said_answer.ensures

pub returns-clause-untold : goal.returns-clause-untold
returns-clause-untold g c =
    let kind = c.input_of-input.ensures.kind in
    let addr = c.input_of-input.ensures.addrs in
    single_refused g.F.Files reading c.in_ok-src.src c.args.addr c.said_refusal.result _ _ _ _ _ _ _ c.args.server.now.map_files (target_of c.args.target.now) c.in-Err.error c.in_ok-src.ensures.ok c.in_ok-src.ensures.source
    (rw (kind, addr) at c.in-Err.ensures.call) (rw (kind, addr) at c.in-Err.ensures.process) (λ member answer is. is) c.requires c.said_refusal.ensures

-- the mappings that are kept stay as they were
pub returns-in-Ok-clause-kept : goal.returns-in-Ok-clause-kept
returns-in-Ok-clause-kept g c = asked_of_text _ _ c.requires g.F.Files c.in_ok-src.src _ _ c.in-Ok.ensures.process (λ query promise. promise.mappings)

pub returns-clause-kept : goal.returns-clause-kept
returns-clause-kept g c = asked_of_text _ _ c.requires g.F.Files c.in_ok-src.src _ _ c.in-Err.ensures.process (λ query promise. promise.mappings)
