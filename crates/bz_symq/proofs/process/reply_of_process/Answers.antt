use Rattle.std.proofs.Common.{List, map, refl}
use Rattle.bz_base.specs.Answer.{Answer, reading}
use Rattle.bz_symq.specs.Command.{process_asking}
use Rattle.bz_symq.specs.Targets.{IsSomeCause}
use Rattle.bz_symq.proofs.ReplyLemmas.{refusal_named, replies_refused}
use Rattle.bz_symq.proofs.process.reply_of_process.Goals as goal

-- the texts of the answers that were given
pub returns-in-Ok-clause-reply : goal.returns-in-Ok-clause-reply
returns-in-Ok-clause-reply g c world told =
    let given = rw c.as_slice.ensures.value at (c.in-Ok.ensures.answer world told) in
    rw given refl

pub returns-in-Ok-clause-answered : goal.returns-in-Ok-clause-answered
returns-in-Ok-clause-answered g c done = record { answers = map reading c.in-Ok.answers.items; answers_are = record { served = c.in-Ok.ensures.served refl; are = rw c.as_slice.ensures.value at c.in-Ok.ensures.answered }; text_is = refl }

-- the process was refused
pub returns-in-Err-clause-reply : goal.returns-in-Err-clause-reply
returns-in-Err-clause-reply g c world told =
    replies_refused (λ (answers : List Answer). answers) c.args.addrs.items _ c.in-Err.error c.refusal.result (rw c.as_slice.ensures.value at (c.in-Err.ensures.answer world told)) c.refusal.ensures.reply

-- by a cause that is named
pub returns-in-Err-clause-refusal : goal.returns-in-Err-clause-refusal
returns-in-Err-clause-refusal g c = refusal_named (IsSomeCause (process_asking c.args.batch)) c.in-Err.error c.refusal.result c.in-Err.ensures.refusal c.refusal.ensures.reply
