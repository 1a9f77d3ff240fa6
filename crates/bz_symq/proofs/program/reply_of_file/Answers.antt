use Rattle.bz_symq.specs.Command.{file_asking}
use Rattle.bz_symq.specs.Targets.{IsSomeCause}
use Rattle.bz_symq.proofs.ReplyLemmas.{answers_read, refusal_named, replies_refused}
use Rattle.bz_symq.proofs.program.reply_of_file.Goals as goal

-- the call was refused
pub returns-in-Err-clause-reply : goal.returns-in-Err-clause-reply
returns-in-Err-clause-reply g c world told =
    replies_refused answers_read c.args.addrs.items _ c.in-Err.error c.refusal.result (c.in-Err.ensures.answer world told) c.refusal.ensures.reply

-- by a cause that is named
pub returns-in-Err-clause-refusal : goal.returns-in-Err-clause-refusal
returns-in-Err-clause-refusal g c = refusal_named (IsSomeCause (file_asking c.args.batch.now)) c.in-Err.error c.refusal.result c.in-Err.ensures.refusal c.refusal.ensures.reply
