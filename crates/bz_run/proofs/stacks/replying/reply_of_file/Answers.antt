use Rattle.bz_symq.specs.Command.{Breakpad}
use Rattle.bz_symq.specs.Targets.{IsSomeFileCause}
use Rattle.bz_symq.proofs.ReplyLemmas.{refusal_named}
use Rattle.bz_run.proofs.StackReplyLemmas.{replies_refused}
use Rattle.bz_run.proofs.stacks.replying.reply_of_file.Goals as goal

-- folding was refused
pub returns-in-Err-clause-reply : goal.returns-in-Err-clause-reply
returns-in-Err-clause-reply g c world told = replies_refused _ c.in-Err.error c.refusal.result (c.in-Err.ensures.answer world told) c.refusal.ensures.reply

-- by a cause that is named
pub returns-in-Err-clause-refusal : goal.returns-in-Err-clause-refusal
returns-in-Err-clause-refusal g c = refusal_named (IsSomeFileCause (Breakpad c.args.path.now)) c.in-Err.error c.refusal.result c.in-Err.ensures.refusal c.refusal.ensures.reply
