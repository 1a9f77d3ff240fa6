use Rattle.std.proofs.Common.{◌≡◌, Err, rules}
use Rattle.bz_serve.proofs.RequestReplyLemmas.{says_failed, says_given}
use Rattle.bz_serve.proofs.serving.saying.said_refusal.Goals as goal

pub returns : goal.returns
returns c = says_given c.args.error c.in_ok-reply.reply c.in_ok-reply.ensures.reply

pub returns-in_err-reply : goal.returns-in_err-reply
returns-in_err-reply c =
    let same : c.from_residual.result ≡ Err c.in_err-reply.field-0.0 = search rules in
    rw same (says_failed c.args.error c.in_err-reply.field-0.0 c.in_err-reply.ensures.reply)
