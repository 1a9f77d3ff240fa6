use Rattle.std.proofs.Common.{ap, inl}
use Rattle.bz_base.specs.InputKind.{address_kind, payload}
use Rattle.bz_symbolize.specs.FileCall.{batch_of}
use Rattle.bz_symbolize.specs.State.{opts_of}
use Rattle.bz_canon.specs.AnswerText.{answer_texts}
use Rattle.bz_symq.proofs.ReplyLemmas.{answers_read}
use Rattle.bz_serve.proofs.DoesLemmas.{does_file}
use Rattle.bz_serve.proofs.RequestReplyLemmas.{replied_given, replied_refused}
use Rattle.bz_serve.proofs.SomeReplyLemmas.{file_refused, some_answered}
use Rattle.bz_serve.proofs.serving.replies.reply_by_file.Goals as goal

-- the answers are said
pub returns-in-Ok-clause-reply : goal.returns-in-Ok-clause-reply
returns-in-Ok-clause-reply g c file is =
    let addrs = (payload c.args.input).items in
    replied_given g.F.Files _ _ answers_read (answer_texts addrs) _ _ _ c.in-Ok.lookups _
    (does_file g.F.Files c.args.src.now _ _ _ _ _ answers_read file is (batch_of (address_kind c.args.input) addrs) c.in-Ok.ensures.call c.in-Ok.ensures.processes)
    (ap (λ addrs. answer_texts addrs c.in-Ok.lookups.answers) c.in-Ok.ensures.addrs)

-- by some bytes in the format, whatever the files tell
pub returns-in-Ok-clause-untold : goal.returns-in-Ok-clause-untold
returns-in-Ok-clause-untold g c file is took =
    let addrs = (payload c.args.input).items in
    inl (
      c.in-Ok.lookups.answers,
      some_answered (opts_of c.args.symbolizer.now.files.settings) (batch_of (address_kind c.args.input) addrs) _ c.in-Ok.lookups.answers file c.args.src.now is c.in-Ok.ensures.call.kept,
      ap (λ addrs. answer_texts addrs c.in-Ok.lookups.answers) c.in-Ok.ensures.addrs,
    )

-- the refusal is said
pub returns-in-Err-clause-reply : goal.returns-in-Err-clause-reply
returns-in-Err-clause-reply g c file is =
    let addrs = (payload c.args.input).items in
    replied_refused g.F.Files _ _ answers_read (answer_texts addrs) _ _ _ c.in-Err.error c.said_refusal.result
    (does_file g.F.Files c.args.src.now _ _ _ _ _ answers_read file is (batch_of (address_kind c.args.input) addrs) c.in-Err.ensures.call c.in-Err.ensures.processes)
    c.said_refusal.ensures

-- for a cause that the file may have
pub returns-in-Err-clause-untold : goal.returns-in-Err-clause-untold
returns-in-Err-clause-untold g c file is took =
    let addrs = (payload c.args.input).items in
    file_refused (opts_of c.args.symbolizer.now.files.settings) (batch_of (address_kind c.args.input) addrs) (answer_texts addrs) file c.args.src.now c.said_refusal.result is c.in-Err.error took c.in-Err.ensures.call.refusal c.said_refusal.ensures
