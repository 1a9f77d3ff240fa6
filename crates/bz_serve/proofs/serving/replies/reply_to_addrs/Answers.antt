use Rattle.std.proofs.Common.{◌≡◌, ◌∙◌, List, ap, subst, sym}
use Rattle.bz_base.specs.Answer.{Answer}
use Rattle.bz_base.specs.InputKind.{payload}
use Rattle.bz_symbolize.specs.State.{opts_of}
use Rattle.bz_canon.specs.AnswerText.{answer_texts}
use Rattle.bz_symq.specs.Kept.{kept_of}
use Rattle.bz_serve.specs.Serving.{AreKeptOfText, Replied}
use Rattle.bz_serve.specs.RequestSteps.{Doing, done_by}
use Rattle.bz_serve.proofs.DoesLemmas.{by_file}
use Rattle.bz_serve.proofs.SomeReplyLemmas.{some_by_file, some_by_process}
use Rattle.bz_serve.proofs.serving.replies.reply_to_addrs.Goals as goal

-- the target is a file, of the addresses that were copied
pub returns-clause-reply : goal.returns-clause-reply
returns-clause-reply g c =
    let items : (payload c.input_of-input.result).items ≡ c.args.addrs.now = ap (λ addrs. addrs.items) c.input_of-input.ensures.addrs ∙ c.in_ok-addrs.ensures.items in
    by_file
    (λ (doing : Doing (List Answer)). Replied g.F.Files (done_by (answer_texts c.args.addrs.now) doing) c.reply_by_file.result (kept_of c.args.server.now.symbolizer) (kept_of c.reply_by_file.new.symbolizer) c.args.files.now c.reply_by_file.new.files)
    c.args.server.now.map_files (g.F.Files.pid c.args.files.now) c.args.target.now c.args.addrs.now c.in_ok-src.src c.in_ok-src.ensures.ok c.in-Breakpad.is
    (λ file is. rw (c.input_of-input.ensures.kind, items) at (c.reply_by_file.ensures.reply file is))

-- which says what it may, whatever the files tell
pub returns-clause-untold : goal.returns-clause-untold
returns-clause-untold g c =
    let items : (payload c.input_of-input.result).items ≡ c.args.addrs.now = ap (λ addrs. addrs.items) c.input_of-input.ensures.addrs ∙ c.in_ok-addrs.ensures.items in
    some_by_file (opts_of c.args.server.now.symbolizer.files.settings) c.args.target.now c.args.addrs.now c.in_ok-src.src c.reply_by_file.result c.in_ok-src.ensures.source c.in-Breakpad.is
    (rw (c.input_of-input.ensures.kind, items) at c.reply_by_file.ensures.untold)

-- and leaves the mappings that are kept as they were
pub returns-clause-kept : goal.returns-clause-kept
returns-clause-kept g c = subst AreKeptOfText (sym (ap (λ processes. processes.mappings) c.reply_by_file.ensures.processes)) c.requires

-- the target is a process, of the addresses that were copied
pub returns-in-Process-clause-untold : goal.returns-in-Process-clause-untold
returns-in-Process-clause-untold g c =
    some_by_process (opts_of c.args.server.now.symbolizer.files.settings) c.args.server.now.map_files c.args.target.now c.args.addrs.now c.in_ok-src.src c.reply_by_process.result c.in_ok-src.ensures.ok c.in-Process.field-0 c.in-Process.is
    (rw c.in_ok-addrs.ensures.items at c.reply_by_process.ensures.untold)
