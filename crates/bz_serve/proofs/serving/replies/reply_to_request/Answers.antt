use Rattle.std.proofs.Common.{◌∙◌, IfOk, ap, refl, string_bytes, subst, sym}
use Rattle.bz_requests.specs.Requests.{request_of}
use Rattle.bz_requests.specs.declared.requests.Request as made
use Rattle.bz_symbolize.specs.Requests.{CacheElf as KeepElf, EvictElf as ForgetElf, EvictProcess as ForgetProcess}
use Rattle.bz_symbolize.specs.State.{opts_of}
use Rattle.bz_symq.specs.Kept.{kept_of}
use Rattle.bz_symq.specs.Processes.{pid_of}
use Rattle.bz_symq.specs.Reply.{text_of}
use Rattle.bz_serve.specs.Serving.{Replied}
use Rattle.bz_serve.specs.RequestSteps.{okay, process_by, step}
use Rattle.bz_serve.specs.SomeReplies.{MayReply}
use Rattle.bz_serve.proofs.RequestReplyLemmas.{replied_forgotten, some_said}
use Rattle.bz_serve.proofs.serving.replies.reply_to_request.Goals as goal

-- the file is kept
pub returns-in_ok-cache-in-CacheElf-clause-reply : goal.returns-in_ok-cache-in-CacheElf-clause-reply
returns-in_ok-cache-in-CacheElf-clause-reply g c =
    subst
    (λ (request : made.Request). Replied g.F.Files (step c.args.server.now.map_files (g.F.Files.pid c.args.files.now) (request_of request)) c.reply_to_cache.result (kept_of c.args.server.now.symbolizer) (kept_of c.reply_to_cache.new.symbolizer) c.args.files.now c.reply_to_cache.new.files)
    (sym c.in-CacheElf.is)
    (c.reply_to_cache.ensures.reply (KeepElf (string_bytes c.in-CacheElf.path)) (c.in_ok-cache-in-CacheElf.ensures.ok ∙ ap KeepElf c.as_str.ensures.value))

pub returns-in_ok-cache-in-CacheElf-clause-untold : goal.returns-in_ok-cache-in-CacheElf-clause-untold
returns-in_ok-cache-in-CacheElf-clause-untold g c =
    subst
    (λ (request : made.Request). IfOk c.reply_to_cache.result (λ said. MayReply (opts_of c.args.server.now.symbolizer.files.settings) (request_of request) (text_of said)))
    (sym c.in-CacheElf.is)
    (c.reply_to_cache.ensures.untold (KeepElf (string_bytes c.in-CacheElf.path)) (c.in_ok-cache-in-CacheElf.ensures.ok ∙ ap KeepElf c.as_str.ensures.value))

-- and so is what answers for the process
pub returns-in-CacheProcess-clause-reply : goal.returns-in-CacheProcess-clause-reply
returns-in-CacheProcess-clause-reply g c =
    subst
    (λ (request : made.Request). Replied g.F.Files (step c.args.server.now.map_files (g.F.Files.pid c.args.files.now) (request_of request)) c.reply_to_cache-in-CacheProcess.result (kept_of c.args.server.now.symbolizer) (kept_of c.reply_to_cache-in-CacheProcess.new.symbolizer) c.args.files.now c.reply_to_cache-in-CacheProcess.new.files)
    (sym c.in-CacheProcess.is)
    (c.reply_to_cache-in-CacheProcess.ensures.reply (process_by c.in-CacheProcess.number) c.process_to_cache-cache.ensures)

pub returns-in-CacheProcess-clause-untold : goal.returns-in-CacheProcess-clause-untold
returns-in-CacheProcess-clause-untold g c =
    subst
    (λ (request : made.Request). IfOk c.reply_to_cache-in-CacheProcess.result (λ said. MayReply (opts_of c.args.server.now.symbolizer.files.settings) (request_of request) (text_of said)))
    (sym c.in-CacheProcess.is)
    (c.reply_to_cache-in-CacheProcess.ensures.untold (process_by c.in-CacheProcess.number) c.process_to_cache-cache.ensures)

-- the file is forgotten
pub returns-in_ok-evict-in-EvictElf-clause-reply : goal.returns-in_ok-evict-in-EvictElf-clause-reply
returns-in_ok-evict-in-EvictElf-clause-reply g c =
    let asked = ForgetElf (string_bytes c.in-EvictElf.path) in
    subst
    (λ (request : made.Request). Replied g.F.Files (step c.args.server.now.map_files (g.F.Files.pid c.args.files.now) (request_of request)) c.reply_to_evict.result (kept_of c.args.server.now.symbolizer) (kept_of c.reply_to_evict.new.symbolizer) c.args.files.now c.args.files.now)
    (sym c.in-EvictElf.is)
    (replied_forgotten g.F.Files _ _ asked _ _ _ refl c.reply_to_evict.ensures.says
    (c.reply_to_evict.ensures.state asked (c.in_ok-evict-in-EvictElf.ensures.ok ∙ ap ForgetElf c.as_str-in-EvictElf.ensures.value)))

pub returns-in_ok-evict-in-EvictElf-clause-untold : goal.returns-in_ok-evict-in-EvictElf-clause-untold
returns-in_ok-evict-in-EvictElf-clause-untold g c =
    subst
    (λ (request : made.Request). IfOk c.reply_to_evict.result (λ said. MayReply (opts_of c.args.server.now.symbolizer.files.settings) (request_of request) (text_of said)))
    (sym c.in-EvictElf.is)
    (some_said (okay tt) c.reply_to_evict.result c.reply_to_evict.ensures.says)

-- and so is the process
pub returns-in-EvictProcess-clause-reply : goal.returns-in-EvictProcess-clause-reply
returns-in-EvictProcess-clause-reply g c =
    let asked = ForgetProcess (pid_of c.in-EvictProcess.number) in
    subst
    (λ (request : made.Request). Replied g.F.Files (step c.args.server.now.map_files (g.F.Files.pid c.args.files.now) (request_of request)) c.reply_to_evict-in-EvictProcess.result (kept_of c.args.server.now.symbolizer) (kept_of c.reply_to_evict-in-EvictProcess.new.symbolizer) c.args.files.now c.args.files.now)
    (sym c.in-EvictProcess.is)
    (replied_forgotten g.F.Files _ _ asked _ _ _ refl c.reply_to_evict-in-EvictProcess.ensures.says
    (c.reply_to_evict-in-EvictProcess.ensures.state asked c.process_to_evict-evict.ensures))

pub returns-in-EvictProcess-clause-untold : goal.returns-in-EvictProcess-clause-untold
returns-in-EvictProcess-clause-untold g c =
    subst
    (λ (request : made.Request). IfOk c.reply_to_evict-in-EvictProcess.result (λ said. MayReply (opts_of c.args.server.now.symbolizer.files.settings) (request_of request) (text_of said)))
    (sym c.in-EvictProcess.is)
    (some_said (okay tt) c.reply_to_evict-in-EvictProcess.result c.reply_to_evict-in-EvictProcess.ensures.says)
