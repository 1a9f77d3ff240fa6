use Rattle.bz_requests.specs.Requests.{request_of}
use Rattle.bz_symbolize.specs.State.{opts_of}
use Rattle.bz_serve.specs.RequestSteps.{step}
use Rattle.bz_serve.specs.SomeReplies.{MayReply}
use Rattle.bz_serve.proofs.ServeLemmas.{served_failed, served_said}
use Rattle.bz_serve.proofs.serving.serve_one.Goals as goal

-- what is said is written, as far as writing doesn't fail
pub returns-in-Ok-clause-served : goal.returns-in-Ok-clause-served
returns-in-Ok-clause-served g c =
    served_said g.W.TextOut g.F.Files (step c.args.server.now.map_files (g.F.Files.pid c.args.files.now) (request_of c.args.request.now)) (MayReply (opts_of c.args.server.now.symbolizer.files.settings) (request_of c.args.request.now)) _ _ _ _ _ _
    c.in-Ok.said c.write_said.result c.stopped.result c.in-Ok.ensures.reply c.in-Ok.ensures.untold c.write_said.ensures c.stopped.ensures

-- nothing is said
pub returns-in-Err-clause-served : goal.returns-in-Err-clause-served
returns-in-Err-clause-served g c =
    rw c.stop_by.ensures
    (served_failed g.W.TextOut g.F.Files (step c.args.server.now.map_files (g.F.Files.pid c.args.files.now) (request_of c.args.request.now)) (MayReply (opts_of c.args.server.now.symbolizer.files.settings) (request_of c.args.request.now)) _ _ _ _ _
    c.in-Err.error c.in-Err.ensures.reply)
