use Rattle.std.proofs.Common.{◌≡◌, ◌+◌, drop, map, Err, ◌∙◌, refl, subst, rules}
use Rattle.bz_requests.specs.Requests.{request_of}
use Rattle.bz_symbolize.specs.State.{Settings, opts_of}
use Rattle.bz_serve.specs.RequestSteps.{step}
use Rattle.bz_serve.specs.SomeReplies.{MayReply}
use Rattle.bz_serve.proofs.ServingLoopLemmas.{next_left, none_left, served_all, served_more, served_none, served_stopped}
use Rattle.bz_serve.proofs.serving.serve_all.Goals as goal

-- no request was answered
pub loop-request-init : goal.loop-request-init
loop-request-init g c = record {
  served = served_none g.W.TextOut g.F.Files (step c.args.server.now.map_files) (MayReply (opts_of c.args.server.now.symbolizer.files.settings)) (map request_of c.args.requests.now) _ _ _;
  map_files = refl;
  kept = c.requires;
  settings = refl;
}

-- one more was
pub loop-request-preserved : goal.loop-request-preserved
loop-request-preserved g c =
    let requests = c.args.requests.now in
    let index = c.loop-request.request-index in
    let so_far = next_left g.W.TextOut g.F.Files (step c.args.server.now.map_files) (MayReply (opts_of c.args.server.now.symbolizer.files.settings)) request_of requests index _ _ _ _ _ _ c.request-item.result c.loop-request-test.true c.request-item.is c.loop-request.invariant.served in
    record {
      served = served_more g.W.TextOut g.F.Files (step c.args.server.now.map_files) (MayReply (opts_of c.args.server.now.symbolizer.files.settings)) (map request_of requests) (map request_of (drop (index + 1) requests)) (request_of c.request-item.result) _ _ _ _ _ _ _ _ _ _ so_far
          c.begin.ensures.worlds c.begin.ensures.faults c.begin.ensures.opens c.begin.ensures.pid (rw c.loop-request.invariant.map_files at c.in_ok-serve_one.ensures.served)
          (λ text may. subst (λ (settings : Settings). MayReply (opts_of settings) (request_of c.request-item.result) text) c.loop-request.invariant.settings may);
      map_files = c.in_ok-serve_one.ensures.map_files ∙ c.loop-request.invariant.map_files;
      kept = c.in_ok-serve_one.ensures.kept;
      settings = c.in_ok-serve_one.ensures.settings ∙ c.loop-request.invariant.settings;
    }

-- one stopped the run
pub returns-in_err-serve_one : goal.returns-in_err-serve_one
returns-in_err-serve_one g c =
    let requests = c.args.requests.now in
    let same : c.from_residual.result ≡ Err c.in_err-serve_one.field-0.0 = search rules in
    let index = c.loop-request.request-index in
    let so_far = next_left g.W.TextOut g.F.Files (step c.args.server.now.map_files) (MayReply (opts_of c.args.server.now.symbolizer.files.settings)) request_of requests index _ _ _ _ _ _ c.request-item.result c.loop-request-test.true c.request-item.is c.loop-request.invariant.served in
    rw same
    (served_stopped g.W.TextOut g.F.Files (step c.args.server.now.map_files) (MayReply (opts_of c.args.server.now.symbolizer.files.settings)) (map request_of requests) (map request_of (drop (index + 1) requests)) (request_of c.request-item.result) _ _ _ _ _ _ _ _ _ _ so_far
    c.begin.ensures.worlds c.begin.ensures.faults c.begin.ensures.opens c.begin.ensures.pid c.in_err-serve_one.field-0.0 (rw c.loop-request.invariant.map_files at c.in_err-serve_one.ensures.served))

-- none is left
pub returns : goal.returns
returns g c =
    let requests = c.args.requests.now in
    served_all g.W.TextOut g.F.Files (step c.args.server.now.map_files) (MayReply (opts_of c.args.server.now.symbolizer.files.settings)) (map request_of requests) _ _ _ _ _ _
    (none_left g.W.TextOut g.F.Files (step c.args.server.now.map_files) (MayReply (opts_of c.args.server.now.symbolizer.files.settings)) request_of requests c.loop-request.request-index _ _ _ _ _ _ c.loop-request-test.false c.loop-request.invariant.served)
