use Rattle.std.proofs.Common.{◌≡◌, drop, map}
use Rattle.bz_requests.specs.Requests.{request_of}
use Rattle.bz_symbolize.specs.State.{opts_of}
use Rattle.bz_symq.specs.Kept.{kept_of}
use Rattle.bz_serve.specs.RequestSteps.{step}
use Rattle.bz_serve.specs.Serving.{AreKeptOfText}
use Rattle.bz_serve.specs.SomeReplies.{MayReply}
use Rattle.bz_serve.proofs.ServingLoopLemmas.{ServedSoFar}
use Rattle.bz_serve.proofs.serving.serve_all.Given as goal

-- the requests so far were answered and their texts written, and the others are left
abbrev pub invariant-loop-request : goal.invariant-loop-request
invariant-loop-request g l = record {
  served : ServedSoFar g.W.TextOut g.F.Files (step l.initial.server.map_files) (MayReply (opts_of l.initial.server.symbolizer.files.settings)) (map request_of l.requests) (map request_of (drop l.request-index l.requests)) (kept_of l.initial.server.symbolizer) (kept_of l.server.symbolizer) l.initial.output l.output l.initial.files l.files;
  map_files : l.server.map_files ≡ l.initial.server.map_files;
  kept : AreKeptOfText l.server.symbolizer.processes.mappings;
  settings : l.server.symbolizer.files.settings ≡ l.initial.server.symbolizer.files.settings;
}
