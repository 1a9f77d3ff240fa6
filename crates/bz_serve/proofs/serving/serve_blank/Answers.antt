use Rattle.std.proofs.Common.{◌≡◌, ap, map, subst, sym}
use Rattle.bz_requests.specs.Requests.{request_of}
use Rattle.bz_symq.specs.Kept.{KeptState, settings_of}
use Rattle.bz_serve.specs.Serving.{AreKeptOfText}
use Rattle.bz_serve.proofs.ServingLoopLemmas.{serves_from_all}
use Rattle.bz_serve.proofs.serving.serve_blank.Goals as goal

-- no mappings are kept yet
pub serve_all-served-requires : goal.serve_all-served-requires
serve_all-served-requires g c = subst AreKeptOfText (sym (ap (λ (kept : KeptState). kept.processes.mappings) c.new_symbolizer.ensures)) tt

-- the symbolizer is new, and the run ends by what stopped it
pub returns : goal.returns
returns g c =
    let settings : c.new_symbolizer.result.files.settings ≡ settings_of c.args.config = ap (λ (kept : KeptState). kept.files.settings) c.new_symbolizer.ensures in
    serves_from_all g.W.TextOut g.F.Files c.args.config (map request_of c.args.requests.now) c.serve_all-served.result c.status_of.result _ _ _ _
    (rw (c.new_symbolizer.ensures, settings) at c.serve_all-served.ensures) c.status_of.ensures
