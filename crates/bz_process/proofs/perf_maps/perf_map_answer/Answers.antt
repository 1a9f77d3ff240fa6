use Rattle.std.proofs.Common.{◌≡◌, inl, refl, rules}
use Rattle.std.proofs.lemmas.Result.{err_from_is_err_and}
use Rattle.bz_base.specs.Answer.{reading}
use Rattle.bz_files.specs.World.{entry_at, in_view}
use Rattle.bz_cache.specs.Look.{Lends}
use Rattle.bz_proc.specs.PerfMap as perf
use Rattle.bz_process.specs.Process.{asks_perf_map}
use Rattle.bz_cache.proofs.FileLemmas.{by_lent, told_refused}
use Rattle.bz_process.proofs.ProcessLemmas.{gives_known}
use Rattle.bz_process.proofs.perf_maps.perf_map_answer.Goals as goal

-- the look was refused
pub returns-in_err-map : goal.returns-in_err-map
returns-in_err-map g c =
    let same = err_from_is_err_and c.from_residual.result c.from_residual.ensures.1 in
    let kept : c.entry.follows.lender-at-none ≡ c.args.cache.now = search rules in
    let asked = asks_perf_map c.args.addr in
    record {
      told = λ world told. rw (same.1, same.2) (told_refused reading asked c.args.path.now c.in_err-map.field-0.0
          c.args.cache.now _ (entry_at world c.args.path.now) _ _ refl kept (c.in_err-map.ensures.answer world told) (c.in_err-map.ensures.reads.spared world told));
      untold = search rules;
      untaken = search rules;
      stays = search rules;
      ready = search rules;
      consistent = search rules;
      reload = search rules;
      looked = search rules;
      most = search rules;
    }

-- the perf map answered
pub returns : goal.returns
returns g c =
    let asked = asks_perf_map c.args.addr in
    let bytes = c.in_ok-map.map.now in
    let view = in_view (g.F.Files.worlds c.args.files.now) in
    let lent : Lends perf.format_test c.args.cache.now c.entry.follows.lender-at-none c.args.path.now bytes view = search rules in
    let given = gives_known c.in_map.result _ c.in_map.ensures.answer c.in_map.ensures.memory in
    let by = by_lent reading asked c.args.path.now bytes view c.args.cache.now c.entry.follows.lender-at-none c.in_map.result lent given in
    record {
      told = search rules;
      untold = inl by;
      untaken = search rules;
      stays = search rules;
      ready = λ fixed taken. by;
      consistent = search rules;
      reload = search rules;
      looked = search rules;
      most = search rules;
    }
