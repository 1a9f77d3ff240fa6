use Rattle.std.proofs.Common.{◌≡◌, ◌∙◌, ℕ, Result, true, inl, List, Global, ap, sym, rules}
use Rattle.std.proofs.lemmas.Result.{err_from_is_err_and}
use Rattle.std.specs.declared.rc.Rc.{Rc}
use Rattle.bz_base.specs.InputKind.{address_kind}
use Rattle.bz_base.specs.declared.error.Error.{Error}
use Rattle.bz_files.specs.World.{in_view}
use Rattle.bz_cache.specs.Cache.{Cache}
use Rattle.bz_cache.specs.Look.{Lends}
use Rattle.bz_cache.specs.FileCall.{each_of, query_asked}
use Rattle.bz_cache.proofs.FileLemmas.{by_lent, calls_unshared, reload_look}
use Rattle.bz_lookups.specs.Batch.{held_singles}
use Rattle.bz_lookups.proofs.answering.hold_file.Goals as goal

-- no version was shared
pub returns-in_err-version-clause-called : goal.returns-in_err-version-clause-called
returns-in_err-version-clause-called g c opts =
    let same = err_from_is_err_and c.from_residual.result c.from_residual.ensures.1 in
    let taken : g.T.Answers.answering.takes (address_kind c.args.input.now) ≡ true = search rules in
    let asked = query_asked g.T.Version.test g.T.Answers.answering opts c.args.path.now (each_of (address_kind c.args.input.now)) in
    let shared = c.in_err-version.ensures in
    rw (same.1, same.2) (calls_unshared g.F.Files (held_singles opts) (λ (v : Rc g.row.T.Denot Global). g.T.Version.bytes_of v.value) asked c.args.path.now c.args.cache.now c.shared.new.self c.args.files.now c.shared.new.files
    c.in_err-version.field-0.0 taken shared.after shared.answer (λ held. (shared.unseen held).0) shared.reads.spared shared.reads.most shared.files shared.refusal)

-- the version that was shared is held
pub returns-clause-called : goal.returns-clause-called
returns-clause-called g c opts =
    let asked = query_asked g.T.Version.test g.T.Answers.answering opts c.args.path.now (each_of (address_kind c.args.input.now)) in
    let bytes = g.T.Version.bytes_of c.in_ok-version.version.value in
    let view = in_view (g.F.Files.worlds c.args.files.now) in
    let lent : Lends g.T.Version.test c.args.cache.now c.shared.new.self c.args.path.now bytes view = search rules in
    let given = c.hold.ensures.held opts in
    let by = by_lent (held_singles opts) asked c.args.path.now bytes view c.args.cache.now c.shared.new.self c.hold.result lent given in
    record {
      told = search rules;
      untold = inl by;
      untaken = search rules;
      stays = search rules;
      ready = λ fixed taken. by;
      consistent = search rules;
      reload = ap (λ (x : Result (List ℕ) Error × Cache). x.1.reload) (sym lent.untold.1) ∙ reload_look g.T.Version.test c.args.cache.now c.args.path.now lent.untold.0;
      looked = search rules;
      most = search rules;
    }
