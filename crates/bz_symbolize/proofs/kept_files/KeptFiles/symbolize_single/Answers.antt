use Rattle.std.proofs.Common.{Ok, Err, ap, ◌∙◌}
use Rattle.std.proofs.lemmas.Result.{err_from_is_err_and}
use Rattle.bz_base.specs.Answer.{reading}
use Rattle.bz_symbolize.proofs.CallLemmas.{promised_held}
use Rattle.bz_symbolize.specs.State.{State, opts_of}
use Rattle.bz_symbolize.specs.FileCall.{single_query}
use Rattle.bz_symbolize.proofs.kept_files.KeptFiles.symbolize_single.Goals as goal

-- nothing is held
pub returns-in_err-held : goal.returns-in_err-held
returns-in_err-held g c =
    let same = err_from_is_err_and c.from_residual.result c.from_residual.ensures.1 in
    promised_held g.F.Files reading c.args.src.now (single_query c.args.input) (Err c.in_err-held.field-0.0) c.from_residual.result c.args.self.now c.hold.new.self c.args.files.now c.hold.new.files
    c.in_err-held.ensures.asked (same.1 ∙ ap Err same.2)

-- what is held answers
pub returns : goal.returns
returns g c =
    let answer = rw (c.opts-opts.ensures ∙ ap (λ (s : State). opts_of s.settings) c.self.view_is, c.into_inner.ensures) at c.answer_alone.ensures.answer in
    promised_held g.F.Files reading c.args.src.now (single_query c.args.input) (Ok c.in_ok-held.held) c.answer_alone.result c.args.self.now c.hold.new.self c.args.files.now c.hold.new.files
    c.in_ok-held.ensures.asked (answer, c.answer_alone.ensures.refusal)
