use Rattle.std.proofs.Common.{Ok, Err, ap, ◌∙◌, map, Vec, Global, List}
use Rattle.std.proofs.lemmas.Result.{err_from_is_err_and}
use Rattle.bz_base.specs.Answer.{Answer, reading}
use Rattle.bz_base.specs.declared.types.Symbolized.{Symbolized}
use Rattle.bz_lookups.proofs.HeldLemmas.{given_or_memory}
use Rattle.bz_symbolize.proofs.CallLemmas.{promised_held}
use Rattle.bz_symbolize.specs.State.{State, opts_of}
use Rattle.bz_symbolize.specs.FileCall.{batch_query}
use Rattle.bz_symbolize.proofs.kept_files.KeptFiles.symbolize.Goals as goal

abbrev read : Vec Symbolized Global → List Answer
read answers = map reading answers.items

-- nothing is held
pub returns-in_err-held : goal.returns-in_err-held
returns-in_err-held g c =
    let same = err_from_is_err_and c.from_residual.result c.from_residual.ensures.1 in
    promised_held g.F.Files read c.args.src.now (batch_query c.args.input) (Err c.in_err-held.field-0.0) c.from_residual.result c.args.self.now c.hold.new.self c.args.files.now c.hold.new.files
    c.in_err-held.ensures.asked (same.1 ∙ ap Err same.2)

-- what is held answers
pub returns : goal.returns
returns g c =
    let answers = rw (c.opts-opts.ensures ∙ ap (λ (s : State). opts_of s.settings) c.self.view_is, c.into_inner.ensures) at c.answer_batch.ensures.answers in
    promised_held g.F.Files read c.args.src.now (batch_query c.args.input) (Ok c.in_ok-held.held) c.answer_batch.result c.args.self.now c.hold.new.self c.args.files.now c.hold.new.files
    c.in_ok-held.ensures.asked (given_or_memory read _ c.answer_batch.result answers c.answer_batch.ensures.memory)
