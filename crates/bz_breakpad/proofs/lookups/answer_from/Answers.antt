use Rattle.std.proofs.Common.{Ok, ap, sym, ◌∙◌}
use Rattle.std.proofs.lemmas.Result.{err_from_is_err_and}
use Rattle.bz_breakpad.specs.Plain.{plain}
use Rattle.bz_breakpad.proofs.FoundInLemmas.{found_marked, refused_as_found}
use Rattle.bz_breakpad.proofs.lookups.answer_from.Goals as goal

pub returns-clause-answer : goal.returns-clause-answer
returns-clause-answer c table stands record_is =
    found_marked table c.args.opts.now c.args.at.now.addr c.args.at.now.found _ record_is (c.in_ok-symbol.ensures.answer table stands record_is)
    ∙ ap Ok (sym c.answer_of.ensures.answer)

pub returns-in_err-symbol-clause-answer : goal.returns-in_err-symbol-clause-answer
returns-in_err-symbol-clause-answer c table stands record_is =
    let same = err_from_is_err_and c.from_residual.result c.from_residual.ensures.1 in
    rw (same.1, same.2) (refused_as_found (plain table c.args.opts.now c.args.at.now.addr) c.in_err-symbol.field-0.0 (c.in_err-symbol.ensures.answer table stands record_is) c.in_err-symbol.ensures.refusal)
