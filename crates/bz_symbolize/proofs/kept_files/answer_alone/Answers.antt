use Rattle.std.proofs.lemmas.Result.{err_from_is_err_and}
use Rattle.bz_lookups.proofs.BatchLemmas.{gives_owned}
use Rattle.bz_symbolize.proofs.kept_files.answer_alone.Goals as goal

-- its refusal
pub returns-in_err-answer-clause-answer : goal.returns-in_err-answer-clause-answer
returns-in_err-answer-clause-answer c =
    let same = err_from_is_err_and c.from_residual.result c.from_residual.ensures.1 in
    rw (same.1, same.2) c.in_err-answer.ensures.answer

-- its answer
pub returns-clause-answer : goal.returns-clause-answer
returns-clause-answer c =
    gives_owned _ c.in_ok-answer.answer c.into_owned.result c.in_ok-answer.ensures.answer c.into_owned.ensures.same c.into_owned.ensures.memory
