use Rattle.std.proofs.Common.{[]}
use Rattle.bz_store.proofs.Plainly.{answers_on}
use Rattle.bz_store.proofs.laws.kept_files_answer_as_the_world.Goals as goal

pub returns-clause-answers : goal.returns-clause-answers
returns-clause-answers c = λ world root cap opts frames kept opens all. (answers_on world root cap opts frames (record { kept = kept; answers = []; opens = opens }) all).1

pub returns-clause-agrees : goal.returns-clause-agrees
returns-clause-agrees c = λ world root cap opts frames kept opens all. (answers_on world root cap opts frames (record { kept = kept; answers = []; opens = opens }) all).0
