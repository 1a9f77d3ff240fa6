use Rattle.bz_canon.specs.GeneratedTable.{generated_table}
use Rattle.bz_run.proofs.generating.asking.generated_answers.Goals as goal

-- the text is a file that says the table
pub returns-clause-answers : goal.returns-clause-answers
returns-clause-answers c =
    let text_is = c.in_ok-text.ensures.ok in
    let addrs_are = c.in_ok-addrs.ensures.ok in
    let is_file = c.generated_texts_are_files.ensures c.args.functions c.requires.functions in
    rw addrs_are at (c.answers_of.ensures.answers (generated_table c.args.functions) (rw text_is is_file))

pub returns-clause-memory : goal.returns-clause-memory
returns-clause-memory c =
    let text_is = c.in_ok-text.ensures.ok in
    let is_file = c.generated_texts_are_files.ensures c.args.functions c.requires.functions in
    c.answers_of.ensures.memory (generated_table c.args.functions) (rw text_is is_file)
