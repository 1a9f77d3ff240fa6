use Rattle.bz_breakpad_table.proofs.LineRecordLemmas.{begins_run, ends_run, run_start}
use Rattle.bz_breakpad_table.proofs.walk.Walk.run_on.Goals as goal

pub returns-clause-midway : goal.returns-clause-midway
returns-clause-midway c =
    let text = c.args.text.now in
    let walk = c.args.self.now in
    let end = c.pass_run-end in
    let begun = begins_run text c.args.rest.now walk c.in-Some.run' c.in-Some.start c.in-Some.ensures.run c.in-Some.ensures.ends c.requires.midway in
    ends_run text end.result.left.now walk c.in-Some.run'.from end.result.last _ c.in_ok-whole.whole c.in_ok-whole.ensures.from c.in_ok-whole.ensures.to
    (end.ensures.goes_on text walk c.in-Some.run'.from walk.count c.requires.in_func c.requires.white_allowed begun)

pub pass_run-end-requires-clause-positive : goal.pass_run-end-requires-clause-positive
pass_run-end-requires-clause-positive c = (run_start c.args.text.now c.args.rest.now c.args.self.now c.in-Some.run' c.in-Some.start c.in-Some.ensures.run c.requires.midway).0

pub pass_run-end-requires-clause-few : goal.pass_run-end-requires-clause-few
pass_run-end-requires-clause-few c = (run_start c.args.text.now c.args.rest.now c.args.self.now c.in-Some.run' c.in-Some.start c.in-Some.ensures.run c.requires.midway).1
