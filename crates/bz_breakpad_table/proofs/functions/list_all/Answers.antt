use Rattle.std.proofs.lemmas.Result.{on_ok_weaker}
use Rattle.bz_breakpad_table.proofs.ListingLemmas.{none_listed, run_listed}
use Rattle.bz_breakpad_table.proofs.functions.list_all.Goals as goal

pub returns-in-Empty : goal.returns-in-Empty
returns-in-Empty c = rw c.in-Empty.is (none_listed c.args.bytes.now c.args.keys.now.items (rw c.in-Empty.is at c.requires))

pub list_run-requires-clause-run : goal.list_run-requires-clause-run
list_run-requires-clause-run c = (c.in-Run.field-1, (rw c.in-Run.is at c.requires).0)

pub list_run-requires-clause-none : goal.list_run-requires-clause-none
list_run-requires-clause-none c = (rw c.in-Run.is at c.requires).1

pub returns-in-Run : goal.returns-in-Run
returns-in-Run c =
    on_ok_weaker c.list_run.result
    (λ listed. rw c.in-Run.is (run_listed c.args.bytes.now c.in-Run.run' c.args.keys.now.items c.list_run.new.keys.items c.in-Run.field-1 listed))
    c.list_run.ensures
