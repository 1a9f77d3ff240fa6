use Rattle.std.proofs.lemmas.List.{take_rest}
use Rattle.bz_breakpad_function.proofs.RunFrontLemmas.{run_and_rest}
use Rattle.bz_breakpad_function.proofs.line_run.run_front.Goals as goal

pub returns-clause-front : goal.returns-clause-front
returns-clause-front c = rw (take_rest c.args.bytes.now c.args.run.now.from) (run_and_rest c.args.bytes.now c.args.run.now c.requires)
