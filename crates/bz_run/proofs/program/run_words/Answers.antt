use Rattle.std.proofs.Common.{map, string_bytes}
use Rattle.bz_words.specs.Command.{command_in}
use Rattle.bz_words.proofs.NumberLemmas.{command_small}
use Rattle.bz_run.proofs.RunLemmas.{unstarted}
use Rattle.bz_run.proofs.program.run_words.Goals as goal

-- nothing was touched
pub returns-in-Err-OutOfMemory : goal.returns-in-Err-OutOfMemory
returns-in-Err-OutOfMemory g c = unstarted g.R.TextIn g.W.TextOut g.F.Files _ _ _ (command_in (map string_bytes c.args.words.now))

-- the numbers that the words give are small
pub run_job-requires : goal.run_job-requires
run_job-requires g c = command_small (map string_bytes c.args.words.now) _ c.in-Ok.ensures.ok
