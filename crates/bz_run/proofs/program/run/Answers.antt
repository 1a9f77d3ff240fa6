use Rattle.std.proofs.Common.{map, string_bytes}
use Rattle.bz_run.proofs.RunLemmas.{runs_from}
use Rattle.bz_run.proofs.program.run.Goals as goal

pub returns : goal.returns
returns g c = runs_from g.R.TextIn g.W.TextOut g.F.Files c.run_words.result _ _ _ _ _ _ (map string_bytes c.args.words.now) c.run_words.ensures
