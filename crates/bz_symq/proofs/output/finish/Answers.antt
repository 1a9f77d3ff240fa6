use Rattle.bz_symq.proofs.OutputLemmas.{finishes_whole}
use Rattle.bz_symq.proofs.output.finish.Goals as goal

-- the text was written
pub returns-in-Ok : goal.returns-in-Ok
returns-in-Ok g c = finishes_whole g.W.TextOut c.requires.no_failure c.in-Ok.ensures
