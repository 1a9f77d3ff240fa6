use Rattle.bz_symq.proofs.OutputLemmas.{has_put}
use Rattle.std.proofs.Common.{rules}
use Rattle.bz_symq.proofs.output.write_all.Goals as goal

-- what was taken joins the front
pub loop-rest-preserved : goal.loop-rest-preserved
loop-rest-preserved g c =
    has_put g.W.TextOut _ c.loop-rest.invariant c.loop-rest-test.ensures (search rules) (search rules)
