use Rattle.std.proofs.Common.{ap, sym, ◌∙◌}
use Rattle.std.specs.List.{slice_get}
use Rattle.bz_convert.proofs.NumberingLemmas.{none_more}
use Rattle.bz_convert.proofs.conversion.numbering.none_known.Goals as goal

pub loop-id-preserved : goal.loop-id-preserved
loop-id-preserved c id index at = none_more c.loop-id.known.items c.loop-id.invariant id index (ap (λ l. slice_get l id) (sym c.in_ok-push.ensures.items) ∙ at)
