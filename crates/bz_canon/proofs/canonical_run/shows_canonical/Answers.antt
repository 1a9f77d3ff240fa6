use Rattle.std.proofs.lemmas.Bool.{eqb-true}
use Rattle.bz_canon.proofs.ShownLemmas.{shown_canonical}
use Rattle.bz_canon.proofs.canonical_run.shows_canonical.Goals as goal

pub returns : goal.returns
returns c none =
    shown_canonical c.args.text.now c.requires c.gaps.result c.spares.result c.solids.result c.uppers.result c.gaps.ensures c.spares.ensures c.solids.ensures c.uppers.ensures
    (eqb-true _ 0 none)
