use Rattle.std.proofs.Common.{◌∙◌}
use Rattle.bz_search.proofs.TableLemmas.{covering_at, covering_nowhere}
use Rattle.bz_search.proofs.table.covering_at.Goals as goal

pub returns-in-Some-clause-covering : goal.returns-in-Some-clause-covering
returns-in-Some-clause-covering g c records is =
    c.if_covers.ensures.value ∙ covering_at g.T.Spanned.start g.T.Spanned.size records c.args.table.now is c.args.addr c.in-Some.place _ c.index-table-place.result (rw c.in-Some.is at c.requires) c.index-table-place.is

pub returns-in-None-clause-covering : goal.returns-in-None-clause-covering
returns-in-None-clause-covering g c records is = covering_nowhere g.T.Spanned.start g.T.Spanned.size records c.args.table.now is c.args.addr (rw c.in-None.is at c.requires)
