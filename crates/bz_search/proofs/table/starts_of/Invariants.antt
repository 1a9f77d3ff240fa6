use Rattle.std.proofs.Common.{◌≡◌, map, take}
use Rattle.bz_search.proofs.table.starts_of.Given as goal

abbrev pub invariant-loop-record : goal.invariant-loop-record
invariant-loop-record g l = l.starts.items ≡ map g.T.Spanned.start (take l.record-index l.table)
