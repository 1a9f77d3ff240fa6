use Rattle.std.proofs.Common.{arith}
use Rattle.bz_bytes.proofs.CursorLemmas.{slice_enough, slice_short}
use Rattle.bz_bytes.proofs.cursor.Cursor.read_slice.Goals as goal

pub returns-then-count-left-clause-reads : goal.returns-then-count-left-clause-reads
returns-then-count-left-clause-reads c = slice_short c.args.count _ (rw (← c.self.view_is) (omega arith))

pub returns-clause-reads : goal.returns-clause-reads
returns-clause-reads c = rw (← c.self.view_is) (slice_enough c.args.count c.self.inside.rest.now (omega arith))
