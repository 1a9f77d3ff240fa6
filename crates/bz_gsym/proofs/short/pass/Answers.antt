use Rattle.std.proofs.Common.{arith}
use Rattle.bz_base.specs.Cursor.{slice_at}
use Rattle.bz_gsym.proofs.short.pass.Goals as goal

pub unwrap-passed-requires : goal.unwrap-passed-requires
unfolding slice_at
unwrap-passed-requires c = grind arith

pub returns-clause-left : goal.returns-clause-left
unfolding slice_at
returns-clause-left c = grind arith
