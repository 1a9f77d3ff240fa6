use Rattle.std.proofs.Common.{refl}
use Rattle.bz_breakpad_table.proofs.walk.Walk.new.Goals as goal

pub returns-clause-walked : goal.returns-clause-walked
returns-clause-walked c bytes = record { so_far = c.new.ensures bytes; count_is = refl }
