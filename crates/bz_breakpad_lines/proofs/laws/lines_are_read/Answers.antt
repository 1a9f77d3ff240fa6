use Rattle.std.proofs.Common.{refl}
use Rattle.bz_breakpad_lines.specs.Records.{TOP, INNER}
use Rattle.bz_breakpad_lines.proofs.ChoiceLaws.{read_exactly}
use Rattle.bz_breakpad_lines.proofs.laws.lines_are_read.Goals as goal

pub returns : goal.returns
returns c = record { top = read_exactly TOP refl; inner = read_exactly INNER refl }
