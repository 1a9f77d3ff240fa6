use Rattle.bz_gsym.specs.LineTable.{states}
use Rattle.bz_gsym.proofs.LineTableLaws.{picked_early}
use Rattle.bz_gsym.proofs.laws.lines_are_known_early.Goals as goal

pub returns : goal.returns
returns c header row operators addr = picked_early addr row (states header row operators)
