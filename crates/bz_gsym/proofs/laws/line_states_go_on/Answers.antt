use Rattle.bz_gsym.proofs.LineTableLemmas.{states_go_on}
use Rattle.bz_gsym.proofs.laws.line_states_go_on.Goals as goal

pub returns : goal.returns
returns c header row operators = states_go_on header row operators
