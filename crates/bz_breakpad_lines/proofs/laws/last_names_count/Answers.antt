use Rattle.bz_breakpad_lines.proofs.NameLemmas.{last_names}
use Rattle.bz_breakpad_lines.proofs.laws.last_names_count.Goals as goal

pub returns : goal.returns
returns c = last_names
