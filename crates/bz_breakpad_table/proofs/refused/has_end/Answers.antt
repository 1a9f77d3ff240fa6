use Rattle.bz_breakpad_table.proofs.EndLemmas.{end_is}
use Rattle.bz_breakpad_table.proofs.refused.has_end.Goals as goal

pub returns : goal.returns
returns c = end_is c.args.bytes.now c.requires
