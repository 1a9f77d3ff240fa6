use Rattle.bz_breakpad_lines.proofs.GrammarLaws.{accepted_found, accepted_again}
use Rattle.bz_breakpad_lines.proofs.laws.reading_accepts.Goals as goal

pub returns : goal.returns
returns c bytes table count = (accepted_found bytes table count, accepted_again bytes table count)
