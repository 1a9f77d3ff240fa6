use Rattle.bz_breakpad_lines.proofs.PrintedLaws.{printed_accepted}
use Rattle.bz_breakpad_lines.proofs.laws.printed_tables_are_files.Goals as goal

pub returns : goal.returns
returns c = printed_accepted
