use Rattle.bz_breakpad_lines.proofs.PrintableLaws.{accepted_printable}
use Rattle.bz_breakpad_lines.proofs.laws.tables_of_files_are_printable.Goals as goal

pub returns : goal.returns
returns c = λ bytes table is. accepted_printable bytes table is.0 is.1
