use Rattle.std.proofs.Common.{sym}
use Rattle.bz_proc.specs.PerfLines.{ends_line}
use Rattle.bz_proc.proofs.PerfFieldLemmas.{first_at, first_nowhere}
use Rattle.bz_proc.proofs.perf_map.line.line_len.Goals as goal

pub returns-in-Some-clause-value : goal.returns-in-Some-clause-value
returns-in-Some-clause-value c = sym (first_at ends_line c.args.text.now c.in-Some.len c.in-Some.ensures).0

pub returns-in-None-clause-value : goal.returns-in-None-clause-value
returns-in-None-clause-value c = sym (first_nowhere ends_line c.args.text.now c.in-None.ensures)
