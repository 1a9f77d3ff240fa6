use Rattle.std.proofs.Common.{◌+◌, arith}
use lib.Count.{count_trailing_zeros}
use Rattle.bz_breakpad_lines.proofs.QuickLemmas.{line_by_ends}
use Rattle.bz_breakpad_lines.proofs.line.record_len.Goals as goal

pub returns-clause-quick : goal.returns-clause-quick
returns-clause-quick c told told_is =
    line_by_ends c.args.shown.text.now c.args.start (count_trailing_zeros 64 c.args.shown.stops.end + 1) c.in_ok-ends.ends told told_is (omega (arith, c.in_ok-ends.ensures.file.2)) (omega arith) c.in_ok-ends.ensures.reads
