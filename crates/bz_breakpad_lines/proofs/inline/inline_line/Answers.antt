use Rattle.bz_breakpad_lines.proofs.QuickLemmas.{inline_found}
use Rattle.bz_breakpad_lines.proofs.inline.inline_line.Goals as goal

pub returns-in-Some-2 : goal.returns-in-Some-2
returns-in-Some-2 c =
    inline_found c.args.text.now c.in-Some.shown.text.now c.in-Some-2.rest.now c.in-Some.call c.shown_ranges.new.ranges.items c.in-Some.ensures.reads
    (rw c.in-Some-2.is at c.in_ok-rest.ensures.positive) (rw c.in-Some-2.is at c.in_ok-rest.ensures.ranges)
