use Rattle.bz_bytes.proofs.LineLemmas.{after_ended, after_whole}
use Rattle.bz_bytes.proofs.line.first_line.Goals as goal

pub returns-in-Some-clause-reads : goal.returns-in-Some-clause-reads
returns-in-Some-clause-reads c =
    after_ended c.args.text.now c.in-Some.cut.0.now c.in-Some.cut.1.now c.in-Some.ensures.whole c.in-Some.ensures.no_line_feed

pub returns-else-is_empty-clause-reads : goal.returns-else-is_empty-clause-reads
returns-else-is_empty-clause-reads c = after_whole c.args.text.now c.in-None.ensures.none
