use Rattle.std.proofs.Common.{sym, ◌∙◌}
use Rattle.bz_gsym.proofs.InlineRangeLemmas.{after-more}
use Rattle.bz_gsym.proofs.inline.reader.skip_ranges.Goals as goal

pub loop-seen-preserved : goal.loop-seen-preserved
loop-seen-preserved c =
    sym (after-more c.args.count c.loop-seen._seen c.loop-seen.cursor.left c.loop-seen-test.true c.in_ok-range.field-0 c.range.new.cursor.left c.in_ok-range.ensures.some)
    ∙ c.loop-seen.invariant
