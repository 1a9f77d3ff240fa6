use Rattle.std.proofs.Common.{refl, sym}
use Rattle.bz_breakpad_lines.specs.Records.{RANGE}
use Rattle.bz_breakpad_lines.specs.Told.{ranges_told, range_told}
use Rattle.bz_breakpad_lines.proofs.FormLaws.{shorter}
use Rattle.bz_breakpad_lines.proofs.QuickLemmas.{range_kept, turns_more}
use Rattle.bz_breakpad_lines.proofs.inline.shown_ranges.Goals as goal

pub loop-range-preserved : goal.loop-range-preserved
loop-range-preserved c =
    record {
      ranges = rw (range_kept c.loop-range.ranges.items c.push.new.self.items c.in-Some.range c.in_ok-push.ensures.items)
          (turns_more RANGE c.args.shown.text.now c.loop-range.left.text.now c.in-Some.after.text.now (ranges_told c.loop-range.ranges.items)
          (range_told c.in-Some.range) c.loop-range.invariant.ranges c.in-Some.ensures.reads);
      stops = c.in-Some.ensures.stops;
    }

pub loop-range-smaller : goal.loop-range-smaller
loop-range-smaller c = shorter RANGE refl c.loop-range.left.text.now (range_told c.in-Some.range, c.in-Some.after.text.now) c.in-Some.ensures.reads

pub returns-in-Some-after_line_feed-clause-ranges : goal.returns-in-Some-after_line_feed-clause-ranges
returns-in-Some-after_line_feed-clause-ranges c =
    rw (range_kept c.loop-range.ranges.items c.push.new.self.items c.in-Some.range c.in_ok-push.ensures.items, sym c.in-Some-after_line_feed.ensures)
    (turns_more RANGE c.args.shown.text.now c.loop-range.left.text.now c.in-Some.after.text.now (ranges_told c.loop-range.ranges.items)
    (range_told c.in-Some.range) c.loop-range.invariant.ranges c.in-Some.ensures.reads)
