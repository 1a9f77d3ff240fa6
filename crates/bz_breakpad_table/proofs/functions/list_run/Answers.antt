use Rattle.std.proofs.Common.{arith}
use Rattle.bz_breakpad_table.proofs.ListingLemmas.{listing_begins, listing_ends, listing_goes_on, run_within}
use Rattle.bz_breakpad_table.proofs.functions.list_run.Goals as goal

pub loop-line-init : goal.loop-line-init
loop-line-init c =
    let run = c.requires.run in
    record {
      within = run_within c.args.bytes.now c.args.run run.1.within.within;
      listed = rw c.requires.none (listing_begins c.args.bytes.now c.args.run run.0 run.1);
    }

pub loop-line-preserved : goal.loop-line-preserved
loop-line-preserved c =
    let at = c.loop-line in
    let cut = c.in-Some.ensures in
    record {
      within = omega (arith, at.invariant.within, cut.shorter);
      listed =
          listing_goes_on c.args.bytes.now c.args.run c.in-Some._line.now c.in-Some.after.now cut.no_line_feed at.rest.now at.keys.items c.push.new.self.items
          cut.whole cut.all cut.some at.invariant.within (rw c.line_key.ensures at c.in_ok-push.ensures.items) at.invariant.listed;
    }

pub returns : goal.returns
returns c =
    listing_ends c.args.bytes.now c.args.run c.loop-line.rest.now c.loop-line.keys.items c.in_default.ensures.unended c.loop-line.invariant.listed
