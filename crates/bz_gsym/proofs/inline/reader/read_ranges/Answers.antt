use Rattle.std.proofs.Common.{◌≡◌, ◌+◌, refl, arith, sym, ◌∙◌}
use Rattle.bz_gsym.specs.InlineRanges.{span_at}
use Rattle.bz_gsym.proofs.InlineRangeLemmas.{span-missing, span-unfit, span-more, span-end}
use Rattle.bz_gsym.proofs.inline.reader.read_ranges.Goals as goal

pub returns-in_err-offset-clause-none : goal.returns-in_err-offset-clause-none
unfolding span_at
returns-in_err-offset-clause-none c =
    let so_far = c.loop-seen in
    rw c.from_residual.ensures
    (sym so_far.invariant.read
    ∙ span-missing c.args.addr c.args.base c.args.count so_far.seen so_far.span.covers so_far.span.start so_far.cursor.left c.loop-seen-test.true c.in_err-offset.ensures.none)

pub returns-in_err-start-clause-none : goal.returns-in_err-start-clause-none
unfolding span_at
returns-in_err-start-clause-none c =
    let so_far = c.loop-seen in
    rw c.from_residual-in_err-start.ensures
    (sym so_far.invariant.read
    ∙ span-unfit c.args.addr c.args.base c.args.count so_far.seen so_far.span.covers so_far.span.start so_far.cursor.left c.loop-seen-test.true
    (c.in_ok-offset.offset, c.in_ok-offset.size) c.range.new.cursor.left c.in_ok-offset.ensures.some (omega (arith, c.in_err-start.ensures)))

pub returns-in_err-end-clause-none : goal.returns-in_err-end-clause-none
unfolding span_at
returns-in_err-end-clause-none c =
    let so_far = c.loop-seen in
    rw c.from_residual-in_err-end.ensures
    (sym so_far.invariant.read
    ∙ span-unfit c.args.addr c.args.base c.args.count so_far.seen so_far.span.covers so_far.span.start so_far.cursor.left c.loop-seen-test.true
    (c.in_ok-offset.offset, c.in_ok-offset.size) c.range.new.cursor.left c.in_ok-offset.ensures.some (omega (arith, c.in_ok-start.ensures, c.in_err-end.ensures)))

pub loop-seen-preserved : goal.loop-seen-preserved
loop-seen-preserved c =
    let so_far = c.loop-seen in
    let start_is : c.in_ok-start.start ≡ c.args.base + c.in_ok-offset.offset = omega (arith, c.in_ok-start.ensures) in
    let end_is : c.in_ok-end.end ≡ c.args.base + c.in_ok-offset.offset + c.in_ok-offset.size = omega (arith, start_is, c.in_ok-end.ensures) in
    record {
      begun = λ first. absurd (omega arith);
      read =
          sym (span-more c.args.addr c.args.base c.args.count so_far.seen so_far.span.covers so_far.span.start so_far.cursor.left c.loop-seen-test.true
          (c.in_ok-offset.offset, c.in_ok-offset.size) c.range.new.cursor.left c.in_ok-offset.ensures.some
          c.add_range.new.span.covers c.add_range.new.span.start
          (omega (arith, start_is, c.in_ok-end.ensures)) (c.add_range.ensures.covers ∙ rw (start_is, end_is) refl) (c.add_range.ensures.start ∙ rw start_is refl))
          ∙ so_far.invariant.read;
    }

pub returns-clause-some : goal.returns-clause-some
unfolding span_at
returns-clause-some c =
    let so_far = c.loop-seen in
    sym so_far.invariant.read
    ∙ span-end c.args.addr c.args.base c.args.count so_far.seen so_far.span.covers so_far.span.start so_far.cursor.left (omega arith) so_far.invariant.begun
