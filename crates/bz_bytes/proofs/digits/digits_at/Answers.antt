use Rattle.std.proofs.Common.{arith, ◌∙◌}
use Rattle.bz_bytes.proofs.ReadLemmas.{front_small, whole_read, too_many, more_digits, more_value, more_fits, stop_read}
use Rattle.bz_bytes.proofs.digits.digits_at.Goals as goal
use Rattle.bz_bytes.proofs.digits.digits_at.Goals.{else-loop-byte-test, then-loop-byte-test+then-digit-base}

pub returns-then-len-most-clause-reads : goal.returns-then-len-most-clause-reads
returns-then-len-most-clause-reads c =
    let at = c.loop-byte in
    let so_far = at.invariant in
    too_many c.args.base c.args.most c.args.text.now at.len at.byte-index c.from-digit.result at.value so_far.counted (omega arith) so_far.digits so_far.valued
    (c.from-digit.ensures ∙ c.digit.ensures) (omega arith) (omega arith)

pub overflow_mul-value : goal.overflow_mul-value
overflow_mul-value c =
    let at = c.loop-byte in
    let so_far = at.invariant in
    let fits = more_fits c.args.base c.args.most c.args.text.now at.len at.byte-index c.from-digit.result at.value so_far.counted (omega arith) so_far.digits so_far.valued
    (c.from-digit.ensures ∙ c.digit.ensures) (omega arith) (omega arith) c.requires.positive c.requires.fits in
    omega (arith, fits)

pub overflow_add-value : goal.overflow_add-value
overflow_add-value c =
    let at = c.loop-byte in
    let so_far = at.invariant in
    let fits = more_fits c.args.base c.args.most c.args.text.now at.len at.byte-index c.from-digit.result at.value so_far.counted (omega arith) so_far.digits so_far.valued
    (c.from-digit.ensures ∙ c.digit.ensures) (omega arith) (omega arith) c.requires.positive c.requires.fits in
    omega (arith, fits)

pub loop-byte-preserved : goal.loop-byte-preserved
loop-byte-preserved c =
    let at = c.loop-byte in
    let so_far = at.invariant in
    let is = c.from-digit.ensures ∙ c.digit.ensures in
    record {
      counted = omega arith;
      few = omega arith;
      digits = more_digits c.args.base c.args.most c.args.text.now at.len at.byte-index c.from-digit.result at.value so_far.counted (omega arith) so_far.digits so_far.valued is (omega arith);
      valued = more_value c.args.base c.args.most c.args.text.now at.len at.byte-index c.from-digit.result at.value so_far.counted (omega arith) so_far.digits so_far.valued is;
    }

pub returns-clause-reads : goal.returns-clause-reads
returns-clause-reads c =
    let at = c.loop-byte in
    let so_far = at.invariant in
    elim c.loop-byte-test.branch [
      | else-loop-byte-test w ↦
          whole_read c.args.base c.args.most c.args.text.now at.len at.value (omega arith) so_far.digits so_far.valued (omega arith) so_far.few
      | then-loop-byte-test+then-digit-base w ↦
          stop_read c.args.base c.args.most c.args.text.now at.len at.byte-index w.from-digit.result at.value so_far.counted (omega arith) so_far.digits so_far.valued
          (w.from-digit.ensures ∙ w.digit.ensures) (omega arith) (omega arith) so_far.few
    ]

pub returns-clause-small : goal.returns-clause-small
returns-clause-small c =
    let at = c.loop-byte in
    let so_far = at.invariant in
    front_small c.args.base c.args.most c.args.text.now at.len at.value c.requires.positive so_far.few so_far.digits so_far.valued
