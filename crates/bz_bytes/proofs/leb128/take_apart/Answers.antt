use Rattle.std.proofs.Common.{arith}
use Rattle.std.proofs.lemmas.List.{take_all}
use Rattle.bz_bytes.proofs.LebLemmas.{in_parts, too_long, no_end, next_weight, next_bits, next_small, next_marked, next_room}
use Rattle.bz_bytes.proofs.leb128.take_apart.Goals as goal

pub returns-then-byte-lt128-clause-parts : goal.returns-then-byte-lt128-clause-parts
returns-then-byte-lt128-clause-parts c =
    let at = c.loop-byte in
    let so_far = at.invariant in
    let here = so_far.counted in
    rw (← here) (in_parts c.args.bytes.now at.len at.low at.weight (omega arith) so_far.few so_far.marked so_far.bits so_far.weighs so_far.small (rw here c.if-byte-lt128.true))

pub returns-then-len-eq9-clause-none : goal.returns-then-len-eq9-clause-none
returns-then-len-eq9-clause-none c =
    let at = c.loop-byte in
    let so_far = at.invariant in
    let ninth = c.if-len-eq9.true in
    too_long c.args.bytes.now (omega arith) (rw (← ninth) so_far.marked) (rw (← ninth, so_far.counted) c.if-byte-lt128.false)

pub overflow_add-low : goal.overflow_add-low
overflow_add-low c =
    let at = c.loop-byte in
    let so_far = at.invariant in
    let room = next_room c.args.bytes.now at.len at.low at.weight (omega arith) so_far.few so_far.marked so_far.bits so_far.weighs so_far.small c.if-len-eq9.false in
    let less = next_small c.args.bytes.now at.len at.low at.weight (omega arith) so_far.few so_far.marked so_far.bits so_far.weighs so_far.small in
    rw (c.from.ensures, ← so_far.counted) (omega (arith, room, less))

pub overflow_mul-weight : goal.overflow_mul-weight
overflow_mul-weight c =
    let at = c.loop-byte in
    let so_far = at.invariant in
    let room = next_room c.args.bytes.now at.len at.low at.weight (omega arith) so_far.few so_far.marked so_far.bits so_far.weighs so_far.small c.if-len-eq9.false in
    omega (arith, room)

pub loop-byte-preserved : goal.loop-byte-preserved
loop-byte-preserved c =
    let at = c.loop-byte in
    let so_far = at.invariant in
    let bytes = c.args.bytes.now in
    record {
      counted = omega arith;
      few = omega arith;
      marked = next_marked bytes at.len at.low at.weight (omega arith) so_far.few so_far.marked so_far.bits so_far.weighs so_far.small (rw so_far.counted c.if-byte-lt128.false);
      bits = rw (c.from.ensures, ← so_far.counted) (next_bits bytes at.len at.low at.weight (omega arith) so_far.few so_far.marked so_far.bits so_far.weighs so_far.small);
      weighs = next_weight bytes at.len at.low at.weight (omega arith) so_far.few so_far.marked so_far.bits so_far.weighs so_far.small;
      small = rw (c.from.ensures, ← so_far.counted) (next_small bytes at.len at.low at.weight (omega arith) so_far.few so_far.marked so_far.bits so_far.weighs so_far.small);
    }

pub returns-clause-none : goal.returns-clause-none
returns-clause-none c =
    let at = c.loop-byte in
    let so_far = at.invariant in
    no_end c.args.bytes.now (rw (← take_all at.len c.args.bytes.now (omega arith)) so_far.marked)
