use Rattle.std.proofs.Common.{◌∙◌, arith}
use Rattle.bz_gsym_layout.proofs.WriteLemmas.{unsigned_begins, unsigned_goes_on, unsigned_ends}
use Rattle.bz_gsym_layout.proofs.leb.push_unsigned.Goals as goal

pub loop-rest-init : goal.loop-rest-init
loop-rest-init c = unsigned_begins c.args.out.now.items c.args.number (omega (arith, c.ranges.number))

pub loop-rest-preserved : goal.loop-rest-preserved
loop-rest-preserved c =
    rw c.in_ok-push.ensures.items (unsigned_goes_on c.loop-rest.out.items c.loop-rest.rest _ (omega (arith, c.loop-rest-test.true)) c.loop-rest.invariant)

pub returns-clause-ok : goal.returns-clause-ok
returns-clause-ok c =
    c.in_ok-push-2.ensures.items ∙ unsigned_ends c.loop-rest.out.items c.loop-rest.rest _ (omega (arith, c.loop-rest-test.false)) c.loop-rest.invariant
