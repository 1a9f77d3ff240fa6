use Rattle.std.proofs.Common.{◌+◌, ◌-◌, arith}
use Rattle.bz_canon.proofs.TextLemmas.{addresses_more, addresses_none}
use Rattle.bz_canon.proofs.generate.gen_addrs.Goals as goal

-- one address more
pub loop-preserved : goal.loop-preserved
loop-preserved c = record {
  small = c.next_number-number.ensures.small;
  addrs = addresses_more c.args.functions c.loop.number c.next_number-number.result (c.args.addresses - c.loop.counter) (c.args.addresses - (c.loop.counter + 1)) _ _ _ c.address_by.result
      (omega (arith, c.loop-test.true)) c.next_number-number.ensures.next c.address_by.ensures c.in_ok-push.ensures.items c.loop.invariant.addrs;
}

-- none is left
pub returns-clause-ok : goal.returns-clause-ok
returns-clause-ok c = addresses_none c.args.functions c.loop.number (c.args.addresses - c.loop.counter) _ _ (omega (arith, c.loop-test.false)) c.loop.invariant.addrs
