use Rattle.bz_base.proofs.LentLemmas.{same_and_one, lent_and_one}
use Rattle.bz_base.proofs.clone.calls_again.Goals as goal

pub loop-call-preserved : goal.loop-call-preserved
loop-call-preserved c =
    let calls = c.args.calls.now in let copies = c.loop-call.all.items in let call = c.call-item.result in let copy = c.in_ok-try_clone.field-0 in record {
      same = rw c.in_ok-push.ensures.items (same_and_one calls copies c.loop-call.call-index call copy c.loop-call-test.true c.call-item.is c.loop-call.invariant.same c.in_ok-try_clone.ensures.same);
      lent = rw c.in_ok-push.ensures.items (lent_and_one calls copies c.loop-call.call-index call copy c.loop-call-test.true c.call-item.is c.loop-call.invariant.lent c.in_ok-try_clone.ensures.lent);
    }
