use Rattle.std.proofs.Common.{◌≡◌, ◌-◌, ◌∙◌, suc, length, take, ap, arith}
use Rattle.std.proofs.lemmas.List.{length-take-le}
use Rattle.bz_gsym_layout.proofs.PassSteps.{turn_left, turn_low}
use Rattle.bz_gsym_layout.proofs.calls.end_lists.Goals as goal

pub loop-out-preserved : goal.loop-out-preserved
loop-out-preserved c =
    let s = c.loop-out in
    let outer = s.outer.items in
    let last = c.len-last.result - 1 in
    let many : length outer ≡ suc last = omega (arith, c.len.ensures, c.len-last.ensures, c.loop-out-test.true) in
    let cut : c.truncate.new.self.items ≡ take last outer = c.truncate.ensures.items in
    record {
      deep = omega (arith, c.len.ensures, c.loop-out-test.true, many, ap length cut, length-take-le last outer (omega (arith, many)));
      low = λ limit first all.
          let two = s.invariant.low limit first all in
          turn_low s.out.items outer c.push.new.self.items c.truncate.new.self.items s.base c.index-base.result.now last many c.in_ok-push.ensures.items cut c.index-base.ensures limit two.1;
      left = λ t view x xs same.
          turn_left s.out.items outer c.push.new.self.items c.truncate.new.self.items s.base c.index-base.result.now last many c.in_ok-push.ensures.items cut c.index-base.ensures t view x xs
          (omega (arith, same, c.len.ensures, c.loop-out-test.true)) ∙ s.invariant.left t view x xs same;
    }
