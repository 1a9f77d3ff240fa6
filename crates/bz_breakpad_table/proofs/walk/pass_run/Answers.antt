use Rattle.std.proofs.Common.{◌≡◌, ◌+◌, ◌-◌, length, drop, subst, arith, length-drop}
use Rattle.std.proofs.lemmas.List.{take_rest}
use Rattle.bz_breakpad_table.specs.Walked.{IsMidway, running}
use Rattle.bz_breakpad_table.proofs.LineRecordLemmas.{run_step}
use Rattle.bz_breakpad_table.proofs.walk.pass_run.Goals as goal

pub loop-next-init : goal.loop-next-init
loop-next-init c =
    let rest = c.args.rest.now in
    record {
      goes_on = λ bytes walk from count in_func bound m.
          let same : count ≡ count + 0 = omega arith in
          subst (λ n. IsMidway bytes rest (running walk from (length bytes - length rest) c.args.start n)) same m;
      stops = c.requires.stops;
      positive = c.requires.positive;
      few = c.requires.few;
      within = omega arith;
    }

pub loop-next-preserved : goal.loop-next-preserved
loop-next-preserved c =
    let at = c.loop-next in
    let left = at.left.now in
    let next = c.in-Some.next in
    let on = c.in-Some.ensures in
    let after = drop next.len left in
    rw (take_rest left next.len) (record {
      goes_on = λ bytes walk from count in_func bound m.
          let more : (count + at.count) + 1 ≡ count + (at.count + 1) = omega arith in
          subst (λ n. IsMidway bytes after (running walk from (length bytes - length after) next.start n)) more
          (run_step bytes left walk from (count + at.count) at.last next in_func bound on (at.invariant.goes_on bytes walk from count in_func bound m));
      stops = on.stops;
      positive = omega (arith, on.digits, at.invariant.positive);
      few = omega (arith, on.digits, at.invariant.few);
      within = omega (arith, at.invariant.within, on.positive, on.within, length-drop next.len left);
    })
