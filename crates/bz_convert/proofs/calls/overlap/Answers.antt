use Rattle.std.proofs.Common.{arith, refl, sym, ◌∙◌}
use Rattle.bz_breakpad_function.specs.declared.types.Inlinee.{Inlinee}
use Rattle.bz_convert.proofs.OverlapLemmas.{over_end, over_here, over_next}
use Rattle.bz_convert.proofs.calls.overlap.Goals as goal

-- what stands where no call does
abbrev no_call : Inlinee
no_call = record { depth = 0; addr = 0; size = 0; call_file = 0; call_line = 0; origin_id = 0 }

pub loop-index-init : goal.loop-index-init
loop-index-init c = record { low = omega arith; seen = refl }

pub returns-then-is_over : goal.returns-then-is_over
returns-then-is_over c =
    let s = c.loop-index in
    rw c.addr.ensures (over_here c.args.calls.now no_call c.args.function.now c.requires s.index s.invariant.low c.loop-index-test.true (sym c.is_over.ensures ∙ c.if-is_over.true) s.invariant.seen)

pub loop-index-preserved : goal.loop-index-preserved
loop-index-preserved c =
    let s = c.loop-index in
    record {
      low = omega arith;
      seen = over_next c.args.calls.now no_call c.args.function.now c.requires s.index s.invariant.low c.loop-index-test.true (sym c.is_over.ensures ∙ c.if-is_over.false) s.invariant.seen;
    }

pub returns : goal.returns
returns c =
    let s = c.loop-index in
    over_end c.args.calls.now no_call c.args.function.now c.requires s.index (omega (arith, c.loop-index-test.false)) s.invariant.seen
