use Rattle.std.proofs.Common.{◌≡◌, Some, sym, ap, ◌∙◌, length, drop, arith}
use Rattle.std.proofs.lemmas.List.{length-drop}
use Rattle.bz_gsym.proofs.LineTableLemmas.{at_row, past_row}
use Rattle.bz_gsym.proofs.linetab.run_rows.Goals as goal

pub returns-then-addr-state-clause-ends : goal.returns-then-addr-state-clause-ends
returns-then-addr-state-clause-ends c =
    λ _.
    let so_far = c.loop-state in
    at_row c.args.header.now c.args.addr (Some so_far.row) so_far.row c.in-Some.state so_far.ops.left (drop 1 so_far.ops.left) (sym c.in-Some.ensures.row) c.if-addr-state.true
    ∙ so_far.invariant.found

pub loop-state-preserved : goal.loop-state-preserved
loop-state-preserved c =
    let so_far = c.loop-state in
    let gone : c.pass.new.cursor.left ≡ drop 1 so_far.ops.left = c.pass.ensures.left in
    record {
      found =
          rw gone
          (past_row c.args.header.now c.args.addr (Some so_far.row) so_far.row c.in-Some.state so_far.ops.left (drop 1 so_far.ops.left) (sym c.in-Some.ensures.row) c.if-addr-state.false
          ∙ so_far.invariant.found);
      within = omega (arith, ap length gone, length-drop 1 so_far.ops.left, so_far.invariant.within);
    }
