use Rattle.std.proofs.Common.{refl, arith}
use Rattle.bz_gsym_layout.specs.declared.plan.Row.{Row}
use Rattle.bz_gsym_layout.proofs.RowTurns.{low_turn, row_turn, rows_end}
use Rattle.bz_gsym_layout.proofs.rows.push_rows.Goals as goal

-- what stands where no row does
abbrev no_row : Row
no_row = record { addr = 0; source = 0; line = 0 }

pub loop-row-init : goal.loop-row-init
loop-row-init c = record { low = c.requires; left = λ t lines are. record { lines = lines; are = are; all = refl } }

pub loop-row-preserved : goal.loop-row-preserved
loop-row-preserved c =
    let s = c.loop-row in
    let rows = c.args.rows.now in
    record {
      low = low_turn rows s.row-index no_row c.loop-row-test.true s.addr s.invariant.low;
      left = λ t lines are.
          row_turn rows s.row-index no_row c.loop-row-test.true t s.out.items c.push_row.new.out.items s.addr s.line _ c.in_ok-push_row.ensures.ok (s.invariant.left t lines are);
    }

pub returns-clause-ok : goal.returns-clause-ok
returns-clause-ok c t lines are =
    let s = c.loop-row in
    rows_end t c.args.rows.now s.row-index s.out.items c.push.new.self.items s.addr s.line _ (omega (arith, c.loop-row-test.false)) c.in_ok-push.ensures.items (s.invariant.left t lines are)
