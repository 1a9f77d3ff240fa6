use Rattle.std.proofs.Common.{arith}
use Rattle.bz_convert.specs.declared.rows.Point.{Point}
use Rattle.bz_convert.proofs.PointsLemmas.{gap_end, gap_turn, row_end, row_turn}
use Rattle.bz_convert.proofs.rows.walk_points.Goals as goal

-- what stands where no point does
abbrev no_point : Point
no_point = record { addr = 0 }

pub loop-point-preserved : goal.loop-point-preserved
loop-point-preserved c =
    let s = c.loop-point in
    record {
      rows = row_turn c.args.function.now c.args.points.now s.point-index no_point c.loop-point-test.true s.before c.find_line-line.result s.rows.items c.push_row.new.rows.items c.find_line-line.ensures c.in_ok-push_row.ensures s.invariant.rows;
      gap = gap_turn c.args.function.now c.args.points.now s.point-index no_point c.loop-point-test.true s.before c.find_line-line.result s.gap c.first_gap-gap.result c.find_line-line.ensures c.first_gap-gap.ensures s.invariant.gap;
    }

pub returns-clause-rows : goal.returns-clause-rows
returns-clause-rows c are =
    let s = c.loop-point in
    row_end c.args.function.now c.args.points.now s.point-index (omega (arith, c.loop-point-test.false)) are s.before s.rows.items s.invariant.rows

pub returns-clause-gap : goal.returns-clause-gap
returns-clause-gap c are =
    let s = c.loop-point in
    gap_end c.args.function.now c.args.points.now s.point-index (omega (arith, c.loop-point-test.false)) are s.before s.gap s.invariant.gap
