use Rattle.std.proofs.Common.{arith}
use Rattle.bz_convert.proofs.PointsLemmas.{points_done}
use Rattle.bz_convert.proofs.rows.points_of.Goals as goal

pub returns : goal.returns
returns c =
    let s = c.loop-line in
    points_done c.args.function.now c.addr-start.result _ c.requires.checked c.addr-start.ensures (omega (arith, c.addr-start.ensures, c.from.ensures, c.size.ensures))
    c.args.lines.now c.requires.lines s.line-index (omega (arith, c.loop-line-test.false)) s.points.items c.sort_table.new.records.items s.invariant c.in_ok-sort_table.ensures.table
