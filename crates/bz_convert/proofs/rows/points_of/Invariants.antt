use Rattle.std.proofs.Common.{◌≡◌, ◌++◌, flat_map, drop}
use Rattle.bz_convert.proofs.PointsLemmas.{points_for, points_of_line}
use Rattle.bz_convert.proofs.rows.points_of.Given as goal

-- the points so far, and those of the records that are left
abbrev pub invariant-loop-line : goal.invariant-loop-line
invariant-loop-line l = l.points.items ++ flat_map (points_of_line l.start l.end) (drop l.line-index l.lines) ≡ points_for l.start l.end l.lines
