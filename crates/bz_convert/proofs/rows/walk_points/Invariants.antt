use Rattle.std.proofs.Common.{◌≡◌, ◌++◌, None, map, option_map, drop}
use Rattle.bz_breakpad_function.specs.Locations.{line_at}
use Rattle.bz_breakpad_lines.specs.Told.{line_seen}
use Rattle.bz_convert.specs.Fault.{◌or◌}
use Rattle.bz_convert.specs.Plan.{same_line}
use Rattle.bz_convert.specs.Points.{row_seen}
use Rattle.bz_convert.proofs.PointLemmas.{point_gap, point_rows}
use Rattle.bz_convert.proofs.PointsLemmas.{addrs_of, itself}
use Rattle.bz_convert.proofs.rows.walk_points.Given as goal

-- what was found so far, with what the points that are left give, is what all of them give
abbrev pub invariant-loop-point : goal.invariant-loop-point
invariant-loop-point l = record {
  rows : map row_seen l.rows.items ++ point_rows same_line itself (λ addr. line_at addr l.function.lines) (option_map line_seen l.before) (addrs_of (drop l.point-index l.points))
      ≡ point_rows same_line itself (λ addr. line_at addr l.function.lines) None (addrs_of l.points);
  gap : (l.gap or point_gap same_line itself (λ addr. line_at addr l.function.lines) (option_map line_seen l.before) (addrs_of (drop l.point-index l.points)))
      ≡ point_gap same_line itself (λ addr. line_at addr l.function.lines) None (addrs_of l.points);
}
