use Rattle.std.proofs.Common.{◌≡◌, ◌++◌, map, drop}
use Rattle.bz_breakpad_lines.specs.Told.{line_seen}
use Rattle.bz_convert.specs.Fault.{◌or◌}
use Rattle.bz_convert.specs.Points.{row_seen}
use Rattle.bz_convert.proofs.ApartLemmas.{gap_left, rows_left}
use Rattle.bz_convert.proofs.rows.walk_apart.Given as goal

-- what was found so far, with what the records that are left give, is what all of them give
abbrev pub invariant-loop-line : goal.invariant-loop-line
invariant-loop-line l = record {
  rows : map row_seen l.rows.items ++ rows_left l.start l.end (map line_seen (drop l.line-index l.lines)) ≡ rows_left l.start l.end (map line_seen l.lines);
  gap : (l.gap or gap_left l.start l.end l.reached (map line_seen (drop l.line-index l.lines))) ≡ gap_left l.start l.end l.start (map line_seen l.lines);
}
