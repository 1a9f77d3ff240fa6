use Rattle.std.proofs.Common.{map, drop}
use Rattle.bz_breakpad_lines.specs.Told.{line_seen}
use Rattle.bz_convert.specs.Apart.{LieApart}
use Rattle.bz_convert.proofs.rows.lie_apart.Given as goal

-- if those that are left lie apart from there on, so do all
abbrev pub invariant-loop-line : goal.invariant-loop-line
invariant-loop-line l = LieApart l.reached (map line_seen (drop l.line-index l.lines)) → LieApart 0 (map line_seen l.lines)
