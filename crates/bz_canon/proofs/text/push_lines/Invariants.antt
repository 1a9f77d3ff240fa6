use Rattle.std.proofs.Common.{◌≡◌, ◌++◌, map, take}
use Rattle.bz_breakpad_lines.specs.Printed.{line_one}
use Rattle.bz_breakpad_lines.specs.Told.{line_seen}
use Rattle.bz_breakpad_lines.specs.Contexts.Record.{OfFunc}
use Rattle.bz_canon.specs.Parts.{lines_of}
use Rattle.bz_canon.proofs.text.push_lines.Given as goal

-- what is written is the lines of those so far
abbrev pub invariant-loop-line : goal.invariant-loop-line
invariant-loop-line l = l.text.items ≡ l.fn.text.items ++ lines_of (λ l. OfFunc (line_one l)) (map line_seen (take l.line-index l.lines))
