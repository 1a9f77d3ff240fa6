use Rattle.std.proofs.Common.{◌≡◌, ◌++◌, map}
use Rattle.bz_breakpad_lines.specs.Told.{line_seen}
use Rattle.bz_breakpad_table.specs.Kept.{function_seen}
use Rattle.bz_breakpad_function.proofs.walks.all_lines.Given as goal

-- the line records so far, and then those that are left
abbrev pub invariant-loop-line : goal.invariant-loop-line
invariant-loop-line l = map line_seen l.lines.items ++ l.line-iterator ≡ (function_seen l.bytes l.code l.function).lines
