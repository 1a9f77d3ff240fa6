use Rattle.std.proofs.Common.{◌≡◌, ◌++◌}
use Rattle.bz_stacks.specs.Text.{lines_of}
use Rattle.bz_stacks.proofs.text.text_of.Given as goal

-- the text so far and the lines that are left are those of the map
abbrev pub invariant-loop-path : goal.invariant-loop-path
invariant-loop-path l = l.text.items ++ lines_of l.path-iterator ≡ lines_of l.sums.entries
