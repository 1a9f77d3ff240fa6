use Rattle.std.proofs.Common.{◌≡◌, ◌++◌, map, take}
use Rattle.bz_breakpad.specs.Lent.{inlinee_seen}
use Rattle.bz_breakpad_lines.specs.Printed.{inlinee_one}
use Rattle.bz_breakpad_lines.specs.Contexts.Record.{OfFunc}
use Rattle.bz_canon.specs.Parts.{lines_of}
use Rattle.bz_canon.proofs.text.push_inlinees.Given as goal

-- what is written is the lines of those so far
abbrev pub invariant-loop-inlinee : goal.invariant-loop-inlinee
invariant-loop-inlinee l = l.text.items ≡ l.fn.text.items ++ lines_of (λ i. OfFunc (inlinee_one i)) (map inlinee_seen (take l.inlinee-index l.inlinees))
