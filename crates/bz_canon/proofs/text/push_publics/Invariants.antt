use Rattle.std.proofs.Common.{◌≡◌, ◌++◌, map, take}
use Rattle.bz_breakpad.specs.Listed.{lent_public}
use Rattle.bz_breakpad_lines.specs.Printed.{public_record}
use Rattle.bz_canon.specs.Parts.{lines_of}
use Rattle.bz_canon.proofs.text.push_publics.Given as goal

-- what is written is the lines of those so far
abbrev pub invariant-loop-public : goal.invariant-loop-public
invariant-loop-public l = l.text.items ≡ l.fn.text.items ++ lines_of public_record (map lent_public (take l.public-index l.publics))
