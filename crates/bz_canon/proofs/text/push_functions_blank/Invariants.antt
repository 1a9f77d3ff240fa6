use Rattle.std.proofs.Common.{◌≡◌, ◌++◌, take}
use Rattle.bz_canon.specs.Parts.{canon_functions, functions_text}
use Rattle.bz_canon.proofs.text.push_functions_blank.Given as goal

-- what is written is the functions so far
abbrev pub invariant-loop-index : goal.invariant-loop-index
invariant-loop-index g l = l.text.items ≡ l.fn.text.items ++ functions_text (take l.index (canon_functions l.file))
