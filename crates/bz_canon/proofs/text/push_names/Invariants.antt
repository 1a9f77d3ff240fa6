use Rattle.std.proofs.Common.{◌≡◌, ◌++◌, map, take}
use Rattle.bz_canon.specs.Parts.{named_lines}
use Rattle.bz_canon.proofs.text.push_names.Given as goal

-- what is written is the lines of those so far
abbrev pub invariant-loop-name : goal.invariant-loop-name
invariant-loop-name l = l.text.items ≡ l.fn.text.items ++ named_lines l.tag (map (λ name. (name.0, name.1.now)) (take l.name-index l.names))
