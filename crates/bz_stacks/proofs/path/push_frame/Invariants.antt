use Rattle.std.proofs.Common.{◌≡◌, ◌++◌, ◌∷◌, map, take}
use Rattle.bz_stacks.specs.Path.{frame_byte, semicolon}
use Rattle.bz_stacks.proofs.path.push_frame.Given as goal

-- the bytes so far are those of the name's front
abbrev pub invariant-loop-byte : goal.invariant-loop-byte
invariant-loop-byte l = l.path.items ≡ l.fn.path.items ++ semicolon ∷ map frame_byte (take l.byte-index l.byte-items)
