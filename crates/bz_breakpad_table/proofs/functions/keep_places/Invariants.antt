use Rattle.std.proofs.Common.{◌≡◌, ◌++◌, take}
use Rattle.bz_breakpad_table.specs.LineKeys.{places_of}
use Rattle.bz_breakpad_table.proofs.functions.keep_places.Given as goal

-- the places of the keys so far are added
abbrev pub invariant-loop-key : goal.invariant-loop-key
invariant-loop-key l = l.places.items ≡ l.fn.places.items ++ places_of (take l.key-index l.keys)
