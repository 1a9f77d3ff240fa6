use Rattle.std.proofs.Common.{◌≡◌, ◌++◌, drop, flat_map}
use Rattle.bz_gsym_layout.specs.Layout.{word}
use Rattle.bz_gsym_layout.proofs.tables.push_places.Given as goal

-- what is written, with the places that are left, is the whole
abbrev pub invariant-loop-place : goal.invariant-loop-place
invariant-loop-place l = l.out.items ++ flat_map (word 4) (drop l.place-index l.places) ≡ l.fn.out.items ++ flat_map (word 4) l.places
