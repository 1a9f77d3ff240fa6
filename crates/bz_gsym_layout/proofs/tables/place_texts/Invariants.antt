use Rattle.std.proofs.Common.{◌≡◌, ◌++◌, ◌+◌, drop, flat_map, length, map}
use Rattle.bz_gsym_layout.specs.Numbering.{stored}
use Rattle.bz_gsym_layout.specs.Places.{text_places}
use Rattle.bz_gsym_layout.proofs.tables.place_texts.Given as goal

-- the places, with those of the texts that are left, are all; and so are the bytes
abbrev pub invariant-loop-text : goal.invariant-loop-text
invariant-loop-text l = record {
  places : l.places.items ++ text_places l.end (map (λ text. text.now) (drop l.text-index l.texts)) ≡ text_places 1 (map (λ text. text.now) l.texts);
  end : l.end + length (flat_map stored (map (λ text. text.now) (drop l.text-index l.texts))) ≡ 1 + length (flat_map stored (map (λ text. text.now) l.texts));
}
