use Rattle.std.proofs.Common.{◌≡◌, ◌++◌, drop, flat_map, map}
use Rattle.bz_gsym_layout.specs.Numbering.{stored}
use Rattle.bz_gsym_layout.proofs.tables.push_texts.Given as goal

-- what is written, with the texts that are left, is the whole
abbrev pub invariant-loop-text : goal.invariant-loop-text
invariant-loop-text l =
    l.out.items ++ flat_map stored (map (λ text. text.now) (drop l.text-index l.texts)) ≡ l.fn.out.items ++ flat_map stored (map (λ text. text.now) l.texts)
