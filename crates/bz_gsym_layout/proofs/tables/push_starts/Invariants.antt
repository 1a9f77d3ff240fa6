use Rattle.std.proofs.Common.{◌≡◌, ◌++◌, drop, flat_map}
use Rattle.bz_gsym_layout.specs.Layout.{word}
use Rattle.bz_gsym_layout.proofs.tables.push_starts.Given as goal

-- what is written, with the starts that are left, is the whole
abbrev pub invariant-loop-function : goal.invariant-loop-function
invariant-loop-function l = l.out.items ++ flat_map (λ f. word 8 f.start) (drop l.function-index l.functions) ≡ l.fn.out.items ++ flat_map (λ f. word 8 f.start) l.functions
