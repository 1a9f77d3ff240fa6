use Rattle.std.proofs.Common.{◌≡◌, ◌++◌}
use Rattle.bz_gsym_layout.specs.Layout.{zeros}
use Rattle.bz_gsym_layout.proofs.words.push_zeros.Given as goal

-- so many zeros are written
abbrev pub invariant-loop : goal.invariant-loop
invariant-loop l = l.out.items ≡ l.fn.out.items ++ zeros l.counter
