use Rattle.std.proofs.Common.{◌≡◌, map, take}
use Rattle.bz_breakpad_table.proofs.publics.table_of.Given as goal

-- the indices and starts of the keys so far
abbrev pub invariant-loop-key : goal.invariant-loop-key
invariant-loop-key l = record {
  indices : l.indices.items ≡ map (λ k. k.index) (take l.key-index l.keys);
  starts : l.starts.items ≡ map (λ k. k.start) (take l.key-index l.keys);
}
