use Rattle.std.proofs.Common.{◌≡◌, map, slice_index, take}
use Rattle.bz_lookups.specs.Found.{AreFoundIn}
use Rattle.bz_lookups.proofs.lookups.Lookups.found_at.Given as goal

-- the addresses so far are those of the first indices, with their records
abbrev pub invariant-loop-index : goal.invariant-loop-index
invariant-loop-index l = record {
  addrs : l.some.addrs.items ≡ map (λ i. slice_index l.self.addrs i) (take l.index-index l.indices);
  found : AreFoundIn l.self.version l.some.addrs.items l.some.records.items;
}
