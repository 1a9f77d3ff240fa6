use Rattle.std.proofs.Common.{◌≡◌, length}
use Rattle.bz_breakpad.specs.Found.{AreFunctionsFor}
use Rattle.bz_breakpad.specs.Stands.{OfItsTable}
use Rattle.bz_breakpad.proofs.find.Searched.with_publics.Given as goal

-- the first of those that were left are found
abbrev pub invariant-loop-next : goal.invariant-loop-next
invariant-loop-next l = record {
  records : OfItsTable l.self.kept.now (λ table. AreFunctionsFor table l.addrs l.records.items l.left.items l.next);
  count : length l.records.items ≡ length l.addrs;
}
