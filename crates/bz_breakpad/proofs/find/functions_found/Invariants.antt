use Rattle.std.proofs.Common.{◌≡◌, ◌<◌, ◌≤◌, length, map}
use Rattle.std.specs.Prelude.{slice_index}
use Rattle.std.specs.List.{AllByRecursion}
use Rattle.bz_breakpad.specs.Found.{AreFunctionsFor, AreUncovered}
use Rattle.bz_breakpad.specs.Stands.{OfItsTable}
use Rattle.bz_breakpad.proofs.find.functions_found.Given as goal

-- the first of the addresses have their functions, or are left
abbrev pub invariant-loop-index : goal.invariant-loop-index
invariant-loop-index l = record {
  functions : OfItsTable l.kept (λ table. AreFunctionsFor table l.addrs l.records.items l.left.items 0);
  count : length l.records.items ≡ l.index;
  within : AllByRecursion (λ index. index < length l.addrs) l.left.items;
  uncovered : OfItsTable l.kept (λ table. AreUncovered table l.addrs l.left.items);
  addrs_left : l.left_addrs.items ≡ map (λ index. slice_index l.addrs index) l.left.items;
  fewer : length l.left_addrs.items ≤ l.index;
}
