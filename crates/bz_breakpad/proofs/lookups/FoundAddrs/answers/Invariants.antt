use Rattle.std.proofs.Common.{◌≡◌, ◌≤◌, length, map, take}
use Rattle.std.specs.List.{AllByRecursion}
use Rattle.std.specs.Vec.{vec_capacity, vec_len}
use Rattle.bz_base.specs.Answer.{reading}
use Rattle.bz_base.specs.Lent.{IsLent}
use Rattle.bz_breakpad.specs.Found.{AreRecordsFor}
use Rattle.bz_breakpad.specs.Plain.{batch}
use Rattle.bz_breakpad_table.specs.Sorted.{StandsFor}
use Rattle.bz_breakpad_lines.specs.Table.{Table}
use Rattle.bz_breakpad.proofs.lookups.FoundAddrs.answers.Given as goal

-- the answers so far are those of the first addresses, and there is room for the others
abbrev pub invariant-loop-index : goal.invariant-loop-index
invariant-loop-index l = record {
  answers : (t : Table) → StandsFor l.self.bytes.now t l.self.kept.now → AreRecordsFor t l.self.addrs.now l.self.found.now →
      map reading l.answers.items ≡ batch t l.opts (take l.index l.self.addrs.now);
  lent : AllByRecursion IsLent l.answers.items;
  count : vec_len l.answers ≡ l.index;
  room : length l.self.addrs.now ≤ vec_capacity l.answers;
}
