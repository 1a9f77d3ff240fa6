use Rattle.std.proofs.Common.{◌≡◌, map, take}
use Rattle.std.specs.List.{AllByRecursion}
use Rattle.bz_base.specs.Answer.{reading}
use Rattle.bz_base.specs.Lent.{IsLent}
use Rattle.bz_lookups.specs.Batch.{entry_by, version_of}
use Rattle.bz_lookups.proofs.held.Held.answers_each.Given as goal

-- the answers so far are those at the first addresses
abbrev pub invariant-loop-index : goal.invariant-loop-index
invariant-loop-index l = record {
  answers : map reading l.answers.items ≡ map (λ addr. entry_by (version_of l.self) l.opts addr) (take l.index l.addrs);
  lent : AllByRecursion IsLent l.answers.items;
}
