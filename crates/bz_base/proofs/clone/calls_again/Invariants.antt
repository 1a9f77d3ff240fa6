use Rattle.std.proofs.Common.{◌≡◌, map, take}
use Rattle.std.specs.List.{AllByRecursion}
use Rattle.bz_base.specs.Answer.{call_of}
use Rattle.bz_base.specs.Lent.{IsLentCall}
use Rattle.bz_base.proofs.clone.calls_again.Given as goal

-- the calls so far read as those before the index, and are lent where those are
abbrev pub invariant-loop-call : goal.invariant-loop-call
invariant-loop-call l = record {
  same : map call_of l.all.items ≡ map call_of (take l.call-index l.calls);
  lent : AllByRecursion IsLentCall (take l.call-index l.calls) → AllByRecursion IsLentCall l.all.items;
}
