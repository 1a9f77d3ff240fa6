use Rattle.std.proofs.Common.{◌+◌, ◌*◌, ◌≤◌, length}
use Rattle.bz_search.specs.Abreast.{EachBy}
use Rattle.bz_search.proofs.AbreastLemmas.{IsNarrowed}
use Rattle.bz_search.proofs.abreast.search_all.Given as goal

-- each round halves what remains to each search
abbrev pub invariant-loop-round : goal.invariant-loop-round
invariant-loop-round g l = record {
  narrowed : EachBy (IsNarrowed l.table l._round) l.fn.searches l.searches;
  more : l.fn.steps ≤ l.steps;
  cost : l.steps ≤ l.fn.steps + length l.fn.searches * l._round;
}
