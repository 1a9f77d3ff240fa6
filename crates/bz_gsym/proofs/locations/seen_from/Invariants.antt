use Rattle.std.proofs.Common.{◌≡◌, ◌≤◌, Some, length, drop, map}
use Rattle.std.specs.Prelude.{reverse}
use Rattle.std.specs.List.{AllByRecursion}
use Rattle.bz_base.specs.Answer.{call_of}
use Rattle.bz_base.specs.Lent.{IsLentCall}
use Rattle.bz_gsym.specs.Joining.{seen_from}
use Rattle.bz_gsym.specs.JoiningSeen.{line_seen}
use Rattle.bz_gsym.specs.Seen.{frame_seen}
use Rattle.bz_gsym.proofs.locations.seen_from.Given as goal

-- the site and the calls so far are what is seen from outside the calls that were taken, of which the
-- innermost came first
abbrev pub invariant-loop-index : goal.invariant-loop-index
invariant-loop-index l = record {
  within : l.index ≤ length l.calls;
  seen : seen_from l.context l.fn.row (map frame_seen (drop l.index l.calls)) ≡ Some (line_seen l.site, reverse (map call_of l.inlined.items));
  calls : AllByRecursion IsLentCall l.inlined.items;
}
