use Rattle.std.proofs.Common.{◌≡◌, ◌≤◌, Some, length, drop, map}
use Rattle.std.specs.Prelude.{reverse}
use Rattle.std.specs.List.{AllByRecursion}
use Rattle.bz_base.specs.Answer.{call_of, site_of}
use Rattle.bz_base.specs.Lent.{IsLentCall, IsLentSite}
use Rattle.bz_breakpad_lines.specs.Table.{Table}
use Rattle.bz_breakpad_lines.specs.Told.{line_seen}
use Rattle.bz_breakpad_table.specs.Kept.{kept_call}
use Rattle.bz_breakpad_table.specs.Sorted.{StandsFor}
use Rattle.bz_breakpad_function.specs.Locations.{seen_from}
use Rattle.bz_breakpad_function.proofs.locations.seen_from.Given as goal

-- the site and the calls so far are what is seen from outside the calls that were taken,
-- of which the innermost came first
abbrev pub invariant-loop-left : goal.invariant-loop-left
invariant-loop-left l = record {
  within : l.left ≤ length l.calls;
  seen : (table : Table) → StandsFor l.bytes table l.kept →
      seen_from table (map (λ call. kept_call l.bytes call.now) (drop l.left l.calls)) (line_seen l.fn.line) ≡ Some (site_of l.site, reverse (map call_of l.inlined.items));
  site : IsLentSite l.site;
  calls : AllByRecursion IsLentCall l.inlined.items;
}

-- what is left
abbrev pub decreases-loop-left : goal.decreases-loop-left
decreases-loop-left l = l.left
