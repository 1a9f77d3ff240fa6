use Rattle.std.proofs.Common.{◌≡◌, ◌++◌, map, drop}
use Rattle.std.specs.List.{filter}
use Rattle.bz_breakpad.specs.Lent.{inlinee_seen}
use Rattle.bz_convert.specs.Plan.{has_size}
use Rattle.bz_convert.specs.Sized.{placed_inlinees}
use Rattle.bz_convert.proofs.conversion.calls.placed_calls.Given as goal

-- those so far, and those that are left, are all that have a size
abbrev pub invariant-loop-call : goal.invariant-loop-call
invariant-loop-call l = placed_inlinees l.placed.items ++ filter has_size (map inlinee_seen (drop l.call-index l.calls)) ≡ filter has_size (map inlinee_seen l.calls)
