use Rattle.std.proofs.Common.{◌≡◌, ◌&&◌, not, map, drop}
use Rattle.std.specs.List.{find}
use Rattle.bz_breakpad.specs.Lent.{inlinee_seen}
use Rattle.bz_convert.specs.Fault.{lies_inside}
use Rattle.bz_convert.specs.Plan.{has_size}
use Rattle.bz_convert.proofs.calls.not_nested.Given as goal

-- all calls so far are nested
abbrev pub invariant-loop-call : goal.invariant-loop-call
invariant-loop-call l = find (λ i. has_size i && not (lies_inside l.function i)) (map inlinee_seen (drop l.call-index l.calls)) ≡ find (λ i. has_size i && not (lies_inside l.function i)) (map inlinee_seen l.calls)
