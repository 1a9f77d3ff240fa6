-- Inlined calls in the order of a plan, in which those that say the same stand beside each other.
use Rattle.std.specs.Prelude.{Bool, false, List, [], ◌∷◌, map, Option, Some, None, if◌then◌else◌}
use Rattle.bz_breakpad.specs.Lent.{inlinee_seen}
use Rattle.bz_breakpad_lines.specs.Table.{Inlinee}
use Rattle.bz_convert.specs.Plan.{same_call}
use Rattle.bz_convert.specs.declared.conversion.calls.PlacedCall.{PlacedCall}

-- the calls, as the file says them
abbrev pub placed_inlinees : List PlacedCall → List Inlinee
placed_inlinees placed = map (λ p. inlinee_seen p.call) placed

-- a call says the same as the one before it
abbrev pub is_repeated : Option Inlinee → Inlinee → Bool
is_repeated None i = false
is_repeated (Some before) i = same_call before i

-- the calls without those that say the same as the one before
abbrev pub without_repeats : Option Inlinee → List Inlinee → List Inlinee
without_repeats before [] = []
without_repeats before (i ∷ calls) = if is_repeated before i then without_repeats (Some i) calls else i ∷ without_repeats (Some i) calls
