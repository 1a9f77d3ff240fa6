use Rattle.std.proofs.Common.{◌≡◌, ◌++◌, None, map, option_map, drop}
use Rattle.bz_breakpad.specs.Lent.{inlinee_seen}
use Rattle.bz_convert.specs.Sized.{placed_inlinees, without_repeats}
use Rattle.bz_convert.proofs.conversion.calls.without_repeats.Given as goal

-- those so far, and those that are left, are all without repeats
abbrev pub invariant-loop-place : goal.invariant-loop-place
invariant-loop-place l = map inlinee_seen l.calls.items ++ without_repeats (option_map inlinee_seen l.before) (placed_inlinees (drop l.place-index l.placed)) ≡ without_repeats None (placed_inlinees l.placed)
