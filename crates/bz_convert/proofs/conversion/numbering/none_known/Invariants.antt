use Rattle.std.proofs.Common.{◌≡◌, ℕ, Some}
use Rattle.std.specs.List.{slice_get}
use Rattle.bz_convert.proofs.conversion.numbering.none_known.Given as goal

-- none of those so far is known
abbrev pub invariant-loop-id : goal.invariant-loop-id
invariant-loop-id l = (id index : ℕ) → slice_get l.known.items id ≡ Some (Some index) → ⊥
