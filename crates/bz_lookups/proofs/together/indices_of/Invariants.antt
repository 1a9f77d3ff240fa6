use Rattle.std.proofs.Common.{◌≡◌, ℕ, map, take}
use Rattle.bz_lookups.proofs.together.indices_of.Given as goal

-- the indices so far are those of the first entries
abbrev pub invariant-loop-entry : goal.invariant-loop-entry
invariant-loop-entry l = l.indices.items ≡ map (λ (e : ℕ × ℕ). e.1) (take l.entry-index l.entries)
