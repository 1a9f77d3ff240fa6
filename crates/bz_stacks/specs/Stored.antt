-- What a kept map says.
use Rattle.std.specs.Prelude.{ℕ, map, Vec}
use Rattle.std.specs.BTreeMap.{BTreeMap}
use Rattle.std.specs.FinMap as finite
use Rattle.bz_stacks.specs.Folding.{Sums}

-- the sums that a map has, by the bytes of its keys
abbrev pub kept_sums : {A : Type 0} → BTreeMap (Vec ℕ A) ℕ → Sums
kept_sums m = finite.from_entries (map (λ e. (e.0.items, e.1)) m.entries)
