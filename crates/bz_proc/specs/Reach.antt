-- How far mappings reach: of each mapping the greatest end of those up to it. In whatever order
-- mappings stand, these never descend, and the first mapping that ends above an address is the first
-- that is reached above it.
use Rattle.std.specs.Prelude.{ℕ, nat_lt, List, [], ◌∷◌, if◌then◌else◌}
use Rattle.bz_proc.specs.Maps.{Mapping}

-- the greater of what was reached before and where the mapping ends
abbrev pub reach : ℕ → Mapping → ℕ
reach before mapping = if nat_lt before mapping.past then mapping.past else before

-- what is reached by each mapping, where so much was before
abbrev pub reached_from : ℕ → List Mapping → List ℕ
reached_from before [] = []
reached_from before (mapping ∷ mappings) = reach before mapping ∷ reached_from (reach before mapping) mappings

abbrev pub reached : List Mapping → List ℕ
reached mappings = reached_from 0 mappings
