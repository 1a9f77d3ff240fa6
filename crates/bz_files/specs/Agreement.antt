-- Agreement of worlds: equal stamps have equal bytes, within each and between any two
-- (docs/DEFINITIONS.md, bz_files).
use Rattle.std.specs.Prelude.{◌≡◌, ℕ, List, Some, Contains}
use Rattle.bz_files.specs.declared.stamp.Stamp.{Stamp}
use Rattle.bz_files.specs.World.{World, Present, entry_at}

-- equal stamps have equal bytes between two worlds
abbrev pub AgreeOn : World → World → Type 0
AgreeOn w v = (p q : List ℕ) (s : Stamp) (a b : List ℕ) → entry_at w p ≡ Some (Present s a) → entry_at v q ≡ Some (Present s b) → a ≡ b

-- equal stamps have equal bytes within each world and between any two
abbrev pub Agree : List World → Type 0
Agree worlds = (w v : World) → Contains worlds w → Contains worlds v → AgreeOn w v
