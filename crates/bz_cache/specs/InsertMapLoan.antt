-- What becomes of a map once the loan of a value of it ends.
use Rattle.std.specs.Prelude.{List, ⊤}
use Rattle.std.specs.Borrow.{MutBor, Fml, follows_so}
use Rattle.std.specs.BTreeMap.Lent.{OrdMembers}
use mathlib.Core.Option.{none}
use denote.RattleType.{RattleType}
use Rattle.bz_cache.specs.contracts.insert_map.InsertMap.{the_row}

module _ (K V : RattleType) (g : OrdMembers K.Denot) (m : MutBor (List (K.Denot × V.Denot))) where
  abbrev row : RattleType
  row = the_row K V (record { cmp = g.cmp }) (record { eq = g.eq }) (record { partial_cmp = g.partial_cmp })

  -- P holds of the map behind m once the loan ends
  abbrev pub ends_so : (List (K.Denot × V.Denot) → Type 0) → Fml
  ends_so P = follows_so row row m.ghost_name none (λ _ _. ⊤) P
