-- The state that is looked for from the front of a line table is the one that is picked from its
-- finished list.
use Rattle.std.proofs.Common.{◌≡◌, ℕ, suc, ◌+◌, Bool, true, false, not, cond, List, [], ◌∷◌, map, Option, Some, None, refl, ap, ◌∙◌, arith}
use Rattle.std.specs.Prelude.{◌||◌, is_some}
use Rattle.std.specs.List.{before_first, last_or, list_any, prefix_len}
use Rattle.bz_gsym.specs.LineTable.{State, end_state, is_above, picked, rows, sought}
use Rattle.bz_gsym.specs.declared.linetab.LineTableRow.{LineTableRow}

or_true : {A : Type 0} (o : Option A) → (is_some o || true) ≡ true
or_true None = refl
or_true (Some x) = refl

module _ (addr : ℕ) where
  -- the state that is picked where so much went before: the last row, and the state
  abbrev picked_after : Option LineTableRow → LineTableRow → List State → Option LineTableRow
  picked_after last now list =
      cond (list_any (is_above addr) (rows list)) (last_or last (before_first (is_above addr) (rows list)))
      (cond (is_some last || list_any (λ (state : State). state.is_row) list) (last_or (Some now) (map (λ (state : State). state.at) list)) None)

  module _ (list : List State) (next : (last : Option LineTableRow) (now : LineTableRow) → sought addr last now list ≡ picked_after last now list) where
    step : (last : Option LineTableRow) (now : LineTableRow) (is_row : Bool) (at : LineTableRow) (far : Bool) → is_above addr at ≡ far →
        sought addr last now (record { is_row = is_row; at = at } ∷ list) ≡ picked_after last now (record { is_row = is_row; at = at } ∷ list)
    step last now false at far is = next last at
    step last now true at true is = rw is refl
    step last now true at false is =
        let count : ℕ = prefix_len (λ row. not (is_above addr row)) (rows list) in
        let one_more : 1 + count ≡ suc count = omega arith in
        rw (is, or_true last, one_more) (next (Some at) at)

  found : (last : Option LineTableRow) (now : LineTableRow) (list : List State) → sought addr last now list ≡ picked_after last now list
  found None now [] = refl
  found (Some row) now [] = refl
  found last now (state ∷ list) = step list (λ last now. found last now list) last now state.is_row state.at (is_above addr state.at) refl

  -- before the first operator there is no row
  at_end : (now : LineTableRow) (list : List State) →
      cond (list_any (λ (state : State). state.is_row) list) (last_or (Some now) (map (λ (state : State). state.at) list)) None ≡ end_state list
  at_end now [] = refl
  at_end now (state ∷ list) = refl

  pub picked_early : (now : LineTableRow) (list : List State) → sought addr None now list ≡ picked addr list
  picked_early now list =
      found None now list
      ∙ ap (λ o. cond (list_any (is_above addr) (rows list)) (last_or None (before_first (is_above addr) (rows list))) o) (at_end now list)
