-- What is seen from outside calls, one call after another.
use Rattle.std.proofs.Common.{◌≡◌, ℕ, zero, suc, ◌-◌, ◌<◌, ◌≤◌, List, [], ◌∷◌, length, drop, map, get_or, Option, Some, None, option_map, option_and_then, sym, ap, ◌∙◌, arith, drop-cons}
use Rattle.bz_base.specs.Answer.{Call, Site}
use Rattle.bz_base.specs.SeenFrom.{seen_from, seen_outside}

module _ {C : Type 0} (site : C → Option Site) (name : C → Option (List ℕ)) (line : Option Site) where
  -- where the line's own site isn't known, nothing is
  pub line_unknown : (calls : List C) → None ≡ line → seen_from site name line calls ≡ None
  line_unknown [] none = ap (option_map _) (sym none)
  line_unknown (call ∷ calls) none = ap (option_and_then (seen_outside site name call)) (line_unknown calls none)

  module _ {X : Type 0} (view : X → C) where
    -- what isn't known inside isn't known outside
    pub seen_none : (n : ℕ) (calls : List X) → seen_from site name line (map view (drop n calls)) ≡ None → seen_from site name line (map view calls) ≡ None
    seen_none zero calls none = none
    seen_none (suc n) [] none = none
    seen_none (suc n) (call ∷ calls) none = ap (option_and_then (seen_outside site name (view call))) (seen_none n calls none)

    -- what is seen from outside one call more
    pub seen_step : (calls : List X) (left : ℕ) (d : X) (inner : Site × List Call) → 0 < left → left ≤ length calls →
        seen_from site name line (map view (drop left calls)) ≡ Some inner →
        seen_from site name line (map view (drop (left - 1) calls)) ≡ seen_outside site name (view (get_or calls (left - 1) d)) inner
    seen_step calls left d inner some within seen =
        let again : seen_from site name line (map view (drop (suc (left - 1)) calls)) ≡ Some inner = let same : suc (left - 1) ≡ left = omega (arith, some) in rw same seen in
        ap (λ cs. seen_from site name line (map view cs)) (drop-cons calls (left - 1) d (omega (arith, some, within)))
        ∙ ap (option_and_then (seen_outside site name (view (get_or calls (left - 1) d)))) again
