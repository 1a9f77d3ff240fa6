-- The candidate of what a list is seen as.
use Rattle.std.proofs.Common.{◌≡◌, ℕ, map, option_map, nat_le, List, [], ◌∷◌, Option, Some, None, refl, sym, ap, ◌∙◌}
use Rattle.bz_base.specs.Nearest.{candidate, comes_first, first_of}
use Rattle.bz_base.proofs.ViewLemmas.{map_cond}

-- the candidate of what a list is seen as is what its candidate is seen as
module _ {X Y : Type 0} (start size : Y → ℕ) (view : X → Y) (addr : ℕ) where
  first_seen : (x : X) (o : Option X) → first_of start size addr (view x) (option_map view o) ≡ option_map view (first_of (λ z. start (view z)) (λ z. size (view z)) addr x o)
  first_seen x None = sym (map_cond view (nat_le (start (view x)) addr) (Some x) None)
  first_seen x (Some y) = sym (map_cond view (comes_first start size addr (view x) (view y)) (Some x) (Some y))

  pub candidate_seen : (xs : List X) → candidate start size addr (map view xs) ≡ option_map view (candidate (λ z. start (view z)) (λ z. size (view z)) addr xs)
  candidate_seen [] = refl
  candidate_seen (x ∷ xs) = ap (first_of start size addr (view x)) (candidate_seen xs) ∙ first_seen x (candidate (λ z. start (view z)) (λ z. size (view z)) addr xs)
