-- The ids of names in their order: those of the first names are their places,
-- and the others' come behind them.
use Rattle.std.proofs.Common.{◌≡◌, ℕ, zero, suc, ◌+◌, ◌-◌, ◌<◌, ◌≤◌, List, [], ◌∷◌, ◌++◌, length, map, get_or, Option, Some, None, option_map, IsSome, refl, sym, ap, ◌∙◌, arith, length-append}
use Rattle.std.specs.Iterator.{SkipsThenYields}
use Rattle.std.specs.List.{enumerate_from, slice_get}
use Rattle.std.specs.Map.{keys_of}
use Rattle.std.specs.Map.Iter.{TakesFirst}
use Rattle.std.proofs.lemmas.List.{get_or_at, length-map}
use Rattle.std.proofs.lemmas.Map.Iter.{rest_so_far}
use Rattle.std.proofs.lemmas.Option.{slice_get_read}

module _ {X : Type 0} where
  pub id_early : (first : ℕ) (xs : List X) (others : List (ℕ × X)) (i : ℕ) → i < length xs → slice_get (keys_of (enumerate_from first xs ++ others)) i ≡ Some (first + i)
  id_early first [] others i below = absurd (omega (arith, below))
  id_early first (x ∷ xs) others zero below = let same : first ≡ first + 0 = omega arith in ap (λ (n : ℕ). Some n) same
  id_early first (x ∷ xs) others (suc i) below =
      let next : first + 1 + i ≡ first + suc i = omega arith in
      id_early (first + 1) xs others i (omega (arith, below)) ∙ ap (λ (n : ℕ). Some n) next

  pub id_late : (first : ℕ) (xs : List X) (others : List (ℕ × X)) (i : ℕ) → length xs ≤ i →
      slice_get (keys_of (enumerate_from first xs ++ others)) i ≡ slice_get (keys_of others) (i - length xs)
  id_late first [] others i behind = let same : i ≡ i - 0 = omega arith in ap (λ (n : ℕ). slice_get (keys_of others) n) same
  id_late first (x ∷ xs) others zero behind = absurd (omega (arith, behind))
  id_late first (x ∷ xs) others (suc i) behind =
      let same : i - length xs ≡ suc i - suc (length xs) = omega arith in
      id_late (first + 1) xs others i (omega (arith, behind)) ∙ ap (λ (n : ℕ). slice_get (keys_of others) n) same

-- what an iterator gives after so many items
module _ {A X : Type 0} (shows : A → X) where
  -- where there are more, it gives one
  none_left : (s : List X) (n : ℕ) (u : List X) → n < length s → SkipsThenYields (TakesFirst shows) s n None u → ⊥
  none_left s n u within ran =
      let is : s ≡ map shows ran.0 ++ ran.1.0 = rest_so_far shows ran.0 s ran.1.0 ran.1.1 in
      omega (arith, within, ran.2, ap length is, length-append (map shows ran.0) ran.1.0, length-map ran.0 shows, ap length ran.1.2.0)

  pub nth_some : (s : List X) (n : ℕ) (r : Option A) (u : List X) → n < length s → SkipsThenYields (TakesFirst shows) s n r u → IsSome r
  nth_some s n None u within ran = absurd (none_left s n u within ran)
  nth_some s n (Some x) u within ran = refl

  pub nth_taken : (s : List X) (n : ℕ) (r : Option A) (u : List X) → n < length s → SkipsThenYields (TakesFirst shows) s n r u → option_map shows r ≡ slice_get s n
  nth_taken s n None u within ran = absurd (none_left s n u within ran)
  nth_taken s n (Some x) u within ran =
      let is : s ≡ map shows ran.0 ++ shows x ∷ u = rest_so_far shows ran.0 s ran.1.0 ran.1.1 ∙ ap (λ (rest : List X). map shows ran.0 ++ rest) ran.1.2 in
      let long : length (map shows ran.0) ≡ n = length-map ran.0 shows ∙ ran.2 in
      sym (slice_get_read s (length s) n (shows x) refl within (sym (ap (λ (l : List X). get_or l n (shows x)) is ∙ get_or_at (map shows ran.0) (shows x) u (shows x) n long)))
