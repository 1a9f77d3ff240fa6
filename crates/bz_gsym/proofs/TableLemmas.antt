-- Tables of numbers side by side, entry by entry.
use Rattle.std.proofs.Common.{◌≡◌, ℕ, zero, suc, ◌+◌, ◌*◌, ◌<◌, ◌≤◌, List, ◌∷◌, length, map, Some, None, refl, ap, ◌∙◌, arith}
use Rattle.std.specs.List.{slice_get, slice_index, range_with_len, zip}
use Rattle.std.proofs.Math.Nat.{mul-le-mul_left, mul_comm}
use Rattle.std.proofs.lemmas.List.FromFn.{get_or-map-range_with_len}
use Rattle.bz_base.specs.Little.{number_at, numbers_at}

module _ {X : Type 0} (f : ℕ → X) where
  -- a table has as many entries as its count says
  pub length_table : (a n : ℕ) → length (map f (range_with_len a n)) ≡ n
  length_table a zero = refl
  length_table a (suc n) = ap suc (length_table (a + 1) n)

  -- at an index within the count stands that entry
  pub entry_table : (a n i : ℕ) → i < n → slice_get (map f (range_with_len a n)) i ≡ Some (f (a + i))
  entry_table a zero i within = absurd (omega arith)
  entry_table a (suc n) zero within = let e : a ≡ a + 0 = omega arith in ap (λ (k : ℕ). Some (f k)) e
  entry_table a (suc n) (suc i) within =
      let e : a + 1 + i ≡ a + suc i = omega arith in entry_table (a + 1) n i (omega arith) ∙ ap (λ (k : ℕ). Some (f k)) e

  -- and past it none
  pub no_entry_table : (a n i : ℕ) → n ≤ i → slice_get (map f (range_with_len a n)) i ≡ None
  no_entry_table a zero i past = refl
  no_entry_table a (suc n) zero past = absurd (omega arith)
  no_entry_table a (suc n) (suc i) past = no_entry_table (a + 1) n i (omega arith)

  -- the entry at an index from 0 on
  pub entry_at : (n i : ℕ) → i < n → slice_get (map f (range_with_len 0 n)) i ≡ Some (f i)
  entry_at n i within = let e : 0 + i ≡ i = omega arith in entry_table 0 n i within ∙ ap (λ (k : ℕ). Some (f k)) e

-- two tables of one count stand side by side entry by entry
pub zip_tables : {X Y : Type 0} (f : ℕ → X) (g : ℕ → Y) (a n : ℕ) →
    zip (map f (range_with_len a n)) (map g (range_with_len a n)) ≡ map (λ i. (f i, g i)) (range_with_len a n)
zip_tables f g a zero = refl
zip_tables f g a (suc n) = ap (λ l. (f a, g a) ∷ l) (zip_tables f g (a + 1) n)

-- a number of a table, by its index
pub number_in : (width count : ℕ) (bytes : List ℕ) (place i : ℕ) → i < count →
    slice_index (numbers_at width count bytes place) i ≡ number_at width bytes (place + i * width)
number_in width count bytes place i within =
    get_or-map-range_with_len (λ k. number_at width bytes (place + k * width)) 0 count i i 0 within (omega arith)

-- entry by entry a table lies in its room
pub entry_within : (place width count i room : ℕ) → i < count → place + count * width ≤ room → place + (i + 1) * width ≤ room
entry_within place width count i room within fits =
    let m : width * (i + 1) ≤ width * count = mul-le-mul_left width (omega arith) in
    omega (arith, m, mul_comm width (i + 1), mul_comm width count)
