-- Runs of bytes, seen by the bits of loads.
use Rattle.std.proofs.Common.{◌≡◌, ◌≢◌, ℕ, zero, suc, ◌+◌, ◌^◌, ◌%◌, ◌<◌, ◌≤◌, Bool, true, false, cond, not, List, [], ◌∷◌, map, length, take, drop, get_or, Fits, w8, refl, ap, ap₂, ◌∙◌, arith}
use Rattle.std.specs.List.{prefix_len}
use Rattle.std.proofs.lemmas.Bool.{agree_below, agree_below_at}
use Rattle.std.proofs.lemmas.List.{length-map, length-take, length-take-le}
use Rattle.std.proofs.lemmas.Simd.{map-map, mask_l-mod, leading_from_mask_l, trailing_mask_l}
use lib.Count.{count_trailing_zeros}
use lib.Lanes.{mask_l, top}

-- two tests that agree on each byte give the same bits
same_bits : (g h : ℕ → Bool) → agree_below g h 256 ≡ true → (n : ℕ) (text : List ℕ) → ((k : ℕ) → get_or text k 0 < 256) →
    map g (take n text) ≡ map h (take n text)
same_bits g h agree zero [] bytes = refl
same_bits g h agree (suc n) [] bytes = refl
same_bits g h agree zero (b ∷ text) bytes = refl
same_bits g h agree (suc n) (b ∷ text) bytes =
    ap₂ (λ bit bits. bit ∷ bits) (agree_below_at g h 256 b agree (bytes 0)) (same_bits g h agree n text (λ k. bytes (suc k)))

-- the top bits of lanes that are computed from the bytes are those of a test that agrees with them on
-- each byte
pub bits_are : (n : ℕ) (test : ℕ → Bool) (text lanes : List ℕ) → n ≤ 64 → n ≤ length text → ((k : ℕ) → Fits w8 (get_or text k 0)) →
    (lane : ℕ → ℕ) → lanes ≡ map lane (take n text) → agree_below (λ b. top 7 (lane b)) test 256 ≡ true →
    mask_l (map (top 7) lanes) % 2 ^ 64 ≡ mask_l (map test (take n text))
bits_are n test text lanes few room fits lane lanes_are agree =
    let load = take n text in
    ap (λ l. mask_l (map (top 7) l) % 2 ^ 64) lanes_are
    ∙ ap (λ l. mask_l l % 2 ^ 64) (map-map (top 7) lane load ∙ same_bits (λ b. top 7 (lane b)) test agree n text (λ k. (fits k).fits))
    ∙ mask_l-mod (map test load) 64 (omega (arith, few, length-map load test, length-take-le n text room))

module _ (p : ℕ → Bool) where
  -- a run of the bytes that don't fail is one of those that pass
  pub double_not : (text : List ℕ) → prefix_len (λ b. not (not (p b))) text ≡ prefix_len p text
  double_not [] = refl
  double_not (b ∷ text) = step (p b) (prefix_len (λ c. not (not (p c))) text) (prefix_len p text) (double_not text) where
    step : (test : Bool) (m n : ℕ) → m ≡ n → cond (not (not test)) (1 + m) 0 ≡ cond test (1 + n) 0
    step true m n same = ap (λ k. 1 + k) same
    step false m n same = refl

  -- a run in front is no longer than one in the whole
  run_in_front : (n : ℕ) (text : List ℕ) → prefix_len p (take n text) ≤ prefix_len p text
  run_in_front zero text = omega arith
  run_in_front (suc n) [] = omega arith
  run_in_front (suc n) (b ∷ text) = step (p b) (prefix_len p (take n text)) (prefix_len p text) (run_in_front n text) where
    step : (test : Bool) (m n : ℕ) → m ≤ n → cond test (1 + m) 0 ≤ cond test (1 + n) 0
    step true m n less = omega arith
    step false m n less = omega arith

  -- a run goes on behind a part of it
  pub run_goes_on : (n : ℕ) (text : List ℕ) → n ≤ prefix_len p text → prefix_len p text ≡ n + prefix_len p (drop n text)
  run_goes_on zero text within = omega arith
  run_goes_on (suc n) [] within = absurd (omega arith)
  run_goes_on (suc n) (b ∷ text) within = step (p b) (prefix_len p text) (prefix_len p (drop n text)) (run_goes_on n text) within where
    step : (test : Bool) (m l : ℕ) → (n ≤ m → m ≡ n + l) → suc n ≤ cond test (1 + m) 0 → cond test (1 + m) 0 ≡ suc n + l
    step true m l same within = omega (arith, same (omega arith))
    step false m l same within = absurd (omega arith)

  -- the first bit of a load that is set says how far a run goes on at least
  pub run_by_bits : (bits : ℕ) (text : List ℕ) → bits ≡ mask_l (map (λ b. not (p b)) (take 32 text)) → bits ≢ 0 → count_trailing_zeros 64 bits ≤ prefix_len p text
  unfolding count_trailing_zeros
  run_by_bits bits text load some =
      let fails : ℕ → Bool = λ b. not (p b) in
      omega (arith, ap (count_trailing_zeros 64) load ∙ trailing_mask_l fails 64 (take 32 text) (omega (arith, length-take 32 text)) (omega (arith, load)) ∙ double_not (take 32 text), run_in_front 32 text)

  -- and without one it goes on past the load
  pub run_by_none : (text : List ℕ) → 32 ≤ length text → mask_l (map (λ b. not (p b)) (take 32 text)) ≡ 0 → 32 ≤ prefix_len p text
  run_by_none text room none =
      let fails : ℕ → Bool = λ b. not (p b) in
      omega (arith, leading_from_mask_l fails (take 32 text) none, double_not (take 32 text), length-take-le 32 text room, run_in_front 32 text)
