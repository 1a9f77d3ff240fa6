-- From the bits of one load to where the digits of a field end.
use Rattle.std.proofs.Common.{◌≡◌, ℕ, zero, suc, ◌+◌, ◌-◌, ◌*◌, ◌/◌, ◌^◌, ◌<◌, ◌≤◌, Bool, true, false, cond, not, List, [], ◌∷◌, map, length, take, drop, refl, sym, subst, ap, ap₂, ◌∙◌, arith, inl, inr}
use Rattle.std.specs.List.{prefix_len}
use Rattle.std.proofs.lemmas.Bool.{cases_eq, cond-false, ne_eqb}
use Rattle.std.proofs.lemmas.List.{length-drop, length-map, length-take-le, take-append-drop}
use Rattle.std.proofs.lemmas.List.Folds.{prefix_len-append}
use Rattle.std.proofs.lemmas.Nat.{shr-shr}
use Rattle.std.proofs.lemmas.Simd.{mask_l-lt, trailing_mask_l}
use Rattle.std.proofs.Math.Nat.{div-one, div-le_self, mul_assoc, mul_comm, pow-suc}
use Rattle.std.proofs.Math.Seq.{take-nil}
use lib.Count.{count_trailing_zeros}
use lib.Lanes.{mask_l}
use Rattle.bz_base.proofs.LoadLemmas.{double_not}

-- without its lowest bit
half_of : (bit : Bool) (m : ℕ) → (cond bit 1 0 + 2 * m) / 2 ≡ m
half_of true m = omega arith
half_of false m = omega arith

-- the bits from a place on
pub bits_from : (test : ℕ → Bool) (k : ℕ) (text : List ℕ) → mask_l (map test text) / 2 ^ k ≡ mask_l (map test (drop k text))
bits_from test zero text = div-one (mask_l (map test text))
bits_from test (suc k) [] = omega (arith, div-le_self 0 (2 ^ suc k))
bits_from test (suc k) (b ∷ text) =
    let m = mask_l (map test text) in
    let n : ℕ = cond (test b) 1 0 + 2 * m in
    let more : suc k ≡ 1 + k = omega arith in
    ap (λ e. n / 2 ^ e) more ∙ sym (shr-shr n 1 k) ∙ ap (λ h. h / 2 ^ k) (half_of (test b) m) ∙ bits_from test k text

-- a run that ends within the front ends there in the whole
pub run_in_front : (p : ℕ → Bool) (n : ℕ) (text : List ℕ) → n ≤ length text → prefix_len p (take n text) < n →
    prefix_len p text ≡ prefix_len p (take n text)
run_in_front p n text within ends =
    let front = take n text in
    let long : length front ≡ n = length-take-le n text within in
    sym (ap (prefix_len p) (take-append-drop n text)) ∙ prefix_len-append p front (drop n text)
    ∙ cond-false _ _ _ (ne_eqb (prefix_len p front) (length front) (λ same. omega (arith, long)))

-- where a byte fails, the run ends before the text does
pub run_ends : (p : ℕ → Bool) (text : List ℕ) → 0 < mask_l (map (λ b. not (p b)) text) → prefix_len p text < length text
run_ends p [] some = absurd (omega arith)
run_ends p (b ∷ text) some = step (p b) (mask_l (map (λ c. not (p c)) text)) (prefix_len p text) (length text) (run_ends p text) some where
  step : (test : Bool) (m n l : ℕ) → (0 < m → n < l) → 0 < cond (not test) 1 0 + 2 * m → cond test (1 + n) 0 < suc l
  step true m n l ends some = let below = ends (omega arith) in omega arith
  step false m n l ends some = omega arith

-- the bits of a front, and behind them those of what follows it
pub bits_joined : (test : ℕ → Bool) (n m : ℕ) (text : List ℕ) → n ≤ length text →
    mask_l (map test (take n text)) + 2 ^ n * mask_l (map test (take m (drop n text))) ≡ mask_l (map test (take (n + m) text))
bits_joined test zero m text within = grind arith
bits_joined test (suc n) m [] within = absurd (omega arith)
bits_joined test (suc n) m (b ∷ text) within =
    let front = mask_l (map test (take n text)) in
    let more = mask_l (map test (take m (drop n text))) in
    let next = bits_joined test n m text (omega arith) in
    let doubled : 2 ^ suc n * more ≡ 2 * (2 ^ n * more) = ap (λ p. p * more) (pow-suc 2 n ∙ mul_comm (2 ^ n) 2) ∙ mul_assoc 2 (2 ^ n) more in
    let whole : suc n + m ≡ suc (n + m) = omega arith in
    omega (arith, next, doubled, ap (λ k. mask_l (map test (take k (b ∷ text)))) whole)

-- the bits of so many bytes are a number of as many bits
pub bits_fit : (test : ℕ → Bool) (n : ℕ) (text : List ℕ) → n ≤ length text → mask_l (map test (take n text)) < 2 ^ n
bits_fit test n text within =
    let load = take n text in
    subst (λ k. mask_l (map test load) < 2 ^ k) (length-map load test ∙ length-take-le n text within) (mask_l-lt (map test load))

-- what is left of the front of a text is the front of what is left
pub front_from : (from shown : ℕ) (text : List ℕ) → drop from (take shown text) ≡ take (shown - from) (drop from text)
front_from zero shown text = let all : shown ≡ shown - 0 = omega arith in ap (λ n. take n text) all
front_from (suc from) zero text = let none : 0 ≡ 0 - suc from = omega arith in ap (λ n. take n (drop (suc from) text)) none
front_from (suc from) (suc shown) [] = sym (take-nil (suc shown - suc from))
front_from (suc from) (suc shown) (b ∷ text) =
    let less : shown - from ≡ suc shown - suc from = omega arith in
    front_from from shown text ∙ ap (λ n. take n (drop from text)) less

-- and so are the bits
pub front_bits : (test : ℕ → Bool) (bits from shown : ℕ) (text : List ℕ) → bits ≡ mask_l (map test (take shown text)) →
    bits / 2 ^ from ≡ mask_l (map test (take (shown - from) (drop from text)))
front_bits test bits from shown text are =
    ap (λ m. m / 2 ^ from) are ∙ bits_from test from (take shown text) ∙ ap (λ l. mask_l (map test l)) (front_from from shown text)

-- the bytes before the next bit are the run from a place on, and a byte that is shown ends it
pub run_by_bits : (p : ℕ → Bool) (bits from shown : ℕ) (text : List ℕ) → shown ≤ length text → shown ≤ 64 → bits ≡ mask_l (map (λ b. not (p b)) (take shown text)) →
    count_trailing_zeros 64 (bits / 2 ^ from) < 64 →
    (from + count_trailing_zeros 64 (bits / 2 ^ from) < length text) × (prefix_len p (drop from text) ≡ count_trailing_zeros 64 (bits / 2 ^ from))
unfolding count_trailing_zeros
run_by_bits p bits from shown text within few load ends =
    let fails : ℕ → Bool = λ b. not (p b) in
    let n = shown - from in
    let tail = drop from text in
    let long : length (take n tail) ≡ n = length-take-le n tail (omega (arith, within, length-drop from text)) in
    let counted = ap (count_trailing_zeros 64) (front_bits fails bits from shown text load) in
    elim (cases_eq (mask_l (map fails (take n tail))) 0) [
      | inl none ↦ absurd (let all : count_trailing_zeros 64 (bits / 2 ^ from) ≡ 64 = counted ∙ ap (count_trailing_zeros 64) none in omega arith)
      | inr some ↦
          let run = counted ∙ trailing_mask_l fails 64 (take n tail) (omega (arith, few, long)) (omega arith) ∙ double_not p (take n tail) in
          let below = run_ends p (take n tail) (omega arith) in (
            omega (arith, within, run, below, long),
            run_in_front p n tail (omega (arith, within, length-drop from text)) (omega (arith, run, below, long)) ∙ sym run,
          )
    ]

-- a failure of the failures passes
twice_not : (test : ℕ → Bool) (text : List ℕ) → map (λ b. not (not (test b))) text ≡ map test text
twice_not test [] = refl
twice_not test (b ∷ text) = ap₂ (λ bit bits. bit ∷ bits) (twice (test b)) (twice_not test text) where
  twice : (bit : Bool) → not (not bit) ≡ bit
  twice true = refl
  twice false = refl

-- the bytes before the first bit are those before the first byte that passes, which is shown
pub none_by_bits : (test : ℕ → Bool) (bits shown : ℕ) (text : List ℕ) → shown ≤ length text → shown ≤ 64 → bits ≡ mask_l (map test (take shown text)) →
    count_trailing_zeros 64 bits < 64 → (count_trailing_zeros 64 bits < length text) × (prefix_len (λ b. not (test b)) text ≡ count_trailing_zeros 64 bits)
none_by_bits test bits shown text within few load ends =
    let count : count_trailing_zeros 64 (bits / 2 ^ 0) ≡ count_trailing_zeros 64 bits = ap (count_trailing_zeros 64) (div-one bits) in
    let run = run_by_bits (λ b. not (test b)) bits 0 shown text within few (load ∙ ap mask_l (sym (twice_not test (take shown text)))) (omega (arith, count, ends)) in
    (omega (arith, run.0, count), run.1 ∙ count)
