-- What the bits of a load tell of whether a text is canonical,
-- and what loads one after another tell of the whole.
use Rattle.std.proofs.Common.{◌≡◌, ℕ, suc, ◌+◌, ◌-◌, ◌/◌, ◌<◌, ◌≤◌, Bool, true, false, cond, not, ◌&&◌, ◌||◌, nat_eq, List, [], ◌∷◌, ◌++◌, length, map, take, drop, drop-cons, min, bit_and, bit_or, slice_index, refl, sym, ap, ap₂, ◌∙◌, arith, inl, inr}
use Rattle.std.specs.Int.{bit_at}
use Rattle.std.proofs.lemmas.Bool.{cases_lt}
use Rattle.std.proofs.lemmas.List.{drop_all, get_or-drop, get_or-map, get_or-take, length-take-le, take-append-drop}
use Rattle.std.proofs.lemmas.Nat.{le_or_l, le_or_r}
use Rattle.std.proofs.lemmas.Nat.Bits.{bit_at-suc, bit_at-zero, bit_at_and}
use Rattle.std.proofs.lemmas.Simd.{bit_mask_l, none_from_empty_mask}
use lib.Lanes.{mask_l}
use Rattle.bz_base.specs.Byte.{space}
use Rattle.bz_canon.specs.CanonicalRun.{AreCanonical, is_excess, is_gap, is_lower, zero_digit}

-- A load.

module _ (text : List ℕ) (long : 32 ≤ length text) where
  -- a bit tells of its byte
  bit_tells : (test : ℕ → Bool) (bits k : ℕ) → bits ≡ mask_l (map test (take 32 text)) → k < 32 → bit_at bits k ≡ cond (test (slice_index text k)) 1 0
  bit_tells test bits k are within =
      let load = take 32 text in
      let shown : length load ≡ 32 = length-take-le 32 text long in
      ap (λ (m : ℕ). bit_at m k) are
      ∙ bit_mask_l (map test load) k
      ∙ ap (λ (b : Bool). cond b 1 0) (get_or-map test load k 0 false (omega (arith, shown, within)) ∙ ap test (get_or-take 32 text k 0 within))

  -- of three bits in the same place one is unset
  not_all : (x y z : Bool) → min (min (cond x 1 0) (cond y 1 0)) (cond z 1 0) ≡ 0 → (x && y && z) ≡ false
  not_all false y z none = refl
  not_all true false z none = refl
  not_all true true false none = refl
  not_all true true true none = absurd (omega (arith, none))

  module _ (gaps spares solids uppers : ℕ) (gaps_are : gaps ≡ mask_l (map is_gap (take 32 text))) (spares_are : spares ≡ mask_l (map (λ b. nat_eq b space || nat_eq b zero_digit) (take 32 text)))
      (solids_are : solids ≡ mask_l (map (λ b. not (is_gap b)) (take 32 text))) (uppers_are : uppers ≡ mask_l (map (λ b. not (is_lower b)) (take 32 text)))
      (none : bit_or (bit_and (bit_and gaps (spares / 2)) (solids / 4)) uppers ≡ 0) where
    abbrev excess : ℕ
    excess = bit_and (bit_and gaps (spares / 2)) (solids / 4)

    no_excess : excess ≡ 0
    no_excess = omega (arith, none, le_or_l excess uppers)

    no_uppers : mask_l (map (λ b. not (is_lower b)) (take 32 text)) ≡ 0
    no_uppers = omega (arith, none, le_or_r excess uppers, uppers_are)

    -- the bits of bytes that follow
    next_bit : (k : ℕ) → k + 2 < 32 → bit_at (spares / 2) k ≡ cond (nat_eq (slice_index text (k + 1)) space || nat_eq (slice_index text (k + 1)) zero_digit) 1 0
    next_bit k within =
        sym (bit_at-suc spares k) ∙ ap (bit_at spares) {x = suc k} {y = k + 1} (omega arith)
        ∙ bit_tells (λ b. nat_eq b space || nat_eq b zero_digit) spares (k + 1) spares_are (omega (arith, within))

    second_bit : (k : ℕ) → k + 2 < 32 → bit_at (solids / 4) k ≡ cond (not (is_gap (slice_index text (k + 2)))) 1 0
    second_bit k within =
        let twice : solids / 4 ≡ solids / 2 / 2 = omega arith in
        ap (λ (m : ℕ). bit_at m k) twice ∙ sym (bit_at-suc (solids / 2) k) ∙ sym (bit_at-suc solids (suc k)) ∙ ap (bit_at solids) {x = suc (suc k)} {y = k + 2} (omega arith)
        ∙ bit_tells (λ b. not (is_gap b)) solids (k + 2) solids_are within

    no_field : (k : ℕ) → k + 2 < 32 → is_excess (slice_index text k) (slice_index text (k + 1)) (slice_index text (k + 2)) ≡ false
    no_field k within =
        not_all (is_gap (slice_index text k)) (nat_eq (slice_index text (k + 1)) space || nat_eq (slice_index text (k + 1)) zero_digit) (not (is_gap (slice_index text (k + 2))))
        (ap₂ min (ap₂ min (sym (bit_tells is_gap gaps k gaps_are (omega (arith, within)))) (sym (next_bit k within))) (sym (second_bit k within))
        ∙ ap (λ (m : ℕ). min m (bit_at (solids / 4) k)) (sym (bit_at_and gaps (spares / 2) k))
        ∙ sym (bit_at_and (bit_and gaps (spares / 2)) (solids / 4) k)
        ∙ ap (λ (m : ℕ). bit_at m k) no_excess
        ∙ bit_at-zero k)

    no_upper : (k : ℕ) → k < 32 → is_lower (slice_index text k) ≡ true
    no_upper k within = lower (is_lower (slice_index text k)) (none_from_empty_mask (λ b. not (is_lower b)) text 0 32 0 long no_uppers k (omega arith) within) where
      lower : (b : Bool) → not b ≡ false → b ≡ true
      lower true is = refl
      lower false is = sym is

    -- so where no bit is left the bytes are canonical
    pub shown_canonical : AreCanonical text 32
    shown_canonical = record { lower = no_upper; fields = no_field }

-- Loads one after another.

module _ (text : List ℕ) (from place : ℕ) (before : 0 < place → AreCanonical text (place + 2)) (within : from ≤ place) (more : AreCanonical (drop from text) 32) where
  there : (k : ℕ) → from ≤ k → slice_index (drop from text) (k - from) ≡ slice_index text k
  there k past = get_or-drop from text (k - from) 0 ∙ ap (slice_index text) {x = from + (k - from)} {y = k} (omega (arith, past))

  -- what a load tells, and what is known before it
  pub joined : AreCanonical text (from + 32)
  joined = record { lower = lower; fields = fields } where
    lower : (k : ℕ) → k < from + 32 → is_lower (slice_index text k) ≡ true
    lower k below = elim (cases_lt k from) [
      | inl known ↦ (before (omega (arith, known, within))).lower k (omega (arith, known, within))
      | inr past ↦ ap is_lower (sym (there k past)) ∙ more.lower (k - from) (omega (arith, below, past))
    ]

    fields : (k : ℕ) → k + 2 < from + 32 → is_excess (slice_index text k) (slice_index text (k + 1)) (slice_index text (k + 2)) ≡ false
    fields k below = elim (cases_lt k from) [
      | inl known ↦ (before (omega (arith, known, within))).fields k (omega (arith, known, within))
      | inr past ↦
          let j = k - from in
          let tail = drop from text in
          let next : slice_index text (k + 1) ≡ slice_index tail (j + 1) = sym (there (k + 1) (omega (arith, past))) ∙ ap (slice_index tail) {x = k + 1 - from} {y = j + 1} (omega (arith, past)) in
          let second : slice_index text (k + 2) ≡ slice_index tail (j + 2) = sym (there (k + 2) (omega (arith, past))) ∙ ap (slice_index tail) {x = k + 2 - from} {y = j + 2} (omega (arith, past)) in
          ap (λ (a : ℕ). is_excess a (slice_index text (k + 1)) (slice_index text (k + 2))) (sym (there k past))
          ∙ ap₂ (λ (b c : ℕ). is_excess (slice_index tail j) b c) next second
          ∙ more.fields j (omega (arith, below, past))
    ]

-- a text whose last byte is known
pub ends_with : (text : List ℕ) (b : ℕ) → 0 < length text → slice_index text (length text - 1) ≡ b → text ≡ take (length text - 1) text ++ b ∷ []
ends_with text b some last =
    let k = length text - 1 in
    sym (take-append-drop k text)
    ∙ ap (λ (rest : List ℕ). take k text ++ rest) (drop-cons text k 0 (omega (arith, some)) ∙ ap₂ (λ (c : ℕ) (rest : List ℕ). c ∷ rest) last (drop_all (suc k) text (omega (arith, some))))
