-- Where fields end, by the bits of one load: the lowest bit is that of the byte behind a field,
-- and without it those of the bytes after that one are left.
use Rattle.std.proofs.Common.{◌≡◌, ℕ, zero, suc, ◌+◌, ◌-◌, ◌*◌, ◌/◌, ◌%◌, ◌^◌, ◌<◌, ◌≤◌, Bool, true, false, not, List, [], ◌∷◌, map, length, take, drop, bit_and, refl, sym, ap, ap₂, ◌∙◌, arith, inl, inr, length-drop, add-zero, pow-add, pow-suc, pow_pos, suc-add}
use Rattle.std.specs.List.{prefix_len}
use Rattle.std.proofs.lemmas.Bool.{cases_lt}
use Rattle.std.proofs.lemmas.List.{drop-drop, length-take-le}
use Rattle.std.proofs.lemmas.Nat.{and_block, and_mask}
use Rattle.std.proofs.lemmas.Simd.{trailing_mask_l}
use Rattle.std.proofs.Math.Nat.{mod_self, mul_assoc, mul_comm}
use lib.Bits.{and_self}
use lib.Count.{count_trailing_zeros, trailing_of_zero, under}
use lib.Lanes.{mask_l}
use Rattle.bz_base.proofs.LoadLemmas.{double_not}
use Rattle.bz_breakpad_lines.specs.Byte.{is_past_space}
use Rattle.bz_breakpad_lines.specs.Stops.{AreFieldStops, IsField}
use Rattle.bz_breakpad_lines.proofs.LaneLemmas.{front_from, run_ends, run_in_front}

-- a power more
doubled : (n m : ℕ) → 2 ^ suc n * m ≡ 2 * (2 ^ n * m)
doubled n m = ap (λ p. p * m) (pow-suc 2 n ∙ mul_comm (2 ^ n) 2) ∙ mul_assoc 2 (2 ^ n) m

-- bits that are moved up have as many zeros more below them
zeros_below : (from k m : ℕ) → count_trailing_zeros (from + k) (2 ^ from * m) ≡ from + count_trailing_zeros k m
unfolding count_trailing_zeros
zeros_below zero k m =
    let none : 0 + k ≡ k = omega arith in
    let one : 2 ^ 0 * m ≡ m = omega arith in
    ap₂ count_trailing_zeros none one ∙ omega arith
zeros_below (suc from) k m =
    let n = 2 ^ from * m in
    let even : 2 * n % 2 ≡ 0 = omega arith in
    let half : 2 * n / 2 ≡ n = omega arith in
    ap₂ count_trailing_zeros (suc-add from k) (doubled from m)
    ∙ ap₂ (λ d h. under d (count_trailing_zeros (from + k) h)) even half
    ∙ ap suc (zeros_below from k m) ∙ omega arith

-- a number is its lowest bit and the bits above it
lowest_out : (p : ℕ → Bool) (text : List ℕ) → 0 < mask_l (map (λ b. not (p b)) text) →
    mask_l (map (λ b. not (p b)) text) ≡ 2 ^ prefix_len p text * (1 + 2 * mask_l (map (λ b. not (p b)) (drop (suc (prefix_len p text)) text)))
lowest_out p [] some = absurd (omega arith)
lowest_out p (b ∷ text) some = by (p b) refl some (lowest_out p text) where
  fails : ℕ → Bool
  fails c = not (p c)

  by : (test : Bool) → p b ≡ test → 0 < mask_l (map (λ c. not (p c)) (b ∷ text)) →
      (0 < mask_l (map (λ c. not (p c)) text) →
      mask_l (map (λ c. not (p c)) text) ≡ 2 ^ prefix_len p text * (1 + 2 * mask_l (map (λ c. not (p c)) (drop (suc (prefix_len p text)) text)))) →
      mask_l (map (λ c. not (p c)) (b ∷ text)) ≡ 2 ^ prefix_len p (b ∷ text) * (1 + 2 * mask_l (map (λ c. not (p c)) (drop (suc (prefix_len p (b ∷ text))) (b ∷ text))))
  by true is some rest =
      let n = prefix_len p text in
      let more : 1 + n ≡ suc n = omega arith in
      let above = 1 + 2 * mask_l (map (λ c. not (p c)) (drop (suc n) text)) in
      let left : 0 < mask_l (map (λ c. not (p c)) text) = omega (arith, rw is at some) in
      rw (is, more) (omega (arith, rest left, doubled n above))
  by false is some rest = rw is (omega arith)

-- the lowest bit is taken away
lowest_away : (t m : ℕ) → bit_and (2 ^ t * (1 + 2 * m)) (2 ^ t * (1 + 2 * m) - 1) ≡ 2 ^ suc t * m
lowest_away t m =
    let p = 2 ^ t in
    let some : 0 < p = pow_pos t in
    let up : 2 ^ suc t ≡ 2 * p = pow-suc 2 t ∙ mul_comm p 2 in
    let twice : 2 * p * m ≡ m * 2 ^ suc t = mul_comm (2 * p) m ∙ ap (λ q. m * q) (sym up) in
    let spread : p * (1 + 2 * m) ≡ 2 * p * m + p = omega arith in
    let whole : p * (1 + 2 * m) ≡ m * 2 ^ suc t + p = omega (arith, spread, twice) in
    let less : p * (1 + 2 * m) - 1 ≡ m * 2 ^ suc t + (p - 1) = omega (arith, whole, some) in
    let apart : bit_and p (p - 1) ≡ 0 = and_mask p t ∙ mod_self p in
    ap₂ bit_and whole less
    ∙ and_block (suc t) m m p (p - 1) (omega (arith, up, some)) (omega (arith, up, some))
    ∙ ap₂ (λ a r. a * 2 ^ suc t + r) (and_self m) apart
    ∙ add-zero (m * 2 ^ suc t) ∙ mul_comm m (2 ^ suc t)

-- where the lowest bit is one of these, there is one
pub some_set : (stops from : ℕ) → from < 56 → count_trailing_zeros 64 stops ≤ from + 8 → 0 < stops
some_set stops from low few =
    elim (cases_lt 0 stops) [
      | inl some ↦ some
      | inr none ↦ absurd (
          let nothing : stops ≡ 0 = omega (arith, none) in
          let all : count_trailing_zeros 64 stops ≡ 64 = ap (count_trailing_zeros 64) nothing ∙ trailing_of_zero 64 in
          omega (arith, all, low, few))
    ]

module _ (text : List ℕ) (from stops : ℕ) (low : from < 56) (found : from < count_trailing_zeros 64 stops) (few : count_trailing_zeros 64 stops ≤ from + 8) (are : AreFieldStops text from stops) where
  abbrev left : List ℕ
  left = drop from (take are.shown text)

  abbrev bits : ℕ
  bits = mask_l (map (λ b. not (is_past_space b)) left)

  abbrev run : ℕ
  run = prefix_len is_past_space left

  some_bits : 0 < bits
  some_bits =
      elim (cases_lt 0 bits) [
        | inl some ↦ some
        | inr none ↦ absurd (
            let no_bits : bits ≡ 0 = omega (arith, none) in
            let nothing : stops ≡ 0 = are.are ∙ ap (λ m. 2 ^ from * m) no_bits ∙ omega arith in
            omega (arith, some_set stops from low few, nothing))
      ]

  long : length left ≡ are.shown - from
  long = length-drop from (take are.shown text) ∙ omega (arith, length-take-le are.shown text are.within)

  -- the lowest bit is that of the byte behind the run
  stop_is : count_trailing_zeros 64 stops ≡ from + run
  stop_is =
      let parts : 64 ≡ from + (64 - from) = omega (arith, low) in
      ap₂ count_trailing_zeros parts are.are
      ∙ zeros_below from (64 - from) bits
      ∙ ap (λ n. from + n)
      (trailing_mask_l (λ b. not (is_past_space b)) (64 - from) left (omega (arith, long, are.few)) some_bits ∙ double_not is_past_space left)

  pub field_is : IsField text from (count_trailing_zeros 64 stops)
  field_is =
      let n = are.shown - from in
      let tail = drop from text in
      let front : left ≡ take n tail = front_from from are.shown text in
      let below : run < length left = run_ends is_past_space left some_bits in
      let within : n ≤ length tail = omega (arith, are.within, length-drop from text) in
      let inside : prefix_len is_past_space (take n tail) < n = omega (arith, below, long, ap (prefix_len is_past_space) front) in
      let same : prefix_len is_past_space tail ≡ run = run_in_front is_past_space n tail within inside ∙ ap (prefix_len is_past_space) (sym front) in
      (found, few, omega (arith, stop_is, below, long, are.within), omega (arith, same, stop_is))

  -- and the others are those of the bytes after it
  pub later_are : AreFieldStops text (count_trailing_zeros 64 stops + 1) (bit_and stops (stops - 1))
  later_are =
      let above = mask_l (map (λ b. not (is_past_space b)) (drop (suc run) left)) in
      let out : bits ≡ 2 ^ run * (1 + 2 * above) = lowest_out is_past_space left some_bits in
      let at = count_trailing_zeros 64 stops in
      let up : 2 ^ at ≡ 2 ^ from * 2 ^ run = ap (λ n. 2 ^ n) stop_is ∙ pow-add 2 from run in
      let whole : stops ≡ 2 ^ at * (1 + 2 * above)
      = are.are ∙ ap (λ m. 2 ^ from * m) out ∙ sym (mul_assoc (2 ^ from) (2 ^ run) (1 + 2 * above)) ∙ ap (λ p. p * (1 + 2 * above)) (sym up) in
      let place : from + suc run ≡ at + 1 = omega (arith, stop_is) in
      let rest : drop (suc run) left ≡ drop (at + 1) (take are.shown text) = drop-drop (suc run) from (take are.shown text) ∙ ap (λ n. drop n (take are.shown text)) place in
      let one_more : suc at ≡ at + 1 = omega arith in
      record {
        shown = are.shown;
        within = are.within;
        few = are.few;
        are = ap (λ n. bit_and n (n - 1)) whole ∙ lowest_away at above
            ∙ ap₂ (λ n bytes. 2 ^ n * mask_l (map (λ b. not (is_past_space b)) bytes)) one_more rest;
      }

-- the bits of a load are those from its front on
pub first_stops : (text : List ℕ) (stops : ℕ) → 32 ≤ length text → stops ≡ mask_l (map (λ b. not (is_past_space b)) (take 32 text)) → AreFieldStops text 0 stops
first_stops text stops room are = record {
  shown = 32;
  within = room;
  few = omega arith;
  are = are ∙ omega arith;
}
