-- The numbers that a few digits spell, from all their bytes at once.
use Rattle.std.proofs.Common.{◌≡◌, ℕ, zero, suc, ◌+◌, ◌-◌, ◌*◌, ◌/◌, ◌%◌, ◌^◌, ◌<◌, ◌≤◌, true, ◌||◌, not, nat_lt, nat_eq, List, [], ◌∷◌, ◌++◌, map, length, take, drop, get_or, bit_and, length-append, refl, sym, ap, ap₂, subst, ◌∙◌, arith}
use Rattle.std.specs.Char.{digit_value}
use Rattle.std.specs.Int.Digits.{number_from_digits, number_from_digits_after}
use Rattle.std.specs.List.{AllByRecursion}
use Rattle.std.specs.Str.Parse.{AllDigits, digits_value, digits_value_after}
use Rattle.std.proofs.lemmas.Bool.{agree_below_at, lt-ltb, eqb-true}
use Rattle.std.proofs.lemmas.Int.Digits.{number_after_append}
use Rattle.std.proofs.lemmas.List.{length-drop, length-map, length-take-le}
use Rattle.std.proofs.lemmas.Nat.{and_block, and_mask}
use Rattle.std.proofs.Math.Seq.{take-add}
use Rattle.bz_base.specs.Number.{digits_len}
use Rattle.bz_base.proofs.NumberLemmas.{front_digits}
use Rattle.bz_breakpad_lines.proofs.StartLemmas.{AreBytes, bytes_past, digit_byte, first_bytes}

-- Bytes side by side, each on its own.

-- the number of so many bytes, each of which is the mask
abbrev pub masks_after : ℕ → ℕ → ℕ → ℕ
masks_after mask m zero = m
masks_after mask m (suc n) = masks_after mask (m * 256 + mask) n

-- the mask is laid on each byte of a number at once
masked : (mask : ℕ) → mask < 256 → (bytes : List ℕ) (m c : ℕ) → AreBytes bytes →
    bit_and (number_from_digits_after 256 m bytes) (masks_after mask c (length bytes)) ≡ number_from_digits_after 256 (bit_and m c) (map (λ b. bit_and b mask) bytes)
masked mask small [] m c are = refl
masked mask small (b ∷ bytes) m c are =
    masked mask small bytes (m * 256 + b) (c * 256 + mask) are.1
    ∙ ap (λ n. number_from_digits_after 256 n (map (λ b. bit_and b mask) bytes)) (and_block 8 m c b mask are.0 small)

-- what each byte gives is multiplied in the number
scaled : (k : ℕ) (f g : ℕ → ℕ) (bytes : List ℕ) (m n : ℕ) → ((b : ℕ) → b < 256 → f b ≡ k * g b) → AreBytes bytes → m ≡ k * n →
    number_from_digits_after 256 m (map f bytes) ≡ k * number_from_digits_after 256 n (map g bytes)
scaled k f g [] m n each are is = is
scaled k f g (b ∷ bytes) m n each are is =
    scaled k f g bytes (m * 256 + f b) (n * 256 + g b) each are.1 (omega (arith, each b are.0, is))

-- and added
added : (f g : ℕ → ℕ) (bytes : List ℕ) (m n : ℕ) →
    number_from_digits_after 256 m (map f bytes) + 9 * number_from_digits_after 256 n (map g bytes) ≡ number_from_digits_after 256 (m + 9 * n) (map (λ b. f b + 9 * g b) bytes)
added f g [] m n = refl
added f g (b ∷ bytes) m n =
    added f g bytes (m * 256 + f b) (n * 256 + g b)
    ∙ ap (λ k. number_from_digits_after 256 k (map (λ b. f b + 9 * g b) bytes)) (omega arith)

-- The value of a byte as a digit, which is 0 for the byte 0.

abbrev pub dec_of : ℕ → ℕ
dec_of b = bit_and b 15

abbrev letter_of : ℕ → ℕ
letter_of b = bit_and b 64 / 64

abbrev pub hex_of : ℕ → ℕ
hex_of b = bit_and b 15 + 9 * letter_of b

pub dec_digit : (b : ℕ) → digit_value b < 10 → dec_of b ≡ digit_value b
dec_digit b small =
    let agree = agree_below_at (λ c. not (nat_lt (digit_value c) 10) || nat_eq (dec_of c) (digit_value c)) (λ c. true) 256 b refl (digit_byte b (omega (arith, small))) in
    eqb-true (dec_of b) (digit_value b) (rw (lt-ltb (digit_value b) 10 small) at agree)

pub hex_digit : (b : ℕ) → digit_value b < 16 → hex_of b ≡ digit_value b
hex_digit b small =
    let agree = agree_below_at (λ c. not (nat_lt (digit_value c) 16) || nat_eq (hex_of c) (digit_value c)) (λ c. true) 256 b refl (digit_byte b small) in
    eqb-true (hex_of b) (digit_value b) (rw (lt-ltb (digit_value b) 16 small) at agree)

letter_bit : (b : ℕ) → b < 256 → bit_and b 64 ≡ 64 * letter_of b
letter_bit b small = eqb-true (bit_and b 64) (64 * letter_of b) (agree_below_at (λ c. nat_eq (bit_and c 64) (64 * letter_of c)) (λ c. true) 256 b refl small)

-- The values of so many bytes as digits.

module _ (n : ℕ) (bytes : List ℕ) (long : length bytes ≡ n) (are : AreBytes bytes) where
  -- the mask is laid on each of them
  masked_bytes : (mask : ℕ) → mask < 256 → bit_and (number_from_digits 256 bytes) (masks_after mask 0 n) ≡ number_from_digits 256 (map (λ b. bit_and b mask) bytes)
  masked_bytes mask small = ap (λ k. bit_and (number_from_digits 256 bytes) (masks_after mask 0 k)) (sym long) ∙ masked mask small bytes 0 0 are

  pub dec_values : bit_and (number_from_digits 256 bytes) (masks_after 15 0 n) ≡ number_from_digits 256 (map dec_of bytes)
  dec_values = masked_bytes 15 (omega arith)

  pub hex_values : bit_and (number_from_digits 256 bytes) (masks_after 15 0 n) + 9 * (bit_and (number_from_digits 256 bytes) (masks_after 64 0 n) / 64)
      ≡ number_from_digits 256 (map hex_of bytes)
  hex_values =
      let high = masked_bytes 64 (omega arith) ∙ scaled 64 (λ b. bit_and b 64) letter_of bytes 0 0 letter_bit are refl in
      let letters : bit_and (number_from_digits 256 bytes) (masks_after 64 0 n) / 64 ≡ number_from_digits 256 (map letter_of bytes) = omega (arith, high) in
      ap₂ (λ m n. m + 9 * n) dec_values letters ∙ added dec_of letter_of bytes 0 0

-- Neighbours are put together.

-- the low half of each block is left
pub low_byte : (a b r : ℕ) → r < 65536 → bit_and (a * 65536 + r) (b * 65536 + 255) ≡ bit_and a b * 65536 + r % 256
low_byte a b r small = and_block 16 a b r 255 small (omega arith) ∙ ap (λ n. bit_and a b * 65536 + n) (and_mask r 8)

-- two numbers of a byte each, with others between them
pub bytes_left : (p q w x : ℕ) → p < 256 → q < 256 → w < 256 → x < 256 → (n : ℕ) → n ≡ p + 256 * (w + 256 * (q + 256 * x)) → bit_and n 16711935 ≡ p + 65536 * q
bytes_left p q w x P Q W X n is =
    let second : bit_and (q + 256 * x) 255 ≡ q = and_mask (q + 256 * x) 8 ∙ omega (arith, Q) in
    let whole : n ≡ (q + 256 * x) * 65536 + (p + 256 * w) = is ∙ omega arith in
    ap (λ m. bit_and m 16711935) whole ∙ low_byte (q + 256 * x) 255 (p + 256 * w) (omega (arith, P, W)) ∙ omega (arith, second, P)

-- each of them is a digit of the base
abbrev AreDigits : ℕ → List ℕ → Type 0
AreDigits base digits = AllByRecursion (λ d. d < base) digits

-- put together, their bytes are the number that they spell
abbrev pub IsJoined : ℕ → (ℕ → ℕ) → List ℕ → Type 0
IsJoined base joined digits = AreDigits base digits → joined (number_from_digits 256 digits) ≡ number_from_digits base digits

-- what is so of each so many numbers is so of a list of so many
abbrev pub OfEach : ℕ → (List ℕ → Type 0) → Type 0
OfEach zero P = P []
OfEach (suc n) P = (d : ℕ) → OfEach n (λ digits. P (d ∷ digits))

pub by_each : (n : ℕ) (P : List ℕ → Type 0) → OfEach n P → (digits : List ℕ) → length digits ≡ n → P digits
by_each zero P each [] long = each
by_each zero P each (d ∷ digits) long = absurd (omega (arith, long))
by_each (suc n) P each [] long = absurd (omega (arith, long))
by_each (suc n) P each (d ∷ digits) long = by_each n (λ digits. P (d ∷ digits)) (each d) digits (omega (arith, long))

-- Zeros in front fill the digits up to so many.

abbrev zeros : ℕ → List ℕ
zeros zero = []
zeros (suc n) = 0 ∷ zeros n

length-zeros : (n : ℕ) → length (zeros n) ≡ n
length-zeros zero = refl
length-zeros (suc n) = ap suc (length-zeros n)

-- they don't change the number
after_zeros : (base n : ℕ) (digits : List ℕ) → number_from_digits base (zeros n ++ digits) ≡ number_from_digits base digits
after_zeros base zero digits = refl
after_zeros base (suc n) digits =
    let nothing : 0 * base + 0 ≡ 0 = omega arith in
    ap (λ m. number_from_digits_after base m (zeros n ++ digits)) nothing ∙ after_zeros base n digits

-- the digits of a base, where each byte gives its value as a digit
module _ (base : ℕ) (value : ℕ → ℕ) (some : 0 < base) (few : base ≤ 16) (none : value 0 ≡ 0) (each : (b : ℕ) → digit_value b < base → value b ≡ digit_value b) where
  are_bytes : (n : ℕ) (digits : List ℕ) → AllDigits base digits → AreBytes (zeros n ++ digits)
  are_bytes zero [] are = tt
  are_bytes zero (d ∷ digits) are = (digit_byte d (omega (arith, are.0, few)), are_bytes zero digits are.1)
  are_bytes (suc n) digits are = (omega arith, are_bytes n digits are)

  are_digits : (n : ℕ) (digits : List ℕ) → AllDigits base digits → AreDigits base (map value (zeros n ++ digits))
  are_digits zero [] are = tt
  are_digits zero (d ∷ digits) are = (omega (arith, each d are.0, are.0), are_digits zero digits are.1)
  are_digits (suc n) digits are = (omega (arith, none, some), are_digits n digits are)

  -- the values after a number are the digits after it
  values_after : (digits : List ℕ) (m : ℕ) → AllDigits base digits → number_from_digits_after base m (map value digits) ≡ digits_value_after base m digits
  values_after [] m are = refl
  values_after (d ∷ digits) m are = values_after digits (m * base + value d) are.1 ∙ ap (λ v. digits_value_after base (m * base + v) digits) (each d are.0)

  values_are : (n : ℕ) (digits : List ℕ) → AllDigits base digits → number_from_digits base (map value (zeros n ++ digits)) ≡ digits_value base digits
  values_are zero digits are = values_after digits 0 are
  values_are (suc n) digits are =
      let nothing : 0 * base + value 0 ≡ 0 = omega (arith, none) in
      ap (λ m. number_from_digits_after base m (map value (zeros n ++ digits))) nothing ∙ values_are n digits are

  -- the values of so many bytes at once, and how so many digits are put together
  module _ (n : ℕ) (values joined : ℕ → ℕ)
      (valued : (bytes : List ℕ) → length bytes ≡ n → AreBytes bytes → values (number_from_digits 256 bytes) ≡ number_from_digits 256 (map value bytes))
      (joins : (digits : List ℕ) → length digits ≡ n → IsJoined base joined digits) where
    -- the number that at most so many digits spell
    number : (digits : List ℕ) → length digits ≤ n → AllDigits base digits → joined (values (number_from_digits 256 digits)) ≡ digits_value base digits
    number digits short are =
        let k = n - length digits in
        let filled = zeros k ++ digits in
        let long : length filled ≡ n = length-append (zeros k) digits ∙ omega (arith, short, length-zeros k) in
        ap (λ m. joined (values m)) (sym (after_zeros 256 k digits))
        ∙ ap joined (valued filled long (are_bytes k digits are))
        ∙ joins (map value filled) (length-map filled value ∙ long) (are_digits k digits are)
        ∙ values_are k digits are

    -- the digits at the front of a text
    pub at_front : (text : List ℕ) → n ≤ length text → (count : ℕ) → count ≤ n → digits_len base text ≡ count → (m : ℕ) → m ≡ number_from_digits 256 (take count text) →
        joined (values m) ≡ digits_value base (take count text)
    at_front text room count few len m is =
        ap (λ m. joined (values m)) is
        ∙ number (take count text) (omega (arith, few, room, length-take-le count text (omega (arith, few, room)))) (subst (λ c. AllDigits base (take c text)) len (front_digits base text))

-- the bytes before the last ones of a load of so many
pub front_number : (text : List ℕ) (size : ℕ) → size ≤ length text → (count : ℕ) → count ≤ size → ((k : ℕ) → get_or text k 0 < 256) →
    (load : ℕ) → load ≡ number_from_digits 256 (take size text) → load / 2 ^ (8 * size - 8 * count) ≡ number_from_digits 256 (take count text)
front_number text size room count few small load is =
    let back = take (size - count) (drop count text) in
    let parts : size ≡ count + (size - count) = omega (arith, few) in
    let split : take size text ≡ take count text ++ back = ap (λ n. take n text) parts ∙ take-add count (size - count) text in
    let front = number_from_digits 256 (take count text) in
    let whole : load ≡ number_from_digits_after 256 front back = is ∙ ap (number_from_digits 256) split ∙ number_after_append 256 0 (take count text) back in
    let long : 8 * size - 8 * count ≡ 8 * length back
    = omega (arith, few, room, length-take-le (size - count) (drop count text) (omega (arith, length-drop count text, room))) in
    ap₂ (λ n k. n / 2 ^ k) whole long ∙ first_bytes back front (bytes_past count (size - count) text small)
