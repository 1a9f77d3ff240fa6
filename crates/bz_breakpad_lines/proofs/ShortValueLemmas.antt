-- The numbers that one to four digits spell, from all their bytes at once.
use Rattle.std.proofs.Common.{◌≡◌, ℕ, ◌+◌, ◌*◌, ◌/◌, ◌<◌, ◌≤◌, List, [], ◌∷◌, length, take, get_or, bit_and, refl, ◌∙◌, arith}
use Rattle.std.specs.Int.{w32, from_be_bytes}
use Rattle.std.specs.Int.Digits.{number_from_digits}
use Rattle.std.specs.Str.Parse.{digits_value}
use Rattle.std.proofs.lemmas.Nat.{and_mask}
use Rattle.bz_base.specs.Number.{digits_len}
use Rattle.bz_breakpad_lines.proofs.ValueLemmas.{IsJoined, at_front, by_each, bytes_left, dec_digit, dec_of, dec_values, hex_digit, hex_of, hex_values}

-- Neighbours are put together.

-- four decimal digits: first pairs of them
abbrev dec_pairs : ℕ → ℕ
dec_pairs v = bit_and (v + 10 * (v / 256)) 16711935

abbrev dec_joined : ℕ → ℕ
dec_joined v = bit_and (dec_pairs v + 100 * (dec_pairs v / 65536)) 65535

dec_is : (a b c d : ℕ) → a < 10 → b < 10 → c < 10 → d < 10 → (v : ℕ) → v ≡ a + 256 * (b + 256 * (c + 256 * d)) →
    dec_joined v ≡ a + 10 * (b + 10 * (c + 10 * d))
dec_is a b c d A B C D v is =
    let up : v / 256 ≡ b + 256 * (c + 256 * d) = omega (arith, A, is) in
    let p = a + 10 * b in
    let q = c + 10 * d in
    let pairs : dec_pairs v ≡ p + 65536 * q
    = bytes_left p q (b + 10 * c) d (omega (arith, A, B)) (omega (arith, C, D)) (omega (arith, B, C)) (omega (arith, D)) (v + 10 * (v / 256)) (omega (arith, is, up)) in
    let up_pairs : dec_pairs v / 65536 ≡ q = omega (arith, pairs, A, B) in
    and_mask (dec_pairs v + 100 * (dec_pairs v / 65536)) 16 ∙ omega (arith, pairs, up_pairs, A, B, C, D)

-- four hexadecimal digits: first pairs of them
abbrev hex_pairs : ℕ → ℕ
hex_pairs v = bit_and (v + v / 16) 16711935

abbrev hex_joined : ℕ → ℕ
hex_joined v = bit_and (hex_pairs v + hex_pairs v / 256) 65535

hex_is : (a b c d : ℕ) → a < 16 → b < 16 → c < 16 → d < 16 → (v : ℕ) → v ≡ a + 256 * (b + 256 * (c + 256 * d)) →
    hex_joined v ≡ a + 16 * (b + 16 * (c + 16 * d))
hex_is a b c d A B C D v is =
    let up : v / 16 ≡ 16 * (b + 256 * (c + 256 * d)) = omega (arith, A, is) in
    let p = a + 16 * b in
    let q = c + 16 * d in
    let pairs : hex_pairs v ≡ p + 65536 * q
    = bytes_left p q (b + 16 * c) d (omega (arith, A, B)) (omega (arith, C, D)) (omega (arith, B, C)) (omega (arith, D)) (v + v / 16) (omega (arith, is, up)) in
    let up_pairs : hex_pairs v / 256 ≡ 256 * q = omega (arith, pairs, A, B) in
    and_mask (hex_pairs v + hex_pairs v / 256) 16 ∙ omega (arith, pairs, up_pairs, A, B, C, D)

dec_four : (digits : List ℕ) → length digits ≡ 4 → IsJoined 10 dec_joined digits
dec_four = by_each 4 (IsJoined 10 dec_joined) (λ a b c d (A, (B, (C, (D, none)))).
    dec_is d c b a D C B A (number_from_digits 256 (a ∷ b ∷ c ∷ d ∷ [])) (omega arith) ∙ omega arith)

hex_four : (digits : List ℕ) → length digits ≡ 4 → IsJoined 16 hex_joined digits
hex_four = by_each 4 (IsJoined 16 hex_joined) (λ a b c d (A, (B, (C, (D, none)))).
    hex_is d c b a D C B A (number_from_digits 256 (a ∷ b ∷ c ∷ d ∷ [])) (omega arith) ∙ omega arith)

-- the first four
four_at : (text : List ℕ) → 4 ≤ length text → take 4 text ≡ get_or text 0 0 ∷ get_or text 1 0 ∷ get_or text 2 0 ∷ get_or text 3 0 ∷ []
four_at [] room = absurd (omega (arith, room))
four_at (a ∷ []) room = absurd (omega (arith, room))
four_at (a ∷ b ∷ []) room = absurd (omega (arith, room))
four_at (a ∷ b ∷ c ∷ []) room = absurd (omega (arith, room))
four_at (a ∷ b ∷ c ∷ d ∷ text) room = refl

-- they are the number that is loaded
pub loaded : (text : List ℕ) → 4 ≤ length text →
    from_be_bytes w32 (get_or text 0 0 ∷ get_or text 1 0 ∷ get_or text 2 0 ∷ get_or text 3 0 ∷ []) ≡ number_from_digits 256 (take 4 text)
loaded text room = rw (four_at text room) (omega arith)

-- The digits at the front of a text.

pub dec_at_front : (text : List ℕ) → 4 ≤ length text → (count : ℕ) → count ≤ 4 → digits_len 10 text ≡ count → (n : ℕ) → n ≡ number_from_digits 256 (take count text) →
    dec_joined (bit_and n 252645135) ≡ digits_value 10 (take count text)
dec_at_front = at_front 10 dec_of (omega arith) (omega arith) refl dec_digit 4 (λ n. bit_and n 252645135) dec_joined (dec_values 4) dec_four

pub hex_at_front : (text : List ℕ) → 4 ≤ length text → (count : ℕ) → count ≤ 4 → digits_len 16 text ≡ count → (n : ℕ) → n ≡ number_from_digits 256 (take count text) →
    hex_joined (bit_and n 252645135 + 9 * (bit_and n 1077952576 / 64)) ≡ digits_value 16 (take count text)
hex_at_front = at_front 16 hex_of (omega arith) (omega arith) refl hex_digit 4 (λ n. bit_and n 252645135 + 9 * (bit_and n 1077952576 / 64)) hex_joined (hex_values 4) hex_four
