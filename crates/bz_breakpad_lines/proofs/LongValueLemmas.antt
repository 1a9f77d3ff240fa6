-- The numbers that one to eight digits spell, from all their bytes at once.
use Rattle.std.proofs.Common.{◌≡◌, ℕ, ◌+◌, ◌*◌, ◌/◌, ◌%◌, ◌<◌, ◌≤◌, List, [], ◌∷◌, length, take, bit_and, refl, ap, ◌∙◌, arith}
use Rattle.std.specs.Int.Digits.{number_from_digits}
use Rattle.std.specs.Str.Parse.{digits_value}
use Rattle.std.proofs.lemmas.Nat.{and_block, and_mask}
use Rattle.bz_base.specs.Number.{digits_len}
use Rattle.bz_breakpad_lines.proofs.ValueLemmas.{IsJoined, at_front, by_each, bytes_left, dec_digit, dec_of, dec_values, hex_digit, hex_of, hex_values, low_byte}

-- Neighbours are put together.

-- the low half of each block is left
low_half : (a b r : ℕ) → r < 4294967296 → bit_and (a * 4294967296 + r) (b * 4294967296 + 65535) ≡ bit_and a b * 4294967296 + r % 65536
low_half a b r small = and_block 32 a b r 65535 small (omega arith) ∙ ap (λ n. bit_and a b * 4294967296 + n) (and_mask r 16)

-- four numbers of a byte each, with others between them
four_left : (p q r s w x y z : ℕ) → p < 256 → q < 256 → r < 256 → s < 256 → w < 256 → x < 256 → y < 256 → z < 256 → (n : ℕ) →
    n ≡ p + 256 * (w + 256 * (q + 256 * (x + 256 * (r + 256 * (y + 256 * (s + 256 * z)))))) →
    bit_and n 71777214294589695 ≡ p + 65536 * (q + 65536 * (r + 65536 * s))
four_left p q r s w x y z P Q R S W X Y Z n is =
    let third : bit_and ((s + 256 * z) * 65536 + (r + 256 * y)) 16711935 ≡ r + 65536 * s = bytes_left r s y z R S Y Z ((s + 256 * z) * 65536 + (r + 256 * y)) (omega arith) in
    let second : bit_and (((s + 256 * z) * 65536 + (r + 256 * y)) * 65536 + (q + 256 * x)) 1095233372415 ≡ (s * 65536 + r) * 65536 + q
    = low_byte ((s + 256 * z) * 65536 + (r + 256 * y)) 16711935 (q + 256 * x) (omega (arith, Q, X)) ∙ omega (arith, third, Q) in
    let whole : n ≡ (((s + 256 * z) * 65536 + (r + 256 * y)) * 65536 + (q + 256 * x)) * 65536 + (p + 256 * w) = is ∙ omega arith in
    ap (λ m. bit_and m 71777214294589695) whole
    ∙ low_byte (((s + 256 * z) * 65536 + (r + 256 * y)) * 65536 + (q + 256 * x)) 1095233372415 (p + 256 * w) (omega (arith, P, W))
    ∙ omega (arith, second, P)

-- two numbers of two bytes each, with others between them
two_left : (p q w x : ℕ) → p < 65536 → q < 65536 → w < 65536 → x < 65536 → (n : ℕ) → n ≡ p + 65536 * (w + 65536 * (q + 65536 * x)) →
    bit_and n 281470681808895 ≡ p + 4294967296 * q
two_left p q w x P Q W X n is =
    let second : bit_and (q + 65536 * x) 65535 ≡ q = and_mask (q + 65536 * x) 16 ∙ omega (arith, Q) in
    let whole : n ≡ (q + 65536 * x) * 4294967296 + (p + 65536 * w) = is ∙ omega arith in
    ap (λ m. bit_and m 281470681808895) whole ∙ low_half (q + 65536 * x) 65535 (p + 65536 * w) (omega (arith, P, W)) ∙ omega (arith, second, P)

-- eight decimal digits: first pairs of them, then fours
abbrev dec_pairs : ℕ → ℕ
dec_pairs v = bit_and (v + 10 * (v / 256)) 71777214294589695

abbrev dec_fours : ℕ → ℕ
dec_fours v = bit_and (dec_pairs v + 100 * (dec_pairs v / 65536)) 281470681808895

abbrev dec_joined : ℕ → ℕ
dec_joined v = bit_and (dec_fours v + 10000 * (dec_fours v / 4294967296)) 4294967295

dec_is : (a b c d e f g h : ℕ) → a < 10 → b < 10 → c < 10 → d < 10 → e < 10 → f < 10 → g < 10 → h < 10 → (v : ℕ) →
    v ≡ a + 256 * (b + 256 * (c + 256 * (d + 256 * (e + 256 * (f + 256 * (g + 256 * h)))))) →
    dec_joined v ≡ a + 10 * (b + 10 * (c + 10 * (d + 10 * (e + 10 * (f + 10 * (g + 10 * h))))))
dec_is a b c d e f g h A B C D E F G H v is =
    let up : v / 256 ≡ b + 256 * (c + 256 * (d + 256 * (e + 256 * (f + 256 * (g + 256 * h))))) = omega (arith, A, is) in
    let p = a + 10 * b in
    let q = c + 10 * d in
    let r = e + 10 * f in
    let s = g + 10 * h in
    let pairs : dec_pairs v ≡ p + 65536 * (q + 65536 * (r + 65536 * s))
    = four_left p q r s (b + 10 * c) (d + 10 * e) (f + 10 * g) h (omega (arith, A, B)) (omega (arith, C, D)) (omega (arith, E, F)) (omega (arith, G, H))
    (omega (arith, B, C)) (omega (arith, D, E)) (omega (arith, F, G)) (omega (arith, H)) (v + 10 * (v / 256)) (omega (arith, is, up)) in
    let up_pairs : dec_pairs v / 65536 ≡ q + 65536 * (r + 65536 * s) = omega (arith, pairs, A, B) in
    let fours : dec_fours v ≡ (p + 100 * q) + 4294967296 * (r + 100 * s)
    = two_left (p + 100 * q) (r + 100 * s) (q + 100 * r) s (omega (arith, A, B, C, D)) (omega (arith, E, F, G, H)) (omega (arith, C, D, E, F)) (omega (arith, G, H))
    (dec_pairs v + 100 * (dec_pairs v / 65536)) (omega (arith, pairs, up_pairs)) in
    let up_fours : dec_fours v / 4294967296 ≡ r + 100 * s = omega (arith, fours, A, B, C, D) in
    and_mask (dec_fours v + 10000 * (dec_fours v / 4294967296)) 32 ∙ omega (arith, fours, up_fours, A, B, C, D, E, F, G, H)

-- eight hexadecimal digits: first pairs of them, then fours
abbrev hex_pairs : ℕ → ℕ
hex_pairs v = bit_and (v + v / 16) 71777214294589695

abbrev hex_fours : ℕ → ℕ
hex_fours v = bit_and (hex_pairs v + hex_pairs v / 256) 281470681808895

abbrev hex_joined : ℕ → ℕ
hex_joined v = bit_and (hex_fours v + hex_fours v / 65536) 4294967295

hex_is : (a b c d e f g h : ℕ) → a < 16 → b < 16 → c < 16 → d < 16 → e < 16 → f < 16 → g < 16 → h < 16 → (v : ℕ) →
    v ≡ a + 256 * (b + 256 * (c + 256 * (d + 256 * (e + 256 * (f + 256 * (g + 256 * h)))))) →
    hex_joined v ≡ a + 16 * (b + 16 * (c + 16 * (d + 16 * (e + 16 * (f + 16 * (g + 16 * h))))))
hex_is a b c d e f g h A B C D E F G H v is =
    let up : v / 16 ≡ 16 * (b + 256 * (c + 256 * (d + 256 * (e + 256 * (f + 256 * (g + 256 * h)))))) = omega (arith, A, is) in
    let p = a + 16 * b in
    let q = c + 16 * d in
    let r = e + 16 * f in
    let s = g + 16 * h in
    let pairs : hex_pairs v ≡ p + 65536 * (q + 65536 * (r + 65536 * s))
    = four_left p q r s (b + 16 * c) (d + 16 * e) (f + 16 * g) h (omega (arith, A, B)) (omega (arith, C, D)) (omega (arith, E, F)) (omega (arith, G, H))
    (omega (arith, B, C)) (omega (arith, D, E)) (omega (arith, F, G)) (omega (arith, H)) (v + v / 16) (omega (arith, is, up)) in
    let up_pairs : hex_pairs v / 256 ≡ 256 * (q + 65536 * (r + 65536 * s)) = omega (arith, pairs, A, B) in
    let fours : hex_fours v ≡ (p + 256 * q) + 4294967296 * (r + 256 * s)
    = two_left (p + 256 * q) (r + 256 * s) (q + 256 * r) s (omega (arith, A, B, C, D)) (omega (arith, E, F, G, H)) (omega (arith, C, D, E, F)) (omega (arith, G, H))
    (hex_pairs v + hex_pairs v / 256) (omega (arith, pairs, up_pairs)) in
    let up_fours : hex_fours v / 65536 ≡ 65536 * (r + 256 * s) = omega (arith, fours, A, B, C, D) in
    and_mask (hex_fours v + hex_fours v / 65536) 32 ∙ omega (arith, fours, up_fours, A, B, C, D, E, F, G, H)

dec_eight : (digits : List ℕ) → length digits ≡ 8 → IsJoined 10 dec_joined digits
dec_eight = by_each 8 (IsJoined 10 dec_joined) (λ a b c d e f g h (A, (B, (C, (D, (E, (F, (G, (H, none)))))))).
    dec_is h g f e d c b a H G F E D C B A (number_from_digits 256 (a ∷ b ∷ c ∷ d ∷ e ∷ f ∷ g ∷ h ∷ [])) (omega arith) ∙ omega arith)

hex_eight : (digits : List ℕ) → length digits ≡ 8 → IsJoined 16 hex_joined digits
hex_eight = by_each 8 (IsJoined 16 hex_joined) (λ a b c d e f g h (A, (B, (C, (D, (E, (F, (G, (H, none)))))))).
    hex_is h g f e d c b a H G F E D C B A (number_from_digits 256 (a ∷ b ∷ c ∷ d ∷ e ∷ f ∷ g ∷ h ∷ [])) (omega arith) ∙ omega arith)

-- The digits at the front of a text.

pub dec_at_front : (text : List ℕ) → 8 ≤ length text → (count : ℕ) → count ≤ 8 → digits_len 10 text ≡ count → (n : ℕ) → n ≡ number_from_digits 256 (take count text) →
    dec_joined (bit_and n 1085102592571150095) ≡ digits_value 10 (take count text)
dec_at_front = at_front 10 dec_of (omega arith) (omega arith) refl dec_digit 8 (λ n. bit_and n 1085102592571150095) dec_joined (dec_values 8) dec_eight

pub hex_at_front : (text : List ℕ) → 8 ≤ length text → (count : ℕ) → count ≤ 8 → digits_len 16 text ≡ count → (n : ℕ) → n ≡ number_from_digits 256 (take count text) →
    hex_joined (bit_and n 1085102592571150095 + 9 * (bit_and n 4629771061636907072 / 64)) ≡ digits_value 16 (take count text)
hex_at_front = at_front 16 hex_of (omega arith) (omega arith) refl hex_digit 8 (λ n. bit_and n 1085102592571150095 + 9 * (bit_and n 4629771061636907072 / 64)) hex_joined (hex_values 8) hex_eight
