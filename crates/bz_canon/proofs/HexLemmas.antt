-- The hexadecimal digits of a number, written from the last one to the first.
use Rattle.std.proofs.Common.{◌≡◌, ℕ, zero, suc, ◌+◌, ◌-◌, ◌*◌, ◌/◌, ◌%◌, ◌^◌, ◌<◌, ◌≤◌, Bool, true, false, nat_eq, nat_lt, if◌then◌else◌, List, [], ◌∷◌, ◌++◌, length, drop, set, max, refl, sym, ap, subst, ◌∙◌, arith}
use Rattle.std.specs.Fmt.{digits, digit_glyph, digits_onto}
use Rattle.std.specs.Str.{IsAscii, IsUtf8}
use Rattle.std.proofs.Math.Nat.{pow-suc, pow-le-pow_right}
use Rattle.std.proofs.lemmas.Bool.{eq-eqb, ne_eqb}
use Rattle.std.proofs.lemmas.List.{drop-drop}
use Rattle.std.proofs.lemmas.Grind.{drop-set_at}
use Rattle.std.proofs.lemmas.Nat.{pow-add}
use Rattle.std.proofs.lemmas.Str.{IsUtf8-append, IsUtf8-from_ascii}
use Rattle.std.proofs.lemmas.Str.Ascii.{IsAscii-nil, IsAscii-cons}
use Rattle.bz_canon.specs.LowDigits.{low_digits}

pub none_yet : (n : ℕ) → digits_onto 64 16 false n [] ≡ digits 16 false n
unfolding digits
none_yet n = refl

module _ (n : ℕ) (written : List ℕ) where
  one_more : (k : ℕ) (ends : Bool) → nat_eq (n / 16) 0 ≡ ends → digits_onto (suc k) 16 false n written
      ≡ (if ends then digit_glyph false (n % 16) ∷ written else digits_onto k 16 false (n / 16) (digit_glyph false (n % 16) ∷ written))
  one_more k ends is =
      ap (λ (b : Bool). if b then digit_glyph false (n % 16) ∷ written else digits_onto k 16 false (n / 16) (digit_glyph false (n % 16) ∷ written)) is

  -- the digit before those that are written is the first where nothing is left
  pub first_digit : (i : ℕ) → 0 < i → n / 16 ≡ 0 → digits_onto i 16 false n written ≡ digit_glyph false (n % 16) ∷ written
  first_digit zero some is = absurd (omega (arith, some))
  first_digit (suc k) some is = one_more k true (eq-eqb (n / 16) 0 is)

  -- and else one before others
  pub next_digit : (i : ℕ) → 0 < i → (n / 16 ≡ 0 → ⊥) →
      digits_onto i 16 false n written ≡ digits_onto (i - 1) 16 false (n / 16) (digit_glyph false (n % 16) ∷ written)
  next_digit zero some isnt = absurd (omega (arith, some))
  next_digit (suc k) some isnt =
      one_more k false (ne_eqb (n / 16) 0 isnt)
      ∙ ap (λ (j : ℕ). digits_onto j 16 false (n / 16) (digit_glyph false (n % 16) ∷ written)) {x = k} {y = suc k - 1} (omega arith)

glyph_small : (d : ℕ) → d < 16 → digit_glyph false d < 128
glyph_small d small = by (nat_lt d 10) where
  by : (b : Bool) → (if b then 48 + d else 87 + d) < 128
  by true = omega (arith, small)
  by false = omega (arith, small)

onto_ascii : (k n : ℕ) (written : List ℕ) → IsAscii written → IsAscii (digits_onto k 16 false n written)
onto_ascii zero n written ascii = ascii
onto_ascii (suc k) n written ascii =
    let more = IsAscii-cons (digit_glyph false (n % 16)) written (glyph_small (n % 16) (omega arith)) ascii in
    either (nat_eq (n / 16) 0) _ _ more (onto_ascii k (n / 16) _ more)
  where
    either : (b : Bool) (xs ys : List ℕ) → IsAscii xs → IsAscii ys → IsAscii (if b then xs else ys)
    either true xs ys x y = x
    either false xs ys x y = y

-- the digits are ASCII
hex_ascii : (n : ℕ) → IsAscii (digits 16 false n)
unfolding digits
hex_ascii n = onto_ascii 64 n [] IsAscii-nil

-- the digits before a UTF-8 text are one
pub hex_utf8 : (n : ℕ) (text : List ℕ) → IsUtf8 text → IsUtf8 (digits 16 false n ++ text)
hex_utf8 n text utf8 = IsUtf8-append (digits 16 false n) text (IsUtf8-from_ascii _ (hex_ascii n)) utf8

-- one digit more stands in front of the text
pub low_step : (k n : ℕ) (text : List ℕ) → 0 < k → low_digits k n text ≡ low_digits (k - 1) (n / 16) (digit_glyph false (n % 16) ∷ text)
unfolding low_digits
low_step zero n text some = absurd (omega (arith, some))
low_step (suc k) n text some = ap (λ (j : ℕ). low_digits j (n / 16) (digit_glyph false (n % 16) ∷ text)) {x = k} {y = suc k - 1} (omega arith)

-- a turn of the loop over the digits, which writes one before those that are written
pub low_turn : (turns turn end n rest digit : ℕ) (room text : List ℕ) → turn < turns → turns ≤ end → end ≤ length room → digit ≡ digit_glyph false (rest % 16) →
    low_digits (turns - turn) rest (drop (end - turn) room) ≡ low_digits turns n text →
    low_digits (turns - (turn + 1)) (rest / 16) (drop (end - (turn + 1)) (set room (end - 1 - turn) digit)) ≡ low_digits turns n text
low_turn turns turn end n rest digit room text more fits long is written =
    let front : drop (end - (turn + 1)) (set room (end - 1 - turn) digit) ≡ digit ∷ drop (end - 1 - turn + 1) room =
    drop-set_at room (end - 1 - turn) (end - (turn + 1)) digit (omega arith) (omega (arith, more, fits, long)) in
    let back : drop (end - 1 - turn + 1) room ≡ drop (end - turn) room =
    ap (λ (j : ℕ). drop j room) {x = end - 1 - turn + 1} {y = end - turn} (omega (arith, more, fits)) in
    let fewer : turns - (turn + 1) ≡ turns - turn - 1 = omega arith in
    let step = low_step (turns - turn) rest (drop (end - turn) room) (omega (arith, more)) in
    rw (front, back, is, fewer) (sym step ∙ written)

-- no digit is left after the last turn
pub low_done : (turns turn end n rest : ℕ) (room text : List ℕ) → turns ≡ turn →
    low_digits (turns - turn) rest (drop (end - turn) room) ≡ low_digits turns n text → drop (end - turns) room ≡ low_digits turns n text
unfolding low_digits
low_done turns turn end n rest room text all written =
    let none : turns - turn ≡ 0 = omega (arith, all) in
    ap (λ (j : ℕ). drop (end - j) room) all ∙ (rw none at written)

-- what stands behind the digits
low_drop : (k n : ℕ) (text : List ℕ) → drop k (low_digits k n text) ≡ text
unfolding low_digits
low_drop zero n text = refl
low_drop (suc k) n text =
    let deeper = low_drop k (n / 16) (digit_glyph false (n % 16) ∷ text) in
    let both = drop-drop 1 k (low_digits k (n / 16) (digit_glyph false (n % 16) ∷ text)) in
    ap (λ (j : ℕ). drop j (low_digits k (n / 16) (digit_glyph false (n % 16) ∷ text))) {x = suc k} {y = k + 1} (omega arith) ∙ sym both ∙ ap (drop 1) deeper

-- more digits are the digits in front of fewer
low_split : (few k n : ℕ) (text : List ℕ) → few ≤ k → (rest : ℕ) × (low_digits k n text ≡ low_digits (k - few) rest (low_digits few n text))
unfolding low_digits
low_split zero k n text within = (n, ap (λ (j : ℕ). low_digits j n text) {x = k} {y = k - 0} (omega arith))
low_split (suc few) zero n text within = absurd (omega (arith, within))
low_split (suc few) (suc k) n text within =
    let deeper = low_split few k (n / 16) (digit_glyph false (n % 16) ∷ text) (omega (arith, within)) in
    (deeper.0, deeper.1 ∙ ap (λ (j : ℕ). low_digits j deeper.0 (low_digits few (n / 16) (digit_glyph false (n % 16) ∷ text))) {x = k - few} {y = suc k - suc few} (omega arith))

-- the last of the digits
low_end : (few k n : ℕ) (text : List ℕ) → few ≤ k → drop (k - few) (low_digits k n text) ≡ low_digits few n text
low_end few k n text within =
    let split = low_split few k n text within in
    ap (drop (k - few)) split.1 ∙ low_drop (k - few) split.0 (low_digits few n text)

-- the digits stand before whatever follows
low_append : (k n : ℕ) (front back : List ℕ) → low_digits k n (front ++ back) ≡ low_digits k n front ++ back
unfolding low_digits
low_append zero n front back = refl
low_append (suc k) n front back = low_append k (n / 16) (digit_glyph false (n % 16) ∷ front) back

-- the digits that count are all that are written
low_onto : (more room n : ℕ) (text : List ℕ) → more < room → n < 16 ^ suc more → (0 < more → 16 ^ more ≤ n) →
    digits_onto room 16 false n text ≡ low_digits (suc more) n text
unfolding low_digits
low_onto zero room n text fits below above = first_digit n text room (omega (arith, fits)) (omega (arith, below, pow-suc 16 0))
low_onto (suc more) room n text fits below above =
    let large : 16 ^ suc more ≤ n = above (omega arith) in
    let positive : 16 ^ 0 ≤ 16 ^ more = pow-le-pow_right (omega arith) {i = 0} {j = more} (omega arith) in
    next_digit n text room (omega (arith, fits)) (λ none. omega (arith, none, large, pow-suc 16 more, positive))
    ∙ low_onto more (room - 1) (n / 16) (digit_glyph false (n % 16) ∷ text) (omega (arith, fits)) (omega (arith, below, pow-suc 16 (suc more)))
    (λ some. omega (arith, large, pow-suc 16 more))

low_all : (count n : ℕ) → 0 < count → count ≤ 64 → n < 16 ^ count → (1 < count → 16 ^ (count - 1) ≤ n) →
    digits 16 false n ≡ low_digits count n []
low_all zero n some fits below above = absurd (omega (arith, some))
low_all (suc more) n some fits below above =
    sym (none_yet n) ∙ low_onto more 64 n [] (omega (arith, fits)) below
    (λ more_than. subst (λ (j : ℕ). 16 ^ j ≤ n) {x = suc more - 1} {y = more} (omega arith) (above (omega (arith, more_than))))

low_length : (k n : ℕ) (text : List ℕ) → length (low_digits k n text) ≡ k + length text
unfolding low_digits
low_length zero n text = omega arith
low_length (suc k) n text = low_length k (n / 16) (digit_glyph false (n % 16) ∷ text) ∙ omega arith

-- so many digits count
pub hex_length : (count n : ℕ) → 0 < count → count ≤ 64 → n < 16 ^ count → (1 < count → 16 ^ (count - 1) ≤ n) → length (digits 16 false n) ≡ count
hex_length count n some fits below above = ap length (low_all count n some fits below above) ∙ low_length count n [] ∙ omega arith

-- of the digits written before a place the last are the number's
pub hex_written : (count turns end n : ℕ) (room text : List ℕ) → drop (end - turns) room ≡ low_digits turns n text →
    0 < count → count ≤ turns → turns ≤ end → turns ≤ 64 → n < 16 ^ count → (1 < count → 16 ^ (count - 1) ≤ n) →
    drop (end - count) room ≡ digits 16 false n ++ text
hex_written count turns end n room text written some short fits most below above =
    ap (λ (j : ℕ). drop j room) {x = end - count} {y = end - turns + (turns - count)} (omega (arith, short, fits))
    ∙ sym (drop-drop (turns - count) (end - turns) room)
    ∙ ap (drop (turns - count)) written
    ∙ low_end count turns n text short
    ∙ low_append count n [] text
    ∙ ap (λ (digits : List ℕ). digits ++ text) (sym (low_all count n some (omega (arith, short, most)) below above))

-- powers of sixteen are powers of two
pub hex_power : (k : ℕ) → 16 ^ k ≡ 2 ^ (4 * k)
hex_power zero = refl
hex_power (suc k) = pow-suc 16 k ∙ ap (λ (p : ℕ). p * 16) (hex_power k) ∙ sym (ap (λ (j : ℕ). 2 ^ j) {x = 4 * suc k} {y = 4 * k + 4} (omega arith) ∙ pow-add 2 (4 * k) 4)

-- The digits that a number's highest bit asks for.
module _ (bit n : ℕ) (reached : 2 ^ bit ≤ max n 1) where
  pub count_short : n < 4294967296 → bit / 4 + 1 ≤ 8
  count_short small =
      let large : 32 ≤ bit → 2 ^ 32 ≤ 2 ^ bit = λ above. pow-le-pow_right (omega arith) {i = 32} {j = bit} above in
      grind (arith, large, reached, small)

  pub count_few : n < 65536 → bit / 4 + 1 ≤ 4
  count_few small =
      let large : 16 ≤ bit → 2 ^ 16 ≤ 2 ^ bit = λ above. pow-le-pow_right (omega arith) {i = 16} {j = bit} above in
      grind (arith, large, reached, small)

  pub count_needed : 1 < bit / 4 + 1 → 16 ^ (bit / 4 + 1 - 1) ≤ n
  count_needed some =
      let lower : 2 ^ (4 * (bit / 4 + 1 - 1)) ≤ 2 ^ bit = pow-le-pow_right (omega arith) (omega arith) in
      let two : 2 ^ 1 ≤ 2 ^ bit = pow-le-pow_right (omega arith) {i = 1} {j = bit} (omega (arith, some)) in
      omega (arith, lower, two, reached, hex_power (bit / 4 + 1 - 1))

pub count_enough : (bit n : ℕ) → max n 1 < 2 * 2 ^ bit → n < 16 ^ (bit / 4 + 1)
count_enough bit n below =
    let wide : 2 ^ suc bit ≤ 2 ^ (4 * (bit / 4 + 1)) = pow-le-pow_right (omega arith) (omega arith) in
    omega (arith, wide, below, pow-suc 2 bit, hex_power (bit / 4 + 1))
