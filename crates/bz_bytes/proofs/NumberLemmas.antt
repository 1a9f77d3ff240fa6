-- Numbers are read exactly from the texts that spell them.
use Rattle.std.proofs.Common.{◌≡◌, ℕ, suc, ◌+◌, ◌^◌, ◌<◌, ◌≤◌, false, ◌&&◌, List, [], ◌∷◌, ◌++◌, length, take, drop, Option, Some, None, nat_lt, nat_le, refl, sym, ap, subst, ◌∙◌, arith, append-nil}
use Rattle.std.specs.Char.{is_digit, digit_value}
use Rattle.std.specs.Option.{option_and_then}
use Rattle.std.specs.Str.Parse.{AllDigits, digits_value}
use Rattle.std.proofs.lemmas.Bool.{and_parts, ltb-true, leb-true, lt-ltb, le-leb, cond_both}
use Rattle.std.proofs.lemmas.Int.Digits.{digits_value-lt}
use Rattle.std.proofs.lemmas.List.{take-append-drop, length-take-le}
use Rattle.std.proofs.lemmas.List.Sums.{prefix_len-le-length}
use Rattle.std.proofs.lemmas.Option.{cond_some, none-some, same_Some}
use Rattle.std.proofs.Math.Nat.{pow-le-pow_right}
use Rattle.std.proofs.Math.Seq.{take-append_seam, drop-append_seam}
use Rattle.bz_bytes.specs.Byte.{begins_with}
use Rattle.bz_bytes.specs.Number.{IsNumber, IsDecimal, IsAtFront, digits_len, digits_at, not_above, decimal_at, whole}

module _ (base : ℕ) where
  -- the digits in front are digits
  pub front_digits : (text : List ℕ) → AllDigits base (take (digits_len base text) text)
  front_digits [] = tt
  front_digits (c ∷ text) =
      let more : 1 + digits_len base text ≡ suc (digits_len base text) = omega arith in
      cond_both (is_digit c base) (1 + digits_len base text) 0 (λ n. AllDigits base (take n (c ∷ text)))
      (λ digit. rw more (ltb-true (digit_value c) base digit, front_digits text)) (λ other. tt)

  -- no digit stands after them
  digits_end : (text : List ℕ) → begins_with (λ b. is_digit b base) (drop (digits_len base text) text) ≡ false
  digits_end [] = refl
  digits_end (c ∷ text) =
      let more : 1 + digits_len base text ≡ suc (digits_len base text) = omega arith in
      cond_both (is_digit c base) (1 + digits_len base text) 0 (λ n. begins_with (λ b. is_digit b base) (drop n (c ∷ text)) ≡ false)
      (λ digit. rw more (digits_end text)) (λ other. other)

  -- digits are all that stand in front, where no digit stands after them
  digits_len-front : (digits rest : List ℕ) → AllDigits base digits → begins_with (λ b. is_digit b base) rest ≡ false →
      digits_len base (digits ++ rest) ≡ length digits
  digits_len-front [] [] all ends = refl
  digits_len-front [] (c ∷ rest) all ends = rw ends refl
  digits_len-front (c ∷ digits) rest all ends =
      rw (lt-ltb (digit_value c) base all.0) (omega (arith, digits_len-front digits rest all.1 ends))

  -- so many digits spell no more than this
  pub digits_below : (text : List ℕ) (most : ℕ) → 0 < base → length text ≤ most → AllDigits base text →
      digits_value base text < base ^ most
  digits_below text most some few digits =
      let below = digits_value-lt base text digits in
      let wide = pow-le-pow_right {n = base} some few in
      omega arith

  module _ (most : ℕ) where
    -- a number that is read stands at the front
    pub number_found : (text : List ℕ) (value : ℕ) (rest : List ℕ) → digits_at base most text ≡ Some (value, rest) →
        IsAtFront base most text value rest
    unfolding digits_at
    number_found text value rest read =
        let n = digits_len base text in
        let parts = cond_some (nat_lt 0 n && nat_le n most) (digits_value base (take n text), drop n text) (value, rest) read in
        let tests = and_parts (nat_lt 0 n) (nat_le n most) parts.0 in
        let len : length (take n text) ≡ n = length-take-le n text (prefix_len-le-length (λ b. is_digit b base) text) in
        let after : drop n text ≡ rest = ap (λ r. r.1) parts.1 in
        record {
          front = take n text;
          split = sym (take-append-drop n text) ∙ ap (λ r. take n text ++ r) after;
          number = record {
            positive = rw len (ltb-true 0 n tests.0);
            few = rw len (leb-true n most tests.1);
            digits = front_digits text;
            valued = sym (ap (λ r. r.0) parts.1);
          };
          ends = ap (begins_with (λ b. is_digit b base)) (sym after) ∙ digits_end text;
        }

    -- digits with no digit after them are read
    pub number_again : (digits rest : List ℕ) (value : ℕ) → IsNumber base most digits value →
        begins_with (λ b. is_digit b base) rest ≡ false →
        digits_at base most (digits ++ rest) ≡ Some (value, rest)
    unfolding digits_at
    number_again digits rest value is ends =
        rw (
          digits_len-front digits rest is.digits ends,
          lt-ltb 0 (length digits) is.positive,
          le-leb (length digits) most is.few,
          take-append_seam digits rest,
          drop-append_seam digits rest,
        ) (ap (λ v. Some (v, rest)) (sym is.valued))

    -- a number at the front is read
    pub front_again : (text : List ℕ) (value : ℕ) (rest : List ℕ) → IsAtFront base most text value rest →
        digits_at base most text ≡ Some (value, rest)
    front_again text value rest is = ap (digits_at base most) is.split ∙ number_again is.front rest value is.number is.ends

    -- a number with nothing after it is the whole text
    front_whole : (text : List ℕ) (value : ℕ) → IsAtFront base most text value [] → IsNumber base most text value
    front_whole text value is = let P : List ℕ → Type 0 = λ digits. IsNumber base most digits value in subst P (sym (is.split ∙ append-nil is.front)) is.number

    -- a number is at the front of itself
    whole_front : (text : List ℕ) (value : ℕ) → IsNumber base most text value → IsAtFront base most text value []
    whole_front text value is = record { front = text; split = sym (append-nil text); number = is; ends = refl }

-- a whole that is read was read at the front, with nothing after it
whole_found : (read : Option (ℕ × List ℕ)) (value : ℕ) → whole read ≡ Some value → read ≡ Some (value, [])
whole_found None value is = absurd (none-some value is)
whole_found (Some (v, [])) value is = ap (λ n. Some (n, [])) (same_Some v value is)
whole_found (Some (v, b ∷ rest)) value is = absurd (none-some value is)

-- a number that is the whole text is read, and no other text is
pub number_whole_found : (base most : ℕ) (text : List ℕ) (value : ℕ) → whole (digits_at base most text) ≡ Some value →
    IsNumber base most text value
number_whole_found base most text value read = front_whole base most text value (number_found base most text value [] (whole_found _ value read))

pub number_whole_again : (base most : ℕ) (text : List ℕ) (value : ℕ) → IsNumber base most text value →
    whole (digits_at base most text) ≡ Some value
number_whole_again base most text value is = ap whole (front_again base most text value [] (whole_front base most text value is))

-- a decimal number that is read was read, and isn't above the greatest
decimal_parts : (greatest : ℕ) (read : Option (ℕ × List ℕ)) (found : ℕ × List ℕ) →
    option_and_then (not_above greatest) read ≡ Some found →
    (read ≡ Some found) × (found.0 ≤ greatest)
decimal_parts greatest None found is = absurd (none-some found is)
decimal_parts greatest (Some r) found is =
    let parts = cond_some (nat_le r.0 greatest) r found is in
    let P : ℕ × List ℕ → Type 0 = λ x. x.0 ≤ greatest in
    (ap Some parts.1, subst P parts.1 (leb-true r.0 greatest parts.0))

-- a decimal number that is read stands at the front, and isn't above the greatest
pub decimal_found : (most greatest : ℕ) (text : List ℕ) (value : ℕ) (rest : List ℕ) →
    decimal_at most greatest text ≡ Some (value, rest) →
    IsAtFront 10 most text value rest × (value ≤ greatest)
decimal_found most greatest text value rest read =
    let parts = decimal_parts greatest (digits_at 10 most text) (value, rest) read in
    (number_found 10 most text value rest parts.0, parts.1)

-- a decimal number at the front that isn't above the greatest is read
pub decimal_again : (most greatest : ℕ) (text : List ℕ) (value : ℕ) (rest : List ℕ) → IsAtFront 10 most text value rest →
    value ≤ greatest →
    decimal_at most greatest text ≡ Some (value, rest)
decimal_again most greatest text value rest is fits = rw (front_again 10 most text value rest is, le-leb value greatest fits) refl

-- a decimal number that is the whole text is read, and no other text is
pub decimal_whole_found : (most greatest : ℕ) (text : List ℕ) (value : ℕ) →
    whole (decimal_at most greatest text) ≡ Some value → IsDecimal most greatest text value
decimal_whole_found most greatest text value read =
    let found = decimal_found most greatest text value [] (whole_found _ value read) in
    record { number = front_whole 10 most text value found.0; fits = found.1 }

pub decimal_whole_again : (most greatest : ℕ) (text : List ℕ) (value : ℕ) → IsDecimal most greatest text value →
    whole (decimal_at most greatest text) ≡ Some value
decimal_whole_again most greatest text value is = ap whole (decimal_again most greatest text value [] (whole_front 10 most text value is.number) is.fits)

-- sixteen hexadecimal digits fit 64 bits
pub hex_fits : (most : ℕ) → most ≤ 16 → 16 ^ most ≤ 2 ^ 64
hex_fits most few =
    let wide : 16 ^ most ≤ 16 ^ 16 = pow-le-pow_right {n = 16} (omega arith) few in
    omega (arith, wide)

-- and nineteen decimal ones
pub decimal_fits : (most : ℕ) → most ≤ 19 → 10 ^ most ≤ 2 ^ 64
decimal_fits most few =
    let wide : 10 ^ most ≤ 10 ^ 19 = pow-le-pow_right {n = 10} (omega arith) few in
    omega (arith, wide)
