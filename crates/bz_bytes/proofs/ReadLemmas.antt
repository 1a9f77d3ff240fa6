-- A number that is read digit by digit.
use Rattle.std.proofs.Common.{◌≡◌, ℕ, zero, suc, ◌+◌, ◌*◌, ◌-◌, ◌^◌, ◌<◌, ◌≤◌, List, [], ◌∷◌, length, take, drop, get_or, Some, None, refl, sym, ap, ◌∙◌, arith}
use Rattle.std.specs.Char.{digit_value}
use Rattle.std.specs.Str.Parse.{AllDigits, digits_value}
use Rattle.std.proofs.lemmas.Bool.{lt-ltb, le-ltb, le-leb, lt-leb}
use Rattle.std.proofs.lemmas.Int.Digits.{digits_more, digits_value_more}
use Rattle.std.proofs.lemmas.List.{length-take, take_rest}
use Rattle.bz_bytes.specs.Number.{digits_len, digits_at}
use Rattle.bz_bytes.proofs.NumberLemmas.{digits_below}

module _ (base : ℕ) where
  -- the digits end where one byte is none
  len_is : (text : List ℕ) (n : ℕ) → n ≤ length text → AllDigits base (take n text) →
      (n < length text → base ≤ digit_value (get_or text n 0)) → digits_len base text ≡ n
  len_is [] n within digits stops = omega arith
  len_is (c ∷ text) zero within digits stops = rw (le-ltb (digit_value c) base (stops (omega arith))) refl
  len_is (c ∷ text) (suc n) within digits stops =
      rw (lt-ltb (digit_value c) base digits.0)
      (omega (arith, len_is text n (omega arith) digits.1 (λ more. stops (omega arith))))

  -- a digit stands after digits
  len_more : (text : List ℕ) (n : ℕ) → n < length text → AllDigits base (take n text) →
      digit_value (get_or text n 0) < base → n < digits_len base text
  len_more [] n within digits more = absurd (omega arith)
  len_more (c ∷ text) zero within digits more = rw (lt-ltb (digit_value c) base more) (omega arith)
  len_more (c ∷ text) (suc n) within digits more =
      rw (lt-ltb (digit_value c) base digits.0)
      (omega (arith, len_more text n (omega arith) digits.1 more))

  module _ (most : ℕ) (text : List ℕ) where
    -- one to so many digits are read
    some_read : (n : ℕ) → digits_len base text ≡ n → 0 < n → n ≤ most →
        digits_at base most text ≡ Some (digits_value base (take n text), drop n text)
    unfolding digits_at
    some_read n len some few = rw (len, lt-ltb 0 n some, le-leb n most few) refl

    -- too many digits aren't
    long_read : most < digits_len base text → digits_at base most text ≡ None
    unfolding digits_at
    long_read long = rw (lt-ltb 0 (digits_len base text) (omega arith), lt-leb (digits_len base text) most long) refl

    -- the first n digits, whose value is v, spell no more than the power of the most that there may be
    pub front_small : (n v : ℕ) → 0 < base → n ≤ most → AllDigits base (take n text) → v ≡ digits_value base (take n text) → v < base ^ most
    front_small n v some few digits valued =
        let below = digits_below base (take n text) most some (omega (arith, length-take {A = ℕ})) digits in
        omega (arith, below, valued)

    -- all of the text is read
    pub whole_read : (n v : ℕ) → n ≡ length text → AllDigits base (take n text) → v ≡ digits_value base (take n text) → 0 < n → n ≤ most →
        Some (v, take (length text - n) (drop n text)) ≡ digits_at base most text
    whole_read n v whole digits valued some few =
        let len = len_is text n (omega arith) digits (λ within. absurd (omega arith)) in
        rw (valued, take_rest text n) (sym (some_read n len some few))

    -- n digits of value v have been read, and the byte at place i, whose value as a digit is d, is next
    module _ (n i d v : ℕ) (counted : n ≡ i) (within : i < length text) (digits : AllDigits base (take n text))
        (valued : v ≡ digits_value base (take n text)) (is : d ≡ digit_value (get_or text i 0)) where
      at_n : digit_value (get_or text n 0) ≡ d
      at_n = ap (λ k. digit_value (get_or text k 0)) counted ∙ sym is

      -- it is a digit too many
      pub too_many : n ≡ most → d < base → None ≡ digits_at base most text
      too_many full more =
          let long = len_more text n (omega arith) digits (rw at_n more) in
          sym (long_read (omega arith))

      -- it is a digit more
      pub more_digits : d < base → AllDigits base (take (n + 1) text)
      more_digits more = digits_more base text n (omega arith) digits (rw at_n more)

      pub more_value : v * base + d ≡ digits_value base (take (n + 1) text)
      more_value = rw (digits_value_more base text n (omega arith), at_n, valued) refl

      -- whose value fits 64 bits
      pub more_fits : d < base → n < most → 0 < base → base ^ most ≤ 2 ^ 64 → v * base + d < 2 ^ 64
      more_fits more few some fits =
          let below = front_small (n + 1) _ some (omega arith) (more_digits more) more_value in
          omega (arith, below, fits)

      -- it is no digit, so that the number ends before it
      pub stop_read : base ≤ d → 0 < n → n ≤ most → Some (v, take (length text - n) (drop n text)) ≡ digits_at base most text
      stop_read stop some few =
          let len = len_is text n (omega arith) digits (λ _. rw at_n stop) in
          rw (valued, take_rest text n) (sym (some_read n len some few))
