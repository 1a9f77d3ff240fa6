-- Numbers of perf maps are read exactly from the texts that spell them.
use Rattle.std.proofs.Common.{◌≡◌, ℕ, zero, suc, ◌^◌, ◌<◌, Bool, true, false, cond, nat_lt, ◌==◌, inl, inr, List, [], ◌∷◌, length, drop, Some, None, Result, Ok, Err, Bor, option_map, refl, sym, ap, subst, ◌∙◌, arith}
use Rattle.std.specs.Prelude.{◌&&◌, IsUtf8, MatchResult}
use Rattle.std.specs.Char.{digit_value, is_digit}
use Rattle.std.specs.List.{list_all}
use Rattle.std.specs.Result.{OkIff, result_ok}
use Rattle.std.specs.Str.{IsAscii, is_utf8}
use Rattle.std.specs.Str.Parse.{AllDigits, IsNumeral, digits_value, without_leading_plus}
use Rattle.std.proofs.lemmas.Bool.{and_from, and_parts, cases_lt, eqb-true, le-ltb, lt-ltb, ltb-true, false_from_ne_true}
use Rattle.std.proofs.lemmas.Option.{cond_some, none-some}
use Rattle.std.proofs.lemmas.Str.{IsUtf8-from_ascii, IsUtf8-from_is_utf8, is_utf8-from_IsUtf8}
use Rattle.bz_proc.specs.PerfLine.{IsPerfNumber, are_number, number_of, perf_number, utf8_in}

-- digits that pass are digits
all_digits : (digits : List ℕ) → list_all (λ b. is_digit b 16) digits ≡ true → AllDigits 16 digits
all_digits [] all = tt
all_digits (c ∷ digits) all =
    let parts = and_parts (is_digit c 16) (list_all (λ b. is_digit b 16) digits) all in
    (ltb-true (digit_value c) 16 parts.0, all_digits digits parts.1)

-- and digits pass
digits_all : (digits : List ℕ) → AllDigits 16 digits → list_all (λ b. is_digit b 16) digits ≡ true
digits_all [] are = refl
digits_all (c ∷ digits) are = and_from (is_digit c 16) (list_all (λ b. is_digit b 16) digits) (lt-ltb (digit_value c) 16 are.0) (digits_all digits are.1)

module _ (digits : List ℕ) where
  abbrev all_pass : Bool
  all_pass = list_all (λ b. is_digit b 16) digits

  abbrev fits : Bool
  fits = nat_lt (digits_value 16 digits) (2 ^ 64)

  pub is_number : are_number digits ≡ true → IsNumeral 16 digits × (digits_value 16 digits < 2 ^ 64)
  is_number is =
      let parts = and_parts (nat_lt 0 (length digits)) (all_pass && fits) is in
      let later = and_parts all_pass fits parts.1 in
      ((ltb-true 0 (length digits) parts.0, all_digits digits later.0), ltb-true (digits_value 16 digits) (2 ^ 64) later.1)

  pub number_is : IsNumeral 16 digits → digits_value 16 digits < 2 ^ 64 → are_number digits ≡ true
  number_is are below =
      and_from (nat_lt 0 (length digits)) (all_pass && fits) (lt-ltb 0 (length digits) are.0)
      (and_from all_pass fits (digits_all digits are.1) (lt-ltb (digits_value 16 digits) (2 ^ 64) below))

  -- what the standard library reads of them
  pub number_read : {E : Type 0} (r : Result ℕ E) → OkIff r (IsNumeral 16 digits × (digits_value 16 digits < 2 ^ 64)) (digits_value 16 digits) →
      result_ok r ≡ number_of digits
  number_read (Ok x) is = rw (number_is is.0.0 is.0.1) (ap Some is.1)
  number_read (Err e) not = by (are_number digits) refl where
    by : (b : Bool) → are_number digits ≡ b → None ≡ number_of digits
    by true is = absurd (not (is_number is))
    by false is = rw is refl

-- a digit is a byte of ASCII
digit_below : (c : ℕ) → digit_value c < 16 → c < 128
digit_below c small = elim (cases_lt c 128) [
  | inl below ↦ below
  | inr above ↦
      let none : digit_value c ≡ 36 = rw (le-ltb c 48 (omega arith), le-ltb c 58 (omega arith), le-ltb c 65 (omega arith), le-ltb c 91 (omega arith), le-ltb c 97 (omega arith), le-ltb c 123 (omega arith)) refl in
      absurd (omega arith)
]

pub digits_ascii : (digits : List ℕ) → AllDigits 16 digits → IsAscii digits
digits_ascii [] are i = omega arith
digits_ascii (c ∷ digits) are zero = digit_below c are.0
digits_ascii (c ∷ digits) are (suc i) = digits_ascii digits are.1 i

-- a number's text is one of ASCII
number_ascii : (text : List ℕ) → AllDigits 16 (without_leading_plus text) → IsAscii text
number_ascii [] are i = omega arith
number_ascii (c ∷ text) are i = by (c == 43) refl are i where
  by : (plus : Bool) → (c == 43) ≡ plus → AllDigits 16 (drop (cond plus 1 0) (c ∷ text)) → IsAscii (c ∷ text)
  by true is digits zero = omega (arith, eqb-true c 43 is)
  by true is digits (suc i) = digits_ascii text digits i
  by false is digits i = digits_ascii (c ∷ text) digits i

-- what isn't a text is no number
pub no_number : (text : List ℕ) → ¬ (IsUtf8 text) → perf_number text ≡ None
unfolding perf_number
no_number text not = by (are_number (without_leading_plus text)) refl where
  by : (b : Bool) → are_number (without_leading_plus text) ≡ b → number_of (without_leading_plus text) ≡ None
  by true is = absurd (not (IsUtf8-from_ascii text (number_ascii text (is_number (without_leading_plus text) is).0.1)))
  by false is = rw is refl

-- a number is read as the relation says
pub number_found : (text : List ℕ) (value : ℕ) → perf_number text ≡ Some value → IsPerfNumber text value
unfolding perf_number
number_found text value read =
    let digits = without_leading_plus text in
    let parts = cond_some (are_number digits) (digits_value 16 digits) value read in
    let is = is_number digits parts.0 in
    record { digits = is.0; valued = sym parts.1; fits = subst (λ (n : ℕ). n < 2 ^ 64) parts.1 is.1 }

pub number_again : (text : List ℕ) (value : ℕ) → IsPerfNumber text value → perf_number text ≡ Some value
unfolding perf_number
number_again text value is =
    let digits = without_leading_plus text in
    rw (number_is digits is.digits (subst (λ (n : ℕ). n < 2 ^ 64) is.valued is.fits)) (ap Some (sym is.valued))

-- what is read of bytes as a text
pub utf8_read : {E : Type 0} (Q : E → Type 0) (bytes : List ℕ) (r : Result (Bor (List ℕ)) E) →
    MatchResult r (λ s. (s.now ≡ bytes) × IsUtf8 bytes) (λ e. ¬ (IsUtf8 bytes) × Q e) → option_map (λ text. text.now) (result_ok r) ≡ utf8_in bytes
utf8_read Q bytes (Ok s) is = rw (is-utf8) (ap Some is.0) where
  is-utf8 : is_utf8 bytes ≡ true
  is-utf8 = is_utf8-from_IsUtf8 bytes is.1
utf8_read Q bytes (Err e) is = rw (false_from_ne_true (is_utf8 bytes) (λ good. is.0 (IsUtf8-from_is_utf8 bytes good))) refl

-- where no text is read, the bytes are none
pub utf8_not : (bytes : List ℕ) → None ≡ utf8_in bytes → ¬ (IsUtf8 bytes)
utf8_not bytes none good =
    let some : utf8_in bytes ≡ Some bytes = rw (is_utf8-from_IsUtf8 bytes good) refl in
    none-some bytes (none ∙ some)

-- the text that is read is the bytes themselves
pub utf8_same : (bytes text : List ℕ) → Some text ≡ utf8_in bytes → (text ≡ bytes) × IsUtf8 bytes
utf8_same bytes text some =
    let parts = cond_some (is_utf8 bytes) bytes text (sym some) in
    (sym parts.1, IsUtf8-from_is_utf8 bytes parts.0)

-- a text is read as itself
pub utf8_text : (bytes : List ℕ) → IsUtf8 bytes → utf8_in bytes ≡ Some bytes
utf8_text bytes good = rw (is_utf8-from_IsUtf8 bytes good) refl
