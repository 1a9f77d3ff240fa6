-- The number that a word spells is the one that it is parsed to.
use Rattle.std.proofs.Common.{◌≡◌, ℕ, ◌<◌, ◌≤◌, ◌^◌, ◌&&◌, Bool, true, false, cond, List, [], ◌∷◌, drop, length, Option, Some, None, Result, Ok, Err, nat_eq, nat_lt, nat_le, refl, sym, ap, subst, ◌∙◌, arith}
use Rattle.std.specs.Char.{is_digit, digit_value}
use Rattle.std.specs.List.{list_all}
use Rattle.std.specs.Option.{ok_or}
use Rattle.std.specs.Result.{result_ok, IfOk}
use Rattle.std.specs.Str.{IsAscii, IsUtf8, is_utf8}
use Rattle.std.specs.Str.Parse.{AllDigits, IsNumeral, ParsesUnsigned, digits_value, without_leading_plus}
use Rattle.std.proofs.lemmas.Bool.{and_parts, false_from_ne_true, lt-ltb, ltb-true, le-leb, leb-true, eqb-true}
use Rattle.std.proofs.lemmas.Option.{cond_some}
use Rattle.std.proofs.lemmas.Str.{IsUtf8-from_ascii, IsUtf8-from_is_utf8, is_utf8-from_IsUtf8}
use Rattle.std.proofs.lemmas.Str.Ascii.{IsAscii-nil, IsAscii-cons}
use Rattle.std.proofs.lemmas.Str.Parse.{digit_from_value}
use Rattle.bz_proc.specs.Status.{greatest, SpellsId, id_behind, labelled, ns_tgid_in, number_by, number_in}

-- digits pass, and what passes are digits
digits_pass : (digits : List ℕ) → AllDigits 10 digits → list_all (λ b. is_digit b 10) digits ≡ true
digits_pass [] all = refl
digits_pass (b ∷ digits) all = rw (lt-ltb (digit_value b) 10 all.0) (digits_pass digits all.1)

passed_digits : (digits : List ℕ) → list_all (λ b. is_digit b 10) digits ≡ true → AllDigits 10 digits
passed_digits [] all = tt
passed_digits (b ∷ digits) all =
    let parts = and_parts (is_digit b 10) (list_all (λ c. is_digit c 10) digits) all in
    (ltb-true (digit_value b) 10 parts.0, passed_digits digits parts.1)

-- digits are ASCII
digits_ascii : (digits : List ℕ) → AllDigits 10 digits → IsAscii digits
digits_ascii [] all = IsAscii-nil
digits_ascii (b ∷ digits) all =
    let range = digit_from_value b all.0 in
    IsAscii-cons b digits (omega (arith, range.1)) (digits_ascii digits all.1)

-- the tests of a number that is read
tests : (digits : List ℕ) →
    (nat_lt 0 (length digits) && list_all (λ b. is_digit b 10) digits && nat_le (digits_value 10 digits) greatest) ≡ true →
    IsNumeral 10 digits × (digits_value 10 digits < 2 ^ 32)
tests digits is =
    let last = and_parts (nat_lt 0 (length digits) && list_all (λ b. is_digit b 10) digits) (nat_le (digits_value 10 digits) greatest) is in
    let first = and_parts (nat_lt 0 (length digits)) (list_all (λ b. is_digit b 10) digits) last.0 in
    let small = leb-true (digits_value 10 digits) greatest last.1 in
    ((ltb-true 0 (length digits) first.0, passed_digits digits first.1), omega (arith, small))

-- a numeral of 32 bits is read
numeral_read : (digits : List ℕ) → IsNumeral 10 digits → digits_value 10 digits < 2 ^ 32 → number_by digits ≡ Some (digits_value 10 digits)
numeral_read digits is small =
    let fits : digits_value 10 digits ≤ greatest = omega (arith, small) in
    rw (lt-ltb 0 (length digits) is.0, digits_pass digits is.1, le-leb (digits_value 10 digits) greatest fits) refl

-- and nothing else is
other_read : (digits : List ℕ) → ¬ (IsNumeral 10 digits × (digits_value 10 digits < 2 ^ 32)) → number_by digits ≡ None
other_read digits other =
    rw (false_from_ne_true (nat_lt 0 (length digits) && list_all (λ b. is_digit b 10) digits && nat_le (digits_value 10 digits) greatest) (λ is. other (tests digits is))) refl

-- so what a word is parsed to is the number that it spells
pub number_parsed : {E : Type 0} (word : List ℕ) (parsed : Result ℕ E) → ParsesUnsigned 32 10 word parsed → result_ok parsed ≡ number_in word
number_parsed word (Ok value) (is, same) = ap Some same ∙ sym (numeral_read (without_leading_plus word) is.0 is.1)
number_parsed word (Err e) other = sym (other_read (without_leading_plus word) other)

-- a word that spells a number is UTF-8
number_utf8 : (word : List ℕ) → IsNumeral 10 (without_leading_plus word) → IsUtf8 word
number_utf8 [] is = IsUtf8-from_ascii [] IsAscii-nil
number_utf8 (b ∷ word) is = IsUtf8-from_ascii (b ∷ word) (by (nat_eq b 43) refl is.1)
  where
    by : (plus : Bool) → nat_eq b 43 ≡ plus → AllDigits 10 (drop (cond plus 1 0) (b ∷ word)) → IsAscii (b ∷ word)
    by true plus all = IsAscii-cons b word (omega (arith, eqb-true b 43 plus)) (digits_ascii word all)
    by false plus all = digits_ascii (b ∷ word) all

-- so another word spells none
pub number_other : (word : List ℕ) → ¬ IsUtf8 word → None ≡ number_in word
number_other word other = sym (other_read (without_leading_plus word) (λ is. other (number_utf8 word is.0)))

-- In UTF-8 the labelled line decides, and another text is refused.

pub id_utf8 : (status : List ℕ) → IsUtf8 status → ns_tgid_in status ≡ id_behind (labelled status)
id_utf8 status utf8 = rw (is_utf8-from_IsUtf8 status utf8) refl

pub id_other : (status : List ℕ) → ¬ IsUtf8 status → ns_tgid_in status ≡ None
id_other status other = rw (false_from_ne_true (is_utf8 status) (λ utf8. other (IsUtf8-from_is_utf8 status utf8))) refl

-- what is told is answered
pub told_ok : {E : Type 0} (status : List ℕ) (told : Option (Option ℕ)) (e : E) (answer : Result (Option ℕ) E) → ns_tgid_in status ≡ told → answer ≡ ok_or told e →
    IfOk answer (λ id. ns_tgid_in status ≡ Some id)
told_ok status None e answer is same = rw same tt
told_ok status (Some id) e answer is same = rw same is

-- the number that is read of a word is the one that it spells
pub spelled_found : (word : List ℕ) (id : ℕ) → number_in word ≡ Some id → SpellsId word id
spelled_found word id read = by (without_leading_plus word) refl read
  where
    by : (digits : List ℕ) → without_leading_plus word ≡ digits → number_by digits ≡ Some id → SpellsId word id
    by digits is read =
        let given = cond_some (nat_lt 0 (length digits) && list_all (λ b. is_digit b 10) digits && nat_le (digits_value 10 digits) greatest) (digits_value 10 digits) id read in
        let found = tests digits given.0 in
        let P : List ℕ → Type 0 = IsNumeral 10 in
        record {
          numeral = subst P (sym is) found.0;
          valued = sym given.1 ∙ ap (digits_value 10) (sym is);
          fits = omega (arith, found.1, given.1);
        }

-- and that number is read
pub spelled_again : (word : List ℕ) (id : ℕ) → SpellsId word id → number_in word ≡ Some id
spelled_again word id spells =
    numeral_read (without_leading_plus word) spells.numeral (omega (arith, spells.valued, spells.fits)) ∙ ap Some (sym spells.valued)
