-- Digits that end at known places, and the single spaces before them,
-- are read as the grammar reads them.
use Rattle.std.proofs.Common.{◌≡◌, ℕ, suc, ◌+◌, ◌-◌, ◌<◌, ◌≤◌, false, List, [], ◌∷◌, length, take, drop, Some, refl, sym, ap, ◌∙◌, arith, drop-cons, add-one}
use Rattle.std.specs.Prelude.{slice_index}
use Rattle.std.specs.Str.Parse.{digits_value}
use Rattle.std.proofs.lemmas.Bool.{lt-ltb, le-leb}
use Rattle.std.proofs.lemmas.List.{drop-drop, length-take-le}
use Rattle.std.proofs.lemmas.List.Sums.{prefix_len-le-length}
use Rattle.std.specs.Char.{is_digit}
use Rattle.bz_base.specs.Byte.{begins_with, is_blank, space}
use Rattle.bz_base.specs.Number.{digits_len, digits_at}
use Rattle.bz_base.proofs.NumberLemmas.{digits_below, front_digits}
use Rattle.bz_breakpad_lines.specs.Form.{Form, Piece, Tell, Value, greatest, told}
use Rattle.bz_breakpad_lines.specs.Form.Form.{◌·◌}
use Rattle.bz_breakpad_lines.specs.Form.Piece.{Decimal, Gap, Hex, Separator}
use Rattle.bz_breakpad_lines.specs.Reads.{piece_at, reads}
use Rattle.bz_breakpad_lines.specs.Stops.{AreDigits, number_between}
use Rattle.bz_breakpad_lines.proofs.Apart.{dec_begins, hex_begins, hex_no_blank}
use Rattle.bz_breakpad_lines.proofs.Pieces.{piece_again, piece_found}

-- the byte at a place, and what stands after it
pub byte_at : (at after : ℕ) (text : List ℕ) → at < length text → slice_index text at ≡ after → drop at text ≡ after ∷ drop (at + 1) text
byte_at at after text within is =
    drop-cons text at 0 within ∙ ap (λ b. b ∷ drop (suc at) text) is ∙ ap (λ k. after ∷ drop k text) (sym (add-one at))

module _ (text : List ℕ) (from end : ℕ) where
  past : from < end → drop (end - from) (drop from text) ≡ drop end text
  past some = drop-drop (end - from) from text ∙ ap (λ k. drop k text) (omega (arith, some))

  pub hex_read : (most wide : ℕ) → AreDigits 16 most text from end → most ≤ wide → piece_at (Hex wide) (drop from text) ≡ Some (number_between 16 text from end, drop end text)
  unfolding piece_at digits_at
  hex_read most wide are fits =
      let len : digits_len 16 (drop from text) ≡ end - from = omega (arith, are.3) in
      rw (len, lt-ltb 0 (end - from) (omega (arith, are.0)), le-leb (end - from) wide (omega (arith, are.1, fits)), past are.0) refl

  -- eight decimal digits are a number of 32 bits
  small : AreDigits 10 8 text from end → number_between 10 text from end ≤ greatest
  small are =
      let tail = drop from text in
      let n = digits_len 10 tail in
      let len : n ≡ end - from = omega (arith, are.3) in
      let long : length (take n tail) ≡ n = length-take-le n tail (prefix_len-le-length (λ b. is_digit b 10) tail) in
      let below = digits_below 10 (take n tail) 8 (omega arith) (omega (arith, long, len, are.1)) (front_digits 10 tail) in
      let fits : digits_value 10 (take n tail) ≤ greatest = omega (arith, below) in
      rw len at fits

  pub dec_read : AreDigits 10 8 text from end → piece_at Decimal (drop from text) ≡ Some (number_between 10 text from end, drop end text)
  unfolding piece_at digits_at
  dec_read are =
      let len : digits_len 10 (drop from text) ≡ end - from = omega (arith, are.3) in
      let fits = small are in
      rw (
        len,
        lt-ltb 0 (end - from) (omega (arith, are.0)),
        le-leb (end - from) 10 (omega (arith, are.1)),
        le-leb (number_between 10 text from end) greatest fits,
        past are.0,
      ) refl

  -- no blank stands before them
  pub hex_solid : (most : ℕ) → AreDigits 16 most text from end → begins_with is_blank (drop from text) ≡ false
  hex_solid most are =
      let at = piece_found (Hex most) (drop from text) (number_between 16 text from end, drop end text) (hex_read most most are (omega arith)) in
      ap (begins_with is_blank) at.2 ∙ hex_begins most (number_between 16 text from end) is_blank hex_no_blank at.0 (drop end text) at.1

  dec_solid : AreDigits 10 8 text from end → begins_with is_blank (drop from text) ≡ false
  dec_solid are =
      let at = piece_found Decimal (drop from text) (number_between 10 text from end, drop end text) (dec_read are) in
      ap (begins_with is_blank) at.2 ∙ dec_begins (number_between 10 text from end) at.0 (drop end text) at.1

  -- so nothing is passed over
  pub no_gap : AreDigits 10 8 text from end → piece_at Gap (drop from text) ≡ Some (tt, drop from text)
  no_gap are = piece_again Gap [] (drop from text) tt (record { bytes = tt; passes = refl; tells = refl }) (dec_solid are)

-- a single space before what begins with no blank
pub one_space : (text : List ℕ) (at : ℕ) → at < length text → slice_index text at ≡ space → begins_with is_blank (drop (at + 1) text) ≡ false →
    piece_at Separator (drop at text) ≡ Some (tt, drop (at + 1) text)
one_space text at within is solid =
    ap (piece_at Separator) (byte_at at space text within is)
    ∙ piece_again Separator (space ∷ []) (drop (at + 1) text) tt (record { bytes = (refl, tt); passes = refl; tells = refl }) solid

-- a piece, and then a form
pub next : (p : Piece) (f : Form) (text middle rest : List ℕ) (x : Tell p) (value : Value f) → piece_at p text ≡ Some (x, middle) → reads f middle ≡ Some (value, rest) →
    reads (p · f) text ≡ Some (told p x value, rest)
next p f text middle rest x value is others = rw (is, others) refl

-- a single space and digits, and then a form
module _ (f : Form) (text : List ℕ) (at end : ℕ) (value : Value f) (rest : List ℕ) (is : slice_index text at ≡ space) where
  pub hex_next : (wide : ℕ) → AreDigits 16 8 text (at + 1) end → 8 ≤ wide → reads f (drop end text) ≡ Some (value, rest) →
      reads (Separator · Hex wide · f) (drop at text) ≡ Some ((number_between 16 text (at + 1) end, value), rest)
  hex_next wide are fits others =
      next Separator (Hex wide · f) (drop at text) (drop (at + 1) text) rest tt _ (one_space text at (omega (arith, are.0, are.2)) is (hex_solid text (at + 1) end 8 are))
      (next (Hex wide) f (drop (at + 1) text) (drop end text) rest _ value (hex_read text (at + 1) end 8 wide are fits) others)

  pub dec_next : AreDigits 10 8 text (at + 1) end → reads f (drop end text) ≡ Some (value, rest) →
      reads (Separator · Decimal · f) (drop at text) ≡ Some ((number_between 10 text (at + 1) end, value), rest)
  dec_next are others =
      next Separator (Decimal · f) (drop at text) (drop (at + 1) text) rest tt _ (one_space text at (omega (arith, are.0, are.2)) is (dec_solid text (at + 1) end are))
      (next Decimal f (drop (at + 1) text) (drop end text) rest _ value (dec_read text (at + 1) end are) others)
