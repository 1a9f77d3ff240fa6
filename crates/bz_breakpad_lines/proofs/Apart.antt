-- In a form that is well set, no piece goes on into what comes after it.
use Rattle.std.proofs.Common.{◌≡◌, ℕ, Bool, true, false, not, ◌&&◌, List, [], ◌∷◌, ◌++◌, inl, inr, nat_eq, refl, sym, ap, ◌∙◌, arith, append_assoc, append-nil}
use Rattle.std.specs.Char.{is_digit, digit_value}
use Rattle.std.proofs.lemmas.Bool.{and_parts, lt-ltb, eqb-true, false≢true, true≢false, not-true, not-false, false_from_ne_true}
use Rattle.bz_base.specs.Byte.{is_blank, begins_with}
use Rattle.bz_breakpad_lines.specs.Byte.{is_tab, is_solid, is_hex, is_decimal, is_word_byte}
use Rattle.bz_base.specs.Number.{IsNumber}
use Rattle.bz_breakpad_lines.specs.Form.{Piece, Form, Value, IsPiece, Spells, some_bytes}
use Rattle.bz_breakpad_lines.specs.Form.Piece.{Tag, Mark, Separator, ModuleSeparator, Gap, Word, Hex, Decimal}
use Rattle.bz_breakpad_lines.specs.Form.Form.{End, Name, SeparatorText, Many, ◌·◌}
use Rattle.bz_breakpad_lines.proofs.Bytes.{blank_no_hex, blank_no_decimal, other_way, begins_narrower, begins_either}
use Rattle.bz_breakpad_lines.proofs.Pieces.{goes_on, separator_begins}
use Rattle.bz_breakpad_lines.proofs.Turns.{no_solid}

-- what may stand after a text of the form
abbrev pub Follows : Form → List ℕ → Type 0
Follows End rest = begins_with is_solid rest ≡ false
Follows (p · f) rest = Follows f rest
Follows _ rest = rest ≡ []

-- its texts begin with a blank
abbrev pub separator_first : Form → Bool
separator_first (Separator · f) = true
separator_first (ModuleSeparator · f) = true
separator_first _ = false

-- its texts begin with a space
abbrev pub space_first : Form → Bool
space_first (ModuleSeparator · f) = true
space_first _ = false

-- its texts begin with a blank, or it ends here
abbrev pub blank_first : Form → Bool
blank_first End = true
blank_first SeparatorText = true
blank_first (Many f) = separator_first f
blank_first (Separator · f) = true
blank_first (ModuleSeparator · f) = true
blank_first _ = false

-- its texts begin with no blank
abbrev pub solid_first : Form → Bool
solid_first Name = true
solid_first (Word · f) = true
solid_first (Hex most · f) = true
solid_first (Decimal · f) = true
solid_first (Mark b · f) = not (is_blank b) && solid_first f
solid_first _ = false

-- its texts don't begin with the byte
abbrev pub hex_first : ℕ → Form → Bool
hex_first b (Hex most · f) = not (is_hex b)
hex_first b _ = false

-- it ends where the line may go on
abbrev pub closed : Form → Bool
closed End = true
closed (p · f) = closed f
closed _ = false

-- the piece may stand before the form
abbrev pub before : Piece → Form → Bool
before (Tag tag) f = true
before (Mark b) f = solid_first f && hex_first b f
before Separator f = solid_first f
before ModuleSeparator f = solid_first f
before Gap f = solid_first f
before Word f = space_first f
before (Hex most) f = blank_first f
before Decimal f = blank_first f

-- each piece may stand where it stands
abbrev pub is_set : Form → Bool
is_set (p · f) = before p f && is_set f
is_set (Many f) = separator_first f && (closed f && is_set f)
is_set _ = true

pub at_end : (f : Form) → Follows f []
at_end End = refl
at_end Name = refl
at_end SeparatorText = refl
at_end (Many f) = refl
at_end (p · f) = at_end f

pub closed_follows : (f : Form) → closed f ≡ true → (rest : List ℕ) → begins_with is_solid rest ≡ false → Follows f rest
closed_follows End is rest stops = stops
closed_follows (p · f) is rest stops = closed_follows f is rest stops
closed_follows _ is rest stops = absurd (false≢true is)

pub hex_no_blank : (b : ℕ) → is_hex b ≡ true → is_blank b ≡ false
hex_no_blank = other_way is_blank is_hex blank_no_hex

decimal_no_blank : (b : ℕ) → is_decimal b ≡ true → is_blank b ≡ false
decimal_no_blank = other_way is_blank is_decimal blank_no_decimal

-- a byte that is no digit isn't one of the digits
pub other_than : (b : ℕ) → not (is_hex b) ≡ true → (c : ℕ) → is_hex c ≡ true → nat_eq c b ≡ false
other_than b none c is = false_from_ne_true (nat_eq c b) (λ same. true≢false (sym is ∙ ap is_hex (eqb-true c b same) ∙ not-true (is_hex b) none))

-- a number begins with a digit
number_begins : (base most value : ℕ) (test : ℕ → Bool) → ((b : ℕ) → is_digit b base ≡ true → test b ≡ false) →
    (run rest : List ℕ) → IsNumber base most run value → begins_with test (run ++ rest) ≡ false
number_begins base most value test apart [] rest is = absurd (omega (arith, is.positive))
number_begins base most value test apart (b ∷ run) rest is = apart b (lt-ltb (digit_value b) base is.digits.0)

pub hex_begins : (most : ℕ) (value : ℕ) (test : ℕ → Bool) → ((b : ℕ) → is_hex b ≡ true → test b ≡ false) →
    (run rest : List ℕ) → IsPiece (Hex most) run value → begins_with test (run ++ rest) ≡ false
hex_begins most value test apart run rest is = number_begins 16 most value test apart run rest is

pub dec_begins : (value : ℕ) (run rest : List ℕ) → IsPiece Decimal run value → begins_with is_blank (run ++ rest) ≡ false
dec_begins value run rest is = number_begins 10 10 value is_blank decimal_no_blank run rest is.number

word_begins : (run rest : List ℕ) → IsPiece Word run tt → begins_with is_blank (run ++ rest) ≡ false
word_begins [] rest is = absurd (false≢true is.passes)
word_begins (b ∷ run) rest is =
    rw (not-true (nat_eq b 32) is.bytes.0, not-true (is_tab b) (and_parts (some_bytes (b ∷ run)) (not (is_tab b)) is.passes).1) refl

space_begins : (run rest : List ℕ) → IsPiece ModuleSeparator run tt → begins_with is_word_byte (run ++ rest) ≡ false
space_begins [] rest is = absurd (false≢true is.passes)
space_begins (b ∷ run) rest is = rw is.passes refl

module_separator_begins : (run rest : List ℕ) → IsPiece ModuleSeparator run tt → begins_with is_blank (run ++ rest) ≡ true
module_separator_begins [] rest is = absurd (false≢true is.passes)
module_separator_begins (b ∷ run) rest is = is.bytes.0

pub separator_front : (f : Form) → separator_first f ≡ true → (front rest : List ℕ) (value : Value f) → Spells f front value → begins_with is_blank (front ++ rest) ≡ true
separator_front (Separator · f) first front rest value is = rw (is.whole, append_assoc is.front is.back rest) (separator_begins is.front (is.back ++ rest) is.front_is)
separator_front (ModuleSeparator · f) first front rest value is = rw (is.whole, append_assoc is.front is.back rest) (module_separator_begins is.front (is.back ++ rest) is.front_is)
separator_front _ first front rest value is = absurd (false≢true first)

blank_front : (f : Form) → blank_first f ≡ true → (front rest : List ℕ) (value : Value f) → Spells f front value → Follows f rest →
    begins_with is_solid (front ++ rest) ≡ false
blank_front End first front rest value is follows = rw is follows
blank_front SeparatorText first front rest value is follows =
    no_solid (front ++ rest) (rw (is.whole, append_assoc is.separator is.more rest) (separator_begins is.separator (is.more ++ rest) is.separator_is))
blank_front (Many f) first front rest [] is follows = absurd (omega (arith, is.0))
blank_front (Many f) first front rest (v ∷ values) is follows =
    no_solid (front ++ rest) (rw (is.1.2, append_assoc is.1.0 is.1.1 rest) (separator_front f first is.1.0 (is.1.1 ++ rest) v is.1.3))
blank_front (Separator · f) first front rest value is follows = no_solid (front ++ rest) (separator_front (Separator · f) refl front rest value is)
blank_front (ModuleSeparator · f) first front rest value is follows = no_solid (front ++ rest) (separator_front (ModuleSeparator · f) refl front rest value is)
blank_front _ first front rest value is follows = absurd (false≢true first)

mark_front : (b : ℕ) (front rest : List ℕ) → not (is_blank b) ≡ true → IsPiece (Mark b) front tt → begins_with is_blank rest ≡ false → begins_with is_blank (front ++ rest) ≡ false
mark_front b front rest solid (inl none) begins = rw none begins
mark_front b front rest solid (inr is) begins = rw is.1 (not-true (is_blank b) solid)

solid_front : (f : Form) → solid_first f ≡ true → (front rest : List ℕ) (value : Value f) → Spells f front value → Follows f rest →
    begins_with is_blank (front ++ rest) ≡ false
solid_front Name first front rest value is follows = rw (follows, append-nil front) is.0.front
solid_front (Word · f) first front rest value is follows = rw (is.whole, append_assoc is.front is.back rest) (word_begins is.front (is.back ++ rest) is.front_is)
solid_front (Hex most · f) first front rest value is follows =
    rw (is.whole, append_assoc is.front is.back rest) (hex_begins most is.tells is_blank hex_no_blank is.front (is.back ++ rest) is.front_is)
solid_front (Decimal · f) first front rest value is follows =
    rw (is.whole, append_assoc is.front is.back rest) (dec_begins is.tells is.front (is.back ++ rest) is.front_is)
solid_front (Mark b · f) first front rest value is follows =
    let parts = and_parts (not (is_blank b)) (solid_first f) first in
    rw (is.whole, append_assoc is.front is.back rest) (mark_front b is.front (is.back ++ rest) parts.0 is.front_is (solid_front f parts.1 is.back rest is.others is.back_is follows))
solid_front _ first front rest value is follows = absurd (false≢true first)

space_front : (f : Form) → space_first f ≡ true → (front rest : List ℕ) (value : Value f) → Spells f front value → begins_with is_word_byte (front ++ rest) ≡ false
space_front (ModuleSeparator · f) first front rest value is = rw (is.whole, append_assoc is.front is.back rest) (space_begins is.front (is.back ++ rest) is.front_is)
space_front _ first front rest value is = absurd (false≢true first)

hex_front : (b : ℕ) (f : Form) → hex_first b f ≡ true → (front rest : List ℕ) (value : Value f) → Spells f front value → begins_with (λ c. nat_eq c b) (front ++ rest) ≡ false
hex_front b (Hex most · f) first front rest value is =
    rw (is.whole, append_assoc is.front is.back rest) (hex_begins most is.tells (λ c. nat_eq c b) (other_than b first) is.front (is.back ++ rest) is.front_is)
hex_front b _ first front rest value is = absurd (false≢true first)

solid_no_blank : (b : ℕ) → is_solid b ≡ false → is_blank b ≡ true
solid_no_blank b is = not-false (is_blank b) is

begins_never : (text : List ℕ) → begins_with (λ b. false) text ≡ false
begins_never [] = refl
begins_never (b ∷ text) = refl

-- what comes after a piece doesn't go on with it
pub apart : (p : Piece) (f : Form) → before p f ≡ true → (front rest : List ℕ) (value : Value f) → Spells f front value → Follows f rest →
    begins_with (goes_on p) (front ++ rest) ≡ false
apart (Tag tag) f sets front rest value is follows = begins_never (front ++ rest)
apart (Mark b) f sets front rest value is follows =
    let parts = and_parts (solid_first f) (hex_first b f) sets in
    begins_either is_blank (λ c. nat_eq c b) (front ++ rest) (solid_front f parts.0 front rest value is follows) (hex_front b f parts.1 front rest value is)
apart Separator f sets front rest value is follows = solid_front f sets front rest value is follows
apart ModuleSeparator f sets front rest value is follows = solid_front f sets front rest value is follows
apart Gap f sets front rest value is follows = solid_front f sets front rest value is follows
apart Word f sets front rest value is follows = space_front f sets front rest value is
apart (Hex most) f sets front rest value is follows =
    begins_narrower is_solid is_hex (λ b none. blank_no_hex b (solid_no_blank b none)) (front ++ rest) (blank_front f sets front rest value is follows)
apart Decimal f sets front rest value is follows =
    begins_narrower is_solid is_decimal (λ b none. blank_no_decimal b (solid_no_blank b none)) (front ++ rest) (blank_front f sets front rest value is follows)
