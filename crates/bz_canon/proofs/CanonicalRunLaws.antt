-- A text of line records that is spelled canonically is the canonical text of its records.
use Rattle.std.proofs.Common.{◌≡◌, ℕ, suc, ◌+◌, ◌-◌, ◌*◌, ◌/◌, ◌%◌, ◌<◌, ◌≤◌, Bool, true, false, cond, not, ◌&&◌, ◌||◌, nat_eq, nat_lt, nat_le, List, [], ◌∷◌, ◌++◌, length, drop, flat_map, decimal, get_or, slice_index, Option, Some, None, IsSome, refl, sym, ap, ap₂, subst, ◌∙◌, arith, append_assoc, append-nil, length-append}
use Rattle.std.specs.Char.{digit_value}
use Rattle.std.specs.Fmt.{digits, digit_glyph, digits_onto}
use Rattle.std.specs.List.{AllByRecursion, cons_option, filter_map, list_any, prefix_len}
use Rattle.std.specs.Str.Parse.{AllDigits, digits_value, digits_value_after}
use Rattle.std.proofs.lemmas.Bool.{agree_below_at, and_parts, or_parts, true≢false, false≢true, not-true, lt-ltb, ltb-true, leb-true, eqb-true, eq-eqb, ne_eqb}
use Rattle.std.proofs.lemmas.Fmt.{decimal-digits_value}
use Rattle.std.proofs.lemmas.Str.Parse.{numerals_by_value, tells_digits}
use Rattle.bz_base.specs.Bind.{◌>>=◌}
use Rattle.bz_base.specs.Byte.{HasNo, begins_with, carriage_return, is_blank, line_feed, space}
use Rattle.bz_base.specs.Line.{all_lines, ended, unended}
use Rattle.bz_base.specs.Number.{IsNumber, IsDecimal}
use Rattle.bz_breakpad_lines.specs.Byte.{is_carriage_return}
use Rattle.bz_breakpad_lines.specs.Choice.{body_at}
use Rattle.bz_breakpad_lines.specs.Form.{AllPass, Form, IsSeparator, Spells, Value, greatest}
use Rattle.bz_breakpad_lines.specs.Form.Piece.{Separator, Hex, Decimal}
use Rattle.bz_breakpad_lines.specs.Form.Form.{End, ◌·◌}
use Rattle.bz_breakpad_lines.specs.Line.{line_front, line_in, source_line}
use Rattle.bz_breakpad_lines.specs.Printed.{line_one}
use Rattle.bz_breakpad_lines.specs.Reads.{form_at}
use Rattle.bz_breakpad_lines.specs.Records.{LINE}
use Rattle.bz_breakpad_lines.specs.Table.{SourceLine}
use Rattle.bz_breakpad_lines.specs.Contexts.Record.{OfFunc}
use Rattle.bz_breakpad_lines.specs.Written.{form_text, record_text}
use Rattle.bz_base.proofs.LineLemmas.{all_found}
use Rattle.bz_breakpad_lines.proofs.ChoiceLaws.{body_found}
use Rattle.bz_breakpad_lines.proofs.FormLaws.{form_found}
use Rattle.bz_breakpad_lines.proofs.StartLemmas.{digit_byte}
use Rattle.bz_breakpad_lines.proofs.Turns.{bind_some, map_some}
use Rattle.bz_canon.specs.CanonicalRun.{IsCanonicalRun, is_excess, is_gap, is_lower, zero_digit}
use Rattle.bz_canon.specs.Parts.{lines_of}

-- Digits.

-- a digit is no white space
digit_solid : (c : ℕ) → digit_value c < 16 → is_gap c ≡ false
digit_solid c small =
    let agree = agree_below_at (λ b. not (nat_lt (digit_value b) 16) || not (is_gap b)) (λ b. true) 256 c refl (digit_byte c small) in
    not-true (is_gap c) (rw (lt-ltb (digit_value c) 16 small) at agree)

-- one in lower case is written as it stands
digit_again : (c : ℕ) → digit_value c < 16 → is_lower c ≡ true → digit_glyph false (digit_value c) ≡ c
digit_again c small lower =
    let agree = agree_below_at (λ b. not (nat_lt (digit_value b) 16) || (not (is_lower b) || nat_eq (digit_glyph false (digit_value b)) b)) (λ b. true) 256 c refl (digit_byte c small) in
    eqb-true (digit_glyph false (digit_value c)) c (rw (lt-ltb (digit_value c) 16 small, lower) at agree)

-- only one is worth nothing
digit_worth : (c : ℕ) → digit_value c < 16 → nat_eq c zero_digit ≡ false → 0 < digit_value c
digit_worth c small other =
    let agree = agree_below_at (λ b. not (nat_lt (digit_value b) 16) || (nat_eq b zero_digit || nat_lt 0 (digit_value b))) (λ b. true) 256 c refl (digit_byte c small) in
    ltb-true 0 (digit_value c) (rw (lt-ltb (digit_value c) 16 small, other) at agree)

module _ (d : ℕ) (rest : List ℕ) (small : d < 16) where
  -- a digit more is written before the others
  hex_more : (j n : ℕ) → 0 < n → digits_onto (suc j) 16 false (n * 16 + d) rest ≡ digits_onto j 16 false n (digit_glyph false d ∷ rest)
  hex_more j n some =
      let m = n * 16 + d in
      let front : m / 16 ≡ n = omega (arith, small) in
      let last : m % 16 ≡ d = omega (arith, small) in
      ap (λ (ends : Bool). cond ends (digit_glyph false (m % 16) ∷ rest) (digits_onto j 16 false (m / 16) (digit_glyph false (m % 16) ∷ rest))) (ne_eqb (m / 16) 0 (λ none. omega (arith, none, front, some)))
      ∙ ap₂ (λ (n e : ℕ). digits_onto j 16 false n (digit_glyph false e ∷ rest)) front last

  -- the first one last
  hex_first : (j : ℕ) → digits_onto (suc j) 16 false d rest ≡ digit_glyph false d ∷ rest
  hex_first j =
      let none : d / 16 ≡ 0 = omega (arith, small) in
      let last : d % 16 ≡ d = omega (arith, small) in
      ap (λ (ends : Bool). cond ends (digit_glyph false (d % 16) ∷ rest) (digits_onto j 16 false (d / 16) (digit_glyph false (d % 16) ∷ rest))) (eq-eqb (d / 16) 0 none)
      ∙ ap (λ (e : ℕ). digit_glyph false e ∷ rest) last

-- digits after others
hex_onto : (ds : List ℕ) (j n : ℕ) → 0 < n → AllDigits 16 ds → AllPass is_lower ds →
    digits_onto (length ds + j) 16 false (digits_value_after 16 n ds) [] ≡ digits_onto j 16 false n ds
hex_onto ds j n some all lower = with_more ds [] j n some all lower ∙ ap (digits_onto j 16 false n) (append-nil ds) where
  with_more : (ds after : List ℕ) (j n : ℕ) → 0 < n → AllDigits 16 ds → AllPass is_lower ds →
      digits_onto (length ds + j) 16 false (digits_value_after 16 n ds) after ≡ digits_onto j 16 false n (ds ++ after)
  with_more [] after j n some all lower = ap (λ i. digits_onto i 16 false n after) {x = 0 + j} {y = j} (omega arith)
  with_more (d ∷ ds) after j n some all lower =
      let m = n * 16 + digit_value d in
      ap (λ i. digits_onto i 16 false (digits_value_after 16 m ds) after) {x = suc (length ds) + j} {y = length ds + suc j} (omega arith)
      ∙ with_more ds after (suc j) m (omega (arith, some)) all.1 lower.1
      ∙ hex_more (digit_value d) (ds ++ after) all.0 j n some
      ∙ ap (λ e. digits_onto j 16 false n (e ∷ (ds ++ after))) (digit_again d all.0 lower.0)

-- digits in lower case, of which a zero doesn't lead others, are written as they stand
hex_again : (text : List ℕ) → 0 < length text → length text ≤ 16 → AllDigits 16 text → AllPass is_lower text →
    (get_or text 0 0 ≡ zero_digit → length text ≡ 1) → digits 16 false (digits_value 16 text) ≡ text
unfolding digits
hex_again [] some few all lower leads = absurd (omega (arith, some))
hex_again (c ∷ []) some few all lower leads =
    ap (λ (n : ℕ). digits_onto 64 16 false n []) {x = 0 * 16 + digit_value c} {y = digit_value c} (omega arith)
    ∙ hex_first (digit_value c) [] all.0 63
    ∙ ap (λ (e : ℕ). e ∷ []) (digit_again c all.0 lower.0)
hex_again (c ∷ e ∷ ds) some few all lower leads =
    let d = digit_value c in
    let more = e ∷ ds in
    let j = 63 - length more in
    let worth : 0 < d = digit_worth c all.0 (ne_eqb c zero_digit (λ is. omega (arith, leads is))) in
    ap (λ (n : ℕ). digits_onto 64 16 false (digits_value_after 16 n more) []) {x = 0 * 16 + d} {y = d} (omega arith)
    ∙ ap (λ (k : ℕ). digits_onto k 16 false (digits_value_after 16 d more) []) {x = 64} {y = length more + suc j} (omega (arith, few))
    ∙ hex_onto more (suc j) d worth all.1 lower.1
    ∙ hex_first d more all.0 j
    ∙ ap (λ (f : ℕ). f ∷ more) (digit_again c all.0 lower.0)

-- Fields.

-- nothing is too much before a field
abbrev pub AreFields : List ℕ → Type 0
AreFields (a ∷ b ∷ c ∷ text) = (is_excess a b c ≡ false) × AreFields (b ∷ c ∷ text)
AreFields _ = Unit {0}

-- nor in what follows
fields_after : (a : ℕ) (text : List ℕ) → AreFields (a ∷ text) → AreFields text
fields_after a [] are = tt
fields_after a (b ∷ []) are = tt
fields_after a (b ∷ c ∷ text) are = are.1

fields_behind : (a : ℕ) (front rest : List ℕ) → 0 < length front → AreFields (a ∷ (front ++ rest)) → (b : ℕ) × AreFields (b ∷ rest)
fields_behind a [] rest some are = absurd (omega (arith, some))
fields_behind a (b ∷ []) rest some are = (b, fields_after a (b ∷ rest) are)
fields_behind a (b ∷ c ∷ front) rest some are = fields_behind b (c ∷ front) rest (omega arith) (fields_after a (b ∷ c ∷ (front ++ rest)) are)

lower_front : (front rest : List ℕ) → AllPass is_lower (front ++ rest) → AllPass is_lower front
lower_front [] rest all = tt
lower_front (b ∷ front) rest all = (all.0, lower_front front rest all.1)

lower_behind : (front rest : List ℕ) → AllPass is_lower (front ++ rest) → AllPass is_lower rest
lower_behind [] rest all = all
lower_behind (b ∷ front) rest all = lower_behind front rest all.1

-- a zero between white space and a digit is too much
zero_alone : (a c d : ℕ) → is_gap a ≡ true → c ≡ zero_digit → is_gap d ≡ false → is_excess a c d ≡ true
zero_alone a c d gap is solid = rw (gap, is, solid) refl

space_alone : (a c d : ℕ) → is_gap a ≡ true → c ≡ space → is_gap d ≡ false → is_excess a c d ≡ true
space_alone a c d gap blank solid = rw (gap, blank, solid) refl

-- so a zero stands alone in its field
leads_alone : (base : ℕ) → base ≤ 16 → (a : ℕ) (text rest : List ℕ) → is_gap a ≡ true → 0 < length text → AllDigits base text → AreFields (a ∷ (text ++ rest)) →
    get_or text 0 0 ≡ zero_digit → length text ≡ 1
leads_alone base low a [] rest gap some all are is = absurd (omega (arith, some))
leads_alone base low a (c ∷ []) rest gap some all are is = refl
leads_alone base low a (c ∷ d ∷ text) rest gap some all are is =
    absurd (true≢false (sym (zero_alone a c d gap is (digit_solid d (omega (arith, all.1.0, low)))) ∙ are.0))

digits_wide : (text : List ℕ) → AllDigits 10 text → AllDigits 16 text
digits_wide [] all = tt
digits_wide (c ∷ text) all = (omega (arith, all.0), digits_wide text all.1)

module _ (a : ℕ) (gap : is_gap a ≡ true) (text rest : List ℕ) (lower : AllPass is_lower text) (are : AreFields (a ∷ (text ++ rest))) where
  -- numbers are written as they stand
  hex_field : (most value : ℕ) → most ≤ 16 → IsNumber 16 most text value → digits 16 false value ≡ text
  hex_field most value few is =
      ap (digits 16 false) is.valued
      ∙ hex_again text is.positive (omega (arith, is.few, few)) is.digits lower (leads_alone 16 (omega arith) a text rest gap is.positive is.digits are)

  dec_field : (most value : ℕ) → IsDecimal most greatest text value → decimal value ≡ text
  dec_field most value is =
      let number = is.number in
      ap decimal number.valued
      ∙ decimal-digits_value (numerals_by_value (AllDigits 10) tells_digits) text number.digits number.positive
      (leads_alone 10 (omega arith) a text rest gap number.positive number.digits are) (omega (arith, is.fits, number.valued))

-- the text begins with a byte of a field
abbrev begins_solid : List ℕ → Bool
begins_solid text = begins_with (λ b. not (is_gap b)) text

number_solid : (base : ℕ) → base ≤ 16 → (most value : ℕ) (text rest : List ℕ) → IsNumber base most text value → begins_solid (text ++ rest) ≡ true
number_solid base low most value [] rest is = absurd (omega (arith, is.positive))
number_solid base low most value (c ∷ text) rest is = rw (digit_solid c (omega (arith, is.digits.0, low))) refl

-- a blank in lower case is a space
blank_again : (b : ℕ) → is_blank b ≡ true → is_lower b ≡ true → b ≡ space
blank_again b blank lower = by (nat_eq b space) refl blank where
  by : (test : Bool) → nat_eq b space ≡ test → (test || nat_eq b 9) ≡ true → b ≡ space
  by true is blank = eqb-true b space is
  by false is blank = absurd (false≢true (sym (ap is_lower (eqb-true b 9 blank)) ∙ lower))

-- two of them before a field are too many
two_blanks : (a b : ℕ) (blanks rest : List ℕ) → a ≡ space → AllPass is_blank (b ∷ blanks) → AllPass is_lower (b ∷ blanks) → begins_solid rest ≡ true →
    AreFields (a ∷ b ∷ (blanks ++ rest)) → ⊥
two_blanks a b [] [] first all lower solid are = false≢true solid
two_blanks a b [] (c ∷ rest) first all lower solid are =
    true≢false (sym (space_alone a b c (ap is_gap first) (blank_again b all.0 lower.0) (not-true (is_gap c) solid)) ∙ are.0)
two_blanks a b (c ∷ blanks) rest first all lower solid are =
    two_blanks b c blanks rest (blank_again b all.0 lower.0) all.1 lower.1 solid (fields_after a (b ∷ c ∷ (blanks ++ rest)) are)

-- so a separator is one space
sep_field : (a : ℕ) (sep rest : List ℕ) → IsSeparator sep → AllPass is_lower sep → begins_solid rest ≡ true → AreFields (a ∷ (sep ++ rest)) → sep ≡ space ∷ []
sep_field a [] rest is lower solid are = absurd (false≢true is.passes)
sep_field a (b ∷ []) rest is lower solid are = ap (λ (c : ℕ). c ∷ []) (blank_again b is.bytes.0 lower.0)
sep_field a (b ∷ c ∷ sep) rest is lower solid are =
    absurd (two_blanks b c sep rest (blank_again b is.bytes.0 lower.0) is.bytes.1 lower.1 solid (fields_after a (b ∷ c ∷ (sep ++ rest)) are))

-- Lines.

-- a text that goes on after a byte, up to others
record IsLeft (before : ℕ) (text rest : List ℕ) : Type 0 where
  lower : AllPass is_lower text
  fields : AreFields (before ∷ (text ++ rest))

module _ (a : ℕ) (front back rest : List ℕ) (left : IsLeft a (front ++ back) rest) where
  fields_parts : AreFields (a ∷ (front ++ (back ++ rest)))
  fields_parts = subst (λ (t : List ℕ). AreFields (a ∷ t)) (append_assoc front back rest) left.fields

  front_left : IsLeft a front (back ++ rest)
  front_left = record { lower = lower_front front back left.lower; fields = fields_parts }

  back_left : 0 < length front → (b : ℕ) × IsLeft b back rest
  back_left some =
      let behind = fields_behind a front (back ++ rest) some fields_parts in
      (behind.0, record { lower = lower_behind front back left.lower; fields = behind.1 })

-- the form is numbers with separators between them, of which the next is a number or a separator
abbrev are_numbers : Bool → Form → Bool
are_numbers true (Hex most · f) = nat_le most 16 && are_numbers false f
are_numbers true (Decimal · f) = are_numbers false f
are_numbers false (Separator · f) = are_numbers true f
are_numbers false End = true
are_numbers _ _ = false

numbers_solid : (f : Form) → are_numbers true f ≡ true → (text rest : List ℕ) (v : Value f) → Spells f text v → begins_solid (text ++ rest) ≡ true
numbers_solid (Hex most · f) are text rest v is =
    rw (is.whole, append_assoc is.front is.back rest) (number_solid 16 (omega arith) most is.tells is.front (is.back ++ rest) is.front_is)
numbers_solid (Decimal · f) are text rest v is =
    rw (is.whole, append_assoc is.front is.back rest) (number_solid 10 (omega arith) 10 is.tells is.front (is.back ++ rest) is.front_is.number)
numbers_solid _ are text rest v is = absurd (false≢true are)

sep_some : (sep : List ℕ) → IsSeparator sep → 0 < length sep
sep_some [] is = absurd (false≢true is.passes)
sep_some (b ∷ sep) is = omega arith

-- what is left is the plainest text of the value
numbers_again : (at : Bool) (f : Form) → are_numbers at f ≡ true → (a : ℕ) → (at ≡ true → is_gap a ≡ true) → (text rest : List ℕ) (v : Value f) → Spells f text v →
    IsLeft a text rest → form_text f v ≡ text
numbers_again true (Hex most · f) are a gap text rest v is left =
    let parts = and_parts (nat_le most 16) (are_numbers false f) are in
    let left : IsLeft a (is.front ++ is.back) rest = subst (λ (t : List ℕ). IsLeft a t rest) is.whole left in
    let front = front_left a is.front is.back rest left in
    let back = back_left a is.front is.back rest left is.front_is.positive in
    ap (λ (w : ℕ × Value f). digits 16 false w.0 ++ form_text f w.1) is.valued
    ∙ ap₂ (λ (x y : List ℕ). x ++ y)
    (hex_field a (gap refl) is.front (is.back ++ rest) front.lower front.fields most is.tells (leb-true most 16 parts.0) is.front_is)
    (numbers_again false f parts.1 back.0 (λ no. absurd (false≢true no)) is.back rest is.others is.back_is back.1)
    ∙ sym is.whole
numbers_again true (Decimal · f) are a gap text rest v is left =
    let left : IsLeft a (is.front ++ is.back) rest = subst (λ (t : List ℕ). IsLeft a t rest) is.whole left in
    let front = front_left a is.front is.back rest left in
    let back = back_left a is.front is.back rest left is.front_is.number.positive in
    ap (λ (w : ℕ × Value f). decimal w.0 ++ form_text f w.1) is.valued
    ∙ ap₂ (λ (x y : List ℕ). x ++ y)
    (dec_field a (gap refl) is.front (is.back ++ rest) front.lower front.fields 10 is.tells is.front_is)
    (numbers_again false f are back.0 (λ no. absurd (false≢true no)) is.back rest is.others is.back_is back.1)
    ∙ sym is.whole
numbers_again false (Separator · f) are a gap text rest v is left =
    let left : IsLeft a (is.front ++ is.back) rest = subst (λ (t : List ℕ). IsLeft a t rest) is.whole left in
    let front = front_left a is.front is.back rest left in
    let solid = numbers_solid f are is.back rest is.others is.back_is in
    let one : is.front ≡ space ∷ [] = sep_field a is.front (is.back ++ rest) is.front_is front.lower solid front.fields in
    let back : IsLeft space is.back rest = record {
      lower = lower_behind is.front is.back left.lower;
      fields = fields_after a (space ∷ (is.back ++ rest)) (subst (λ (t : List ℕ). AreFields (a ∷ (t ++ (is.back ++ rest)))) one front.fields);
    } in
    ap (λ (w : Value f). space ∷ form_text f w) is.valued
    ∙ ap (λ (y : List ℕ). space ∷ y) (numbers_again true f are space (λ _. refl) is.back rest is.others is.back_is back)
    ∙ ap (λ (x : List ℕ). x ++ is.back) (sym one)
    ∙ sym is.whole
numbers_again false End are a gap text rest v is left = sym is
numbers_again _ _ are a gap text rest v is left = absurd (false≢true are)

-- a line without line feed is all of its front
line_whole : (line : List ℕ) → HasNo line_feed line → line_front line ≡ line
line_whole [] none = refl
line_whole (b ∷ line) none =
    let parts = or_parts (nat_eq b line_feed) (list_any (λ c. nat_eq c line_feed) line) none in
    let n = prefix_len (λ c. not (nat_eq c line_feed)) line in
    let more : 1 + n ≡ suc n = omega arith in
    rw (parts.0, more) (ap (λ rest. b ∷ rest) (line_whole line parts.1))

-- no carriage return is in lower case
no_returns : (text : List ℕ) → AllPass is_carriage_return text → AllPass is_lower text → text ≡ []
no_returns [] all lower = refl
no_returns (b ∷ text) all lower = absurd (false≢true (sym (ap is_lower (eqb-true b carriage_return all.0)) ∙ lower.0))

-- a line record that is spelled canonically is written as it stands
line_again : (line rest : List ℕ) (a : ℕ) (l : SourceLine) → is_gap a ≡ true → HasNo line_feed line → line_in line ≡ Some l → IsLeft a line rest →
    record_text (OfFunc (line_one l)) ≡ line
line_again line rest a l gap none is left =
    let value = map_some source_line (body_at (line_front line) >>= form_at LINE) l is in
    let body = bind_some (body_at (line_front line)) (form_at LINE) value.0 value.1 in
    let cut = body_found (line_front line) body.0 body.1 in
    let whole : line ≡ body.0 ++ cut.ends = sym (line_whole line none) ∙ cut.whole in
    let ends : cut.ends ≡ [] = no_returns cut.ends cut.ends_are (lower_behind body.0 cut.ends (subst (AllPass is_lower) whole left.lower)) in
    let same : line ≡ body.0 = whole ∙ ap (λ (e : List ℕ). body.0 ++ e) ends ∙ append-nil body.0 in
    ap (λ (m : SourceLine). record_text (OfFunc (line_one m))) (sym value.2)
    ∙ numbers_again true LINE refl a (λ _. gap) body.0 rest value.0 (form_found LINE body.0 value.0 body.2) (subst (λ (t : List ℕ). IsLeft a t rest) same left)
    ∙ sym same

some_line : (o : Option SourceLine) → IsSome o → (l : SourceLine) × (o ≡ Some l)
some_line None some = absurd (false≢true some)
some_line (Some l) some = (l, refl)

-- the end of a line stands before what follows it
ends_before : (line more : List ℕ) (a : ℕ) → AreFields (a ∷ (line ++ line_feed ∷ more)) → AreFields (line_feed ∷ more)
ends_before [] more a are = fields_after a (line_feed ∷ more) are
ends_before (b ∷ line) more a are = ends_before line more b (fields_after a (b ∷ (line ++ line_feed ∷ more)) are)

-- and so are such lines
lines_again : (lines : List (List ℕ)) (a : ℕ) → is_gap a ≡ true → AllByRecursion (HasNo line_feed) lines → AllByRecursion (λ line. IsSome (line_in line)) lines →
    IsLeft a (flat_map ended lines) [] → lines_of (λ l. OfFunc (line_one l)) (filter_map line_in lines) ≡ flat_map ended lines
lines_again [] a gap none read left = refl
lines_again (line ∷ lines) a gap none read left =
    let more = flat_map ended lines in
    let front : IsLeft a (ended line) (more ++ []) = front_left a (ended line) more [] left in
    let first : IsLeft a line (line_feed ∷ (more ++ [])) = front_left a line (line_feed ∷ []) (more ++ []) front in
    let rest : IsLeft line_feed more [] = record { lower = lower_behind (ended line) more left.lower; fields = ends_before line (more ++ []) a first.fields } in
    let l = some_line (line_in line) read.0 in
    ap (λ (o : Option SourceLine). lines_of (λ (l : SourceLine). OfFunc (line_one l)) (cons_option o (filter_map line_in lines))) l.1
    ∙ ap₂ (λ (x y : List ℕ). ended x ++ y) (line_again line (line_feed ∷ (more ++ [])) a l.0 gap none.0 l.1 first)
    (lines_again lines line_feed refl none.1 read.1 rest)

-- A run.

fields_by_place : (text : List ℕ) → ((k : ℕ) → k + 2 < length text → is_excess (slice_index text k) (slice_index text (k + 1)) (slice_index text (k + 2)) ≡ false) → AreFields text
fields_by_place [] each = tt
fields_by_place (a ∷ []) each = tt
fields_by_place (a ∷ b ∷ []) each = tt
fields_by_place (a ∷ b ∷ c ∷ text) each = (each 0 (omega arith), fields_by_place (b ∷ c ∷ text) next) where
  next : (k : ℕ) → k + 2 < length (b ∷ c ∷ text) → is_excess (slice_index (b ∷ c ∷ text) k) (slice_index (b ∷ c ∷ text) (k + 1)) (slice_index (b ∷ c ∷ text) (k + 2)) ≡ false
  next k within =
      let one : suc (k + 1) ≡ suc k + 1 = omega arith in
      let two : suc (k + 2) ≡ suc k + 2 = omega arith in
      ap₂ (λ (i j : ℕ). is_excess (slice_index (b ∷ c ∷ text) k) (slice_index (a ∷ b ∷ c ∷ text) i) (slice_index (a ∷ b ∷ c ∷ text) j)) one two
      ∙ each (suc k) (omega (arith, within))

lower_by_place : (text : List ℕ) → ((k : ℕ) → k < length text → is_lower (slice_index text k) ≡ true) → AllPass is_lower text
lower_by_place [] each = tt
lower_by_place (b ∷ text) each = (each 0 (omega arith), lower_by_place text (λ k within. each (suc k) (omega (arith, within))))

-- the first field too
first_fields : (text : List ℕ) → is_excess line_feed (slice_index text 0) (slice_index text 1) ≡ false → AreFields text → AreFields (line_feed ∷ text)
first_fields [] first are = tt
first_fields (b ∷ []) first are = tt
first_fields (b ∷ c ∷ text) first are = (first, are)

-- a text without line feed doesn't end with one
no_end : (front : List ℕ) → HasNo line_feed (front ++ line_feed ∷ []) → ⊥
no_end [] none = true≢false none
no_end (b ∷ front) none = no_end front (or_parts (nat_eq b line_feed) (list_any (λ c. nat_eq c line_feed) (front ++ line_feed ∷ [])) none).1

empty : (text : List ℕ) → length text ≡ 0 → text ≡ []
empty [] none = refl
empty (b ∷ text) none = absurd (omega (arith, none))

-- so none stands behind the last line feed
none_behind : (front before rest : List ℕ) → HasNo line_feed rest → front ++ line_feed ∷ [] ≡ before ++ rest → rest ≡ []
none_behind front [] rest none same = absurd (no_end front (subst (HasNo line_feed) (sym same) none))
none_behind [] (b ∷ before) rest none same = empty rest (omega (arith, ap length same, length-append before rest))
none_behind (c ∷ front) (b ∷ before) rest none same = none_behind front before rest none (ap (drop 1) same)

-- a run of line records that is spelled canonically is the canonical text of its records
pub run_again : (text : List ℕ) → IsCanonicalRun text → AllByRecursion (λ line. IsSome (line_in line)) (all_lines text) →
    lines_of (λ l. OfFunc (line_one l)) (filter_map line_in (all_lines text)) ≡ text
run_again text is read =
    let are = all_found text in
    let none : are.rest ≡ [] = none_behind is.front (flat_map ended are.front) are.rest are.rest_has_none (sym is.ends ∙ are.whole) in
    let whole : text ≡ flat_map ended are.front = are.whole ∙ ap (λ (r : List ℕ). flat_map ended are.front ++ r) none ∙ append-nil (flat_map ended are.front) in
    let lines : all_lines text ≡ are.front = are.lines_are ∙ ap (λ (r : List ℕ). are.front ++ unended r) none ∙ append-nil are.front in
    let left : IsLeft line_feed text [] = record {
      lower = lower_by_place text is.bytes.lower;
      fields = subst (λ (t : List ℕ). AreFields (line_feed ∷ t)) (sym (append-nil text)) (first_fields text is.first (fields_by_place text is.bytes.fields));
    } in
    ap (λ (ls : List (List ℕ)). lines_of (λ (l : SourceLine). OfFunc (line_one l)) (filter_map line_in ls)) lines
    ∙ lines_again are.front line_feed refl are.no_line_feed (subst (AllByRecursion (λ (line : List ℕ). IsSome (line_in line))) lines read) (subst (λ (t : List ℕ). IsLeft line_feed t []) whole left)
    ∙ sym whole
