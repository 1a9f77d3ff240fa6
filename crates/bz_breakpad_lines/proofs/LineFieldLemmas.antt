-- The fields of a line record that is known to stand in front: where bytes past space end,
-- the digits of a field do.
use Rattle.std.proofs.Common.{◌≡◌, ℕ, suc, ◌+◌, ◌-◌, ◌<◌, ◌≤◌, Bool, true, false, not, ◌==◌, List, [], ◌∷◌, ◌++◌, length, take, drop, nat_eq, Some, refl, sym, subst, ap, ap₂, ◌∙◌, arith, append_assoc, inl, inr, length-drop}
use Rattle.std.specs.Char.{digit_value, is_digit}
use Rattle.std.specs.List.{prefix_len}
use Rattle.std.specs.Prelude.{slice_index}
use Rattle.std.specs.Str.Parse.{AllDigits, digits_value}
use Rattle.std.proofs.lemmas.Bool.{cases_lt, eqb-true, false≢true, le-ltb, lt-ltb}
use Rattle.std.proofs.lemmas.List.{drop-drop, take-append-drop}
use Rattle.std.proofs.lemmas.List.Sums.{prefix_len-le-length}
use Rattle.std.proofs.Math.Seq.{take-append_seam, drop-append_seam}
use Rattle.bz_base.specs.Bind.{◌>>=◌}
use Rattle.bz_base.specs.Byte.{begins_with, carriage_return, is_blank, line_feed}
use Rattle.bz_base.specs.Number.{IsNumber, digits_len}
use Rattle.bz_breakpad_lines.specs.Byte.{is_carriage_return, is_past_space}
use Rattle.bz_breakpad_lines.specs.Choice.{IsBody, body_at}
use Rattle.bz_breakpad_lines.specs.Form.{AllPass, Form, IsSeparator, Value, Spells}
use Rattle.bz_breakpad_lines.specs.Form.Form.{End, ◌·◌}
use Rattle.bz_breakpad_lines.specs.Form.Piece.{Decimal, Hex, Separator}
use Rattle.bz_breakpad_lines.specs.Line.{line_front, source_line}
use Rattle.bz_breakpad_lines.specs.LineStarts.{ReadsLine, line_read}
use Rattle.bz_breakpad_lines.specs.QuickLine.{AreLineEnds, line_between}
use Rattle.bz_breakpad_lines.specs.Reads.{form_at}
use Rattle.bz_breakpad_lines.specs.Records.{LINE}
use Rattle.bz_breakpad_lines.specs.Stops.{AreDigits, IsField, number_between}
use Rattle.bz_breakpad_lines.specs.declared.line.LineEnds.{LineEnds}
use Rattle.bz_breakpad_lines.proofs.Apart.{separator_front}
use Rattle.bz_breakpad_lines.proofs.AtPlaceLemmas.{read_there}
use Rattle.bz_breakpad_lines.proofs.Bytes.{begins_narrower, blank_not_past}
use Rattle.bz_breakpad_lines.proofs.ChoiceLaws.{body_found}
use Rattle.bz_breakpad_lines.proofs.FieldLemmas.{byte_at}
use Rattle.bz_breakpad_lines.proofs.FormLaws.{form_found}
use Rattle.bz_breakpad_lines.proofs.Runs.{run_len}
use Rattle.bz_breakpad_lines.proofs.Turns.{bind_some, map_some}

-- Bytes past space.

-- a digit is one
past_digit : (b : ℕ) → digit_value b < 16 → is_past_space b ≡ true
past_digit b small =
    elim (cases_lt 32 b) [
      | inl past ↦ lt-ltb 32 b past
      | inr below ↦ absurd (
          let no_digit : digit_value b ≡ 36 = rw (lt-ltb b 48 (omega (arith, below))) refl in
          omega (arith, no_digit, small))
    ]

past_digits : (base : ℕ) → base ≤ 16 → (digits : List ℕ) → AllDigits base digits → AllPass is_past_space digits
past_digits base few [] are = tt
past_digits base few (b ∷ digits) are = (past_digit b (omega (arith, are.0, few)), past_digits base few digits are.1)

all_digits : (base : ℕ) (digits : List ℕ) → AllDigits base digits → AllPass (λ b. is_digit b base) digits
all_digits base [] are = tt
all_digits base (b ∷ digits) are = (lt-ltb (digit_value b) base are.0, all_digits base digits are.1)

-- so another byte is no digit
other_byte : (base : ℕ) → base ≤ 16 → (b : ℕ) → is_past_space b ≡ false → is_digit b base ≡ false
other_byte base few b is =
    elim (cases_lt (digit_value b) base) [
      | inl digit ↦ absurd (false≢true (sym is ∙ past_digit b (omega (arith, digit, few))))
      | inr none ↦ le-ltb (digit_value b) base none
    ]

blank_stops : (text : List ℕ) → begins_with is_blank text ≡ true → begins_with is_past_space text ≡ false
blank_stops [] begins = absurd (false≢true begins)
blank_stops (b ∷ text) begins = blank_not_past b begins

-- A field of digits, and another byte after them.
module _ (base : ℕ) (few : base ≤ 16) (text : List ℕ) (from end : ℕ) (digits rest : List ℕ) (most value : ℕ) (is : IsNumber base most digits value)
    (split : drop from text ≡ digits ++ rest) (stops : begins_with is_past_space rest ≡ false) (field : IsField text from end) where
  long : length digits + from ≡ end
  long = omega (arith, field.3, ap (prefix_len is_past_space) split, run_len is_past_space digits rest (past_digits base few digits is.digits) stops)

  number_digits : AreDigits base 8 text from end
  number_digits =
      let none = begins_narrower is_past_space (λ b. is_digit b base) (other_byte base few) rest stops in
      (field.0, field.1, field.2, omega (arith, long, ap (digits_len base) split, run_len (λ b. is_digit b base) digits rest (all_digits base digits is.digits) none))

  number_is : number_between base text from end ≡ value
  number_is =
      let count : end - from ≡ length digits = omega (arith, long) in
      ap₂ (λ n t. digits_value base (take n t)) count split ∙ ap (digits_value base) (take-append_seam digits rest) ∙ sym is.valued

  number_rest : drop end text ≡ rest
  number_rest =
      let place : from + length digits ≡ end = omega (arith, long) in
      ap (λ n. drop n text) (sym place) ∙ sym (drop-drop (length digits) from text) ∙ ap (drop (length digits)) split ∙ drop-append_seam digits rest

-- where bytes past space stand after the first byte of a separator, it has no other
one_blank : (separator more text : List ℕ) → IsSeparator separator → drop 1 (separator ++ more) ≡ text → 0 < prefix_len is_past_space text → text ≡ more
one_blank [] more text is same some = absurd (false≢true is.passes)
one_blank (b ∷ []) more text is same some = sym same
one_blank (b ∷ c ∷ separator) more text is same some =
    absurd (let none : prefix_len is_past_space text ≡ 0 = ap (prefix_len is_past_space) (sym same) ∙ rw (blank_not_past c is.bytes.1.0) refl in omega (arith, none, some))

after_separator : (text : List ℕ) (at next : ℕ) (separator more : List ℕ) → IsSeparator separator → drop at text ≡ separator ++ more → IsField text (at + 1) next → drop (at + 1) text ≡ more
after_separator text at next separator more is there field =
    one_blank separator more (drop (at + 1) text) is (ap (drop 1) (sym there) ∙ drop-drop 1 at text) (omega (arith, field.0, field.3))

-- from a place on the text spells the form, and more comes after it
abbrev Known : (f : Form) → List ℕ → ℕ → Value f → List ℕ → Type 0
Known f text at value more = (line : List ℕ) × Spells f line value × (drop at text ≡ line ++ more)

-- the field at the place, and what is known after the single blank behind it
module _ (f : Form) (text : List ℕ) (at end next : ℕ) (more : List ℕ) (field : IsField text at end) (later : IsField text (end + 1) next) where
  hex_known : (most : ℕ) (value : Value (Hex most · Separator · f)) → Known (Hex most · Separator · f) text at value more →
      AreDigits 16 8 text at end × (number_between 16 text at end ≡ value.0) × Known f text (end + 1) value.1 more
  hex_known most value (line, is, there) =
      let sep = is.back_is in
      let rest = is.back ++ more in
      let split : drop at text ≡ is.front ++ rest = there ∙ ap (λ t. t ++ more) is.whole ∙ append_assoc is.front is.back more in
      let stops = blank_stops rest (separator_front (Separator · f) refl is.back more is.others is.back_is) in
      let behind : drop end text ≡ sep.front ++ (sep.back ++ more)
      = number_rest 16 (omega arith) text at end is.front rest most is.tells is.front_is split stops field ∙ ap (λ t. t ++ more) sep.whole ∙ append_assoc sep.front sep.back more in
      let others : sep.others ≡ value.1 = sym (ap (λ (v : ℕ × Value f). v.1) is.valued ∙ sep.valued) in (
        number_digits 16 (omega arith) text at end is.front rest most is.tells is.front_is split stops field,
        number_is 16 (omega arith) text at end is.front rest most is.tells is.front_is split stops field ∙ sym (ap (λ (v : ℕ × Value f). v.0) is.valued),
        (sep.back, subst (λ v. Spells f sep.back v) others sep.back_is, after_separator text end next sep.front (sep.back ++ more) sep.front_is behind later),
      )

  dec_known : (value : Value (Decimal · Separator · f)) → Known (Decimal · Separator · f) text at value more →
      AreDigits 10 8 text at end × (number_between 10 text at end ≡ value.0) × Known f text (end + 1) value.1 more
  dec_known value (line, is, there) =
      let sep = is.back_is in
      let rest = is.back ++ more in
      let split : drop at text ≡ is.front ++ rest = there ∙ ap (λ t. t ++ more) is.whole ∙ append_assoc is.front is.back more in
      let stops = blank_stops rest (separator_front (Separator · f) refl is.back more is.others is.back_is) in
      let behind : drop end text ≡ sep.front ++ (sep.back ++ more)
      = number_rest 10 (omega arith) text at end is.front rest 10 is.tells is.front_is.number split stops field ∙ ap (λ t. t ++ more) sep.whole ∙ append_assoc sep.front sep.back more in
      let others : sep.others ≡ value.1 = sym (ap (λ (v : ℕ × Value f). v.1) is.valued ∙ sep.valued) in (
        number_digits 10 (omega arith) text at end is.front rest 10 is.tells is.front_is.number split stops field,
        number_is 10 (omega arith) text at end is.front rest 10 is.tells is.front_is.number split stops field ∙ sym (ap (λ (v : ℕ × Value f). v.0) is.valued),
        (sep.back, subst (λ v. Spells f sep.back v) others sep.back_is, after_separator text end next sep.front (sep.back ++ more) sep.front_is behind later),
      )

-- the last field
last_known : (text : List ℕ) (at end : ℕ) (more : List ℕ) → IsField text at end → begins_with is_past_space more ≡ false → (value : Value (Decimal · End)) →
    Known (Decimal · End) text at value more → AreDigits 10 8 text at end × (number_between 10 text at end ≡ value.0) × (drop end text ≡ more)
last_known text at end more field stops value (line, is, there) =
    let split : drop at text ≡ is.front ++ more = there ∙ ap (λ t. t ++ more) is.whole ∙ append_assoc is.front is.back more ∙ ap (λ t. is.front ++ (t ++ more)) is.back_is in (
      number_digits 10 (omega arith) text at end is.front more 10 is.tells is.front_is.number split stops field,
      number_is 10 (omega arith) text at end is.front more 10 is.tells is.front_is.number split stops field ∙ sym (ap (λ (v : ℕ × Unit {0}). v.0) is.valued),
      number_rest 10 (omega arith) text at end is.front more 10 is.tells is.front_is.number split stops field,
    )

-- no byte past space stands where the line ends
feed_stops : (text : List ℕ) → begins_with is_past_space (drop (prefix_len (λ b. not (b == line_feed)) text) text) ≡ false
feed_stops [] = refl
feed_stops (b ∷ text) = by (nat_eq b line_feed) refl (feed_stops text) where
  by : (test : Bool) → nat_eq b line_feed ≡ test → begins_with is_past_space (drop (prefix_len (λ c. not (c == line_feed)) text) text) ≡ false →
      begins_with is_past_space (drop (prefix_len (λ c. not (c == line_feed)) (b ∷ text)) (b ∷ text)) ≡ false
  by true is rest = rw is (ap is_past_space (eqb-true b line_feed is))
  by false is rest =
      let n = prefix_len (λ c. not (c == line_feed)) text in
      let more : 1 + n ≡ suc n = omega arith in
      rw (is, more) rest

ends_stop : (ends rest : List ℕ) → AllPass is_carriage_return ends → begins_with is_past_space rest ≡ false → begins_with is_past_space (ends ++ rest) ≡ false
ends_stop [] rest all stops = stops
ends_stop (b ∷ ends) rest all stops = ap is_past_space (eqb-true b carriage_return all.0)

-- A line record that is read in front.
module _ (text : List ℕ) (reads : ReadsLine text 0) (start : ℕ) (ends : LineEnds) (of_start : IsField text 0 start) (of_size : IsField text (start + 1) ends.size)
    (of_line : IsField text (ends.size + 1) ends.line) (of_file : IsField text (ends.line + 1) ends.file) where
  abbrev feed : ℕ
  feed = prefix_len (λ b. not (b == line_feed)) text

  value : (v : Value LINE) × ((body_at (line_front text) >>= form_at LINE) ≡ Some v) × (source_line v ≡ line_read text 0)
  value = map_some source_line (body_at (line_front text) >>= form_at LINE) (line_read text 0) (read_there text 0 reads)

  body : (b : List ℕ) × (body_at (line_front text) ≡ Some b) × (form_at LINE b ≡ Some value.0)
  body = bind_some (body_at (line_front text)) (form_at LINE) value.0 value.1

  cut : IsBody (line_front text) body.0
  cut = body_found (line_front text) body.0 body.1

  abbrev more : List ℕ
  more = cut.ends ++ drop feed text

  more_stops : begins_with is_past_space more ≡ false
  more_stops = ends_stop cut.ends (drop feed text) cut.ends_are (feed_stops text)

  known : Known LINE text 0 value.0 more
  known = (
    body.0,
    form_found LINE body.0 value.0 body.2,
    sym (take-append-drop feed text) ∙ ap (λ t. t ++ drop feed text) cut.whole ∙ append_assoc body.0 cut.ends (drop feed text),
  )

  first : AreDigits 16 8 text 0 start × (number_between 16 text 0 start ≡ value.0.0) × Known (Hex 8 · Separator · Decimal · Separator · Decimal · End) text (start + 1) value.0.1 more
  first = hex_known (Hex 8 · Separator · Decimal · Separator · Decimal · End) text 0 start ends.size more of_start of_size 16 value.0 known

  second : AreDigits 16 8 text (start + 1) ends.size × (number_between 16 text (start + 1) ends.size ≡ value.0.1.0) × Known (Decimal · Separator · Decimal · End) text (ends.size + 1) value.0.1.1 more
  second = hex_known (Decimal · Separator · Decimal · End) text (start + 1) ends.size ends.line more of_size of_line 8 value.0.1 first.2

  third : AreDigits 10 8 text (ends.size + 1) ends.line × (number_between 10 text (ends.size + 1) ends.line ≡ value.0.1.1.0) × Known (Decimal · End) text (ends.line + 1) value.0.1.1.1 more
  third = dec_known (Decimal · End) text (ends.size + 1) ends.line ends.file more of_line of_file value.0.1.1 second.2

  fourth : AreDigits 10 8 text (ends.line + 1) ends.file × (number_between 10 text (ends.line + 1) ends.file ≡ value.0.1.1.1.0) × (drop ends.file text ≡ more)
  fourth = last_known text (ends.line + 1) ends.file more of_file more_stops value.0.1.1.1 third.2

  -- the digits of its fields end there
  pub line_ends_are : AreLineEnds text start ends
  line_ends_are = record { of_start = first.0; of_size = second.0; of_line = third.0; of_file = fourth.0 }

  -- and tell what it tells
  pub line_is : source_line (line_between text start ends) ≡ line_read text 0
  line_is = rw (first.1, second.1, third.1, fourth.1) value.2

  -- a line feed behind them ends the line
  pub line_end_is : slice_index text ends.file ≡ line_feed → ends.file ≡ feed
  line_end_is is = by cut.ends cut.ends_are fourth.2 where
    by : (returns : List ℕ) → AllPass is_carriage_return returns → drop ends.file text ≡ returns ++ drop feed text → ends.file ≡ feed
    by [] all same =
        omega (arith, of_file.2, ap length same, length-drop ends.file text, length-drop feed text, prefix_len-le-length (λ b. not (b == line_feed)) text)
    by (r ∷ returns) all same =
        absurd (false≢true (
        sym (ap (λ b. nat_eq b line_feed) (eqb-true r carriage_return all.0))
        ∙ ap (begins_with (λ b. nat_eq b line_feed)) (sym same ∙ byte_at ends.file line_feed text of_file.2 is)
        ))
