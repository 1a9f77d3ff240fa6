-- A line that is read quickly, from its pieces: fields read one after another, then what ends the line.
use Rattle.std.proofs.Common.{◌≡◌, ℕ, ◌+◌, ◌<◌, ◌≤◌, inl, inr, false, not, List, [], ◌∷◌, ◌++◌, drop, length, map, nat_eq, Some, None, refl, sym, ap, subst, ◌∙◌, arith, append_assoc, append-nil, ◌-◌, take, Option, IfSome, length-append, length-drop}
use Rattle.std.specs.Char.{digit_value}
use Rattle.std.specs.List.{list_any}
use Rattle.std.specs.Prelude.{codes, slice_index}
use Rattle.std.proofs.lemmas.Bool.{or_from, or_parts, ne_eqb, false_from_ne_true, eqb-true, false≢true}
use Rattle.std.proofs.lemmas.List.{length-map, map-append}
use Rattle.std.proofs.lemmas.List.Folds.{list_any-append}
use Rattle.bz_base.specs.Byte.{tab, line_feed, carriage_return, is_blank, space, HasNo, begins_with}
use Rattle.bz_base.specs.Number.{IsNumber, digits_at}
use Rattle.bz_base.proofs.ByteLemmas.{HasNo-digits}
use Rattle.bz_breakpad_lines.specs.Byte.{is_carriage_return, is_nothing, is_ascii_in_line, is_white}
use Rattle.bz_breakpad_lines.specs.Choice.{body_at}
use Rattle.bz_breakpad_lines.specs.Form.{AllPass, Form, InTurn, Piece, Tell, With, told, Value, Spells}
use Rattle.bz_breakpad_lines.specs.Form.Form.{End, Many, Name, SeparatorText, ◌·◌}
use Rattle.bz_breakpad_lines.specs.Form.Piece.{Tag, Mark, Separator, ModuleSeparator, Gap, Word, Hex, Decimal}
use Rattle.bz_breakpad_lines.specs.Kinds.{as_func, as_inline, as_line}
use Rattle.bz_breakpad_lines.specs.Line.{line_front, line_in, source_line}
use Rattle.bz_breakpad_lines.specs.Quick.{AreInTurn, IsAsciiLine, IsFormLine, IsQuick, ended_by}
use Rattle.bz_breakpad_lines.specs.Reads.{form_at, piece_at, reads, run_at}
use Rattle.bz_breakpad_lines.specs.Records.{CALL, FUNC, INLINE, LINE, RANGE, STACK_CFI, letter_m}
use Rattle.bz_breakpad_lines.specs.Stops.{AreDigits, number_between}
use Rattle.bz_breakpad_lines.specs.Told.{call_told, func_told, inline_told, inner_told, ranges_told, range_told, top_told}
use Rattle.bz_breakpad_lines.specs.declared.record.FuncLine.{FuncLine}
use Rattle.bz_breakpad_lines.specs.declared.record.InlineCall.{InlineCall}
use Rattle.bz_breakpad_lines.specs.declared.record.InnerLine.TheVariants as inners
use Rattle.bz_breakpad_lines.specs.declared.record.Range.{Range}
use Rattle.bz_breakpad_lines.specs.declared.record.TopLine.TheVariants as tops
use Rattle.bz_breakpad_lines.specs.Contexts.{Context, Record, body_record}
use Rattle.bz_breakpad_lines.specs.Contexts.Context.{InCfi, InFunc, Outside}
use Rattle.bz_breakpad_lines.specs.Contexts.Record.{OfCfi, OfFunc, Top}
use Rattle.bz_breakpad_lines.proofs.Apart.{hex_begins, hex_no_blank, other_than}
use Rattle.bz_breakpad_lines.proofs.AsciiLemmas.{before_feed, none_of, plain_utf8}
use Rattle.bz_breakpad_lines.proofs.ChoiceLaws.{body_again}
use Rattle.bz_breakpad_lines.proofs.FieldLemmas.{dec_next, dec_read, hex_next, hex_read, hex_solid, next, no_gap, one_space}
use Rattle.bz_breakpad_lines.proofs.FormLaws.{found, form_again}
use Rattle.bz_breakpad_lines.proofs.LineFrontLemmas.{line_front_of}
use Rattle.bz_breakpad_lines.proofs.Pieces.{goes_on, piece_again, piece_found}
use Rattle.std.specs.Str.Parse.{digits_value}
use Rattle.bz_base.specs.Line.{ended}
use Rattle.bz_breakpad_lines.specs.LineStarts.{IsStartText}
use Rattle.bz_breakpad_lines.specs.QuickLine.{IsQuickLine, line_between}
use Rattle.bz_breakpad_lines.specs.declared.line.LineEnds.{LineEnds}
use Rattle.bz_breakpad_lines.specs.declared.start_text.StartText.{StartText}

-- More after what a form ends with.

-- the value of a piece and a form, with another value of the form
abbrev pub lift : (p : Piece) → {A B : Type 0} → (A → B) → With p A → With p B
lift (Tag t) h v = h v
lift (Mark b) h v = h v
lift Separator h v = h v
lift ModuleSeparator h v = h v
lift Gap h v = h v
lift Word h v = h v
lift (Hex most) h v = (v.0, h v.1)
lift Decimal h v = (v.0, h v.1)

pub lift_told : (p : Piece) {A B : Type 0} (h : A → B) (x : Tell p) (a : A) → lift p h (told p x a) ≡ told p x (h a)
lift_told (Tag t) h x a = refl
lift_told (Mark b) h x a = refl
lift_told Separator h x a = refl
lift_told ModuleSeparator h x a = refl
lift_told Gap h x a = refl
lift_told Word h x a = refl
lift_told (Hex most) h x a = refl
lift_told Decimal h x a = refl

-- the values of fields, and what the line's end tells
abbrev pub with_end : (f g : Form) → Value g → Value f → Value (ended_by f g)
with_end (p · f) g w v = lift p (with_end f g w) v
with_end _ g w v = w

-- pieces, and nothing after them
abbrev pub AreFields : Form → Type 0
AreFields End = Unit {0}
AreFields (p · f) = AreFields f
AreFields _ = ⊥

-- fields and a text of the form after them
spells_by : (f g : Form) → AreFields f → (front back : List ℕ) (v : Value f) (w : Value g) → Spells f front v → Spells g back w →
    Spells (ended_by f g) (front ++ back) (with_end f g w v)
spells_by End g are front back v w is is_back = rw is is_back
spells_by (p · f) g are front back v w is is_back = record {
  front = is.front;
  back = is.back ++ back;
  whole = ap (λ t. t ++ back) is.whole ∙ append_assoc is.front is.back back;
  tells = is.tells;
  others = with_end f g w is.others;
  front_is = is.front_is;
  back_is = spells_by f g are is.back back is.others w is.back_is is_back;
  valued = ap (lift p (with_end f g w)) is.valued ∙ lift_told p (with_end f g w) is.tells is.others;
}
spells_by _ g are front back v w is is_back = absurd are

-- Bytes that don't stand in it.

both : (byte : ℕ) (front back : List ℕ) → HasNo byte front → HasNo byte back → HasNo byte (front ++ back)
both byte front back none_front none_back = rw (list_any-append (λ b. nat_eq b byte) front back, none_front) none_back

no_blank : (byte : ℕ) → is_blank byte ≡ false → (text : List ℕ) → AllPass is_blank text → HasNo byte text
no_blank byte other [] blank = refl
no_blank byte other (b ∷ text) blank =
    or_from _ _ (false_from_ne_true (nat_eq b byte) (λ same. false≢true (sym other ∙ ap is_blank (sym (eqb-true b byte same)) ∙ blank.0))) (no_blank byte other text blank.1)

-- forms whose tags and marks don't have the byte, and that have blanks and digits beside them
abbrev pub IsClean : ℕ → Form → Type 0
IsClean byte End = Unit {0}
IsClean byte (Tag tag · f) = HasNo byte tag × IsClean byte f
IsClean byte (Mark b · f) = (nat_eq b byte ≡ false) × IsClean byte f
IsClean byte (Separator · f) = IsClean byte f
IsClean byte (Gap · f) = IsClean byte f
IsClean byte (Hex most · f) = IsClean byte f
IsClean byte (Decimal · f) = IsClean byte f
IsClean byte _ = ⊥

pub none_in : (byte : ℕ) → is_blank byte ≡ false → 16 ≤ digit_value byte → (f : Form) → IsClean byte f → (text : List ℕ) (v : Value f) → Spells f text v → HasNo byte text
none_in byte other no_digit End clean text v is = rw is refl
none_in byte other no_digit (Tag tag · f) clean text v is =
    rw (is.whole, is.front_is) (both byte tag is.back clean.0 (none_in byte other no_digit f clean.1 is.back is.others is.back_is))
none_in byte other no_digit (Mark b · f) clean text v is =
    rw is.whole (both byte is.front is.back
    (elim is.front_is [
      | inl none ↦ rw none refl
      | inr (separator, whole, separator_is) ↦ rw whole (or_from _ _ clean.0 (no_blank byte other separator separator_is.bytes))
    ])
    (none_in byte other no_digit f clean.1 is.back is.others is.back_is))
none_in byte other no_digit (Separator · f) clean text v is =
    rw is.whole (both byte is.front is.back (no_blank byte other is.front is.front_is.bytes) (none_in byte other no_digit f clean is.back is.others is.back_is))
none_in byte other no_digit (Gap · f) clean text v is =
    rw is.whole (both byte is.front is.back (no_blank byte other is.front is.front_is.bytes) (none_in byte other no_digit f clean is.back is.others is.back_is))
none_in byte other no_digit (Hex most · f) clean text v is =
    rw is.whole (both byte is.front is.back (HasNo-digits 16 byte is.front no_digit is.front_is.digits) (none_in byte other no_digit f clean is.back is.others is.back_is))
none_in byte other no_digit (Decimal · f) clean text v is =
    rw is.whole (both byte is.front is.back (HasNo-digits 10 byte is.front (omega (arith, no_digit)) is.front_is.number.digits) (none_in byte other no_digit f clean is.back is.others is.back_is))
none_in byte other no_digit _ clean text v is = absurd clean

-- a line without a carriage return is its body
its_body : (line : List ℕ) → HasNo carriage_return line → body_at line ≡ Some line
its_body line none = body_again line line (record { ends = []; whole = sym (append-nil line); body_is = passes line none; ends_are = tt }) where
  passes : (text : List ℕ) → HasNo carriage_return text → AllPass (λ b. not (is_carriage_return b)) text
  passes [] none = tt
  passes (b ∷ text) none =
      let parts = or_parts (nat_eq b carriage_return) (list_any (λ c. nat_eq c carriage_return) text) none in
      (ap not parts.0, passes text parts.1)

-- fields, the line's end and a line feed are a line of the form
pub made_of : (f g : Form) → AreFields f → IsClean line_feed f → IsClean carriage_return f → (text front tail rest : List ℕ) (v : Value f) (w : Value g) →
    text ≡ front ++ (tail ++ line_feed ∷ rest) → Spells f front v → Spells g tail w → HasNo line_feed tail → HasNo carriage_return tail →
    IsFormLine (ended_by f g) text (with_end f g w v) rest
made_of f g are no_feed no_return text front tail rest v w whole is ends feed return =
    let line = front ++ tail in
    record {
      line = line;
      cut = whole ∙ sym (append_assoc line (line_feed ∷ []) rest ∙ append_assoc front tail (line_feed ∷ rest));
      no_line_feed = both line_feed front tail (none_in line_feed refl (omega arith) f no_feed front v is) feed;
      body_is = its_body line (both carriage_return front tail (none_in carriage_return refl (omega arith) f no_return front v is) return);
      spells = spells_by f g are front tail v w is ends;
    }

-- so are fields that are read one after another
pub composed : (f g : Form) → AreFields f → IsClean line_feed f → IsClean carriage_return f → (text tail rest : List ℕ) (v : Value f) (w : Value g) →
    reads f text ≡ Some (v, tail ++ line_feed ∷ rest) → Spells g tail w → HasNo line_feed tail → HasNo carriage_return tail →
    IsFormLine (ended_by f g) text (with_end f g w v) rest
composed f g are no_feed no_return text tail rest v w is ends feed return =
    let at = found f text (v, tail ++ line_feed ∷ rest) is in
    made_of f g are no_feed no_return text at.0 tail rest v w at.2 at.1 ends feed return

-- Texts of a form in turn.

turns_on : {A : Type 0} (P : List ℕ → A → Type 0) (front back : List ℕ) (vs : List A) (v : A) → InTurn P front vs → P back v → InTurn P (front ++ back) (vs ++ v ∷ [])
turns_on P front back [] v are is = rw are (back, [], sym (append-nil back), is, refl)
turns_on P front back (u ∷ vs) v (first, others, whole, first_is, are) is =
    (first, others ++ back, ap (λ t. t ++ back) whole ∙ append_assoc first others back, first_is, turns_on P others back vs v are is)

-- none yet
pub turns_none : (f : Form) (text : List ℕ) → AreInTurn f text [] text
turns_none f text = record { front = []; whole = refl; are = refl }

-- one more
pub turns_more : (f : Form) (text middle rest : List ℕ) (vs : List (Value f)) (v : Value f) → AreInTurn f text vs middle → reads f middle ≡ Some (v, rest) →
    AreInTurn f text (vs ++ v ∷ []) rest
turns_more f text middle rest vs v are is =
    let at = found f middle (v, rest) is in
    record {
      front = are.front ++ at.0;
      whole = are.whole ∙ ap (λ t. are.front ++ t) at.2 ∙ sym (append_assoc are.front at.0 rest);
      are = turns_on (Spells f) are.front at.0 vs v are.are at.1;
    }

none_in_turn : (byte : ℕ) → is_blank byte ≡ false → 16 ≤ digit_value byte → (f : Form) → IsClean byte f → (vs : List (Value f)) (text : List ℕ) →
    InTurn (Spells f) text vs → HasNo byte text
none_in_turn byte other no_digit f clean [] text are = rw are refl
none_in_turn byte other no_digit f clean (v ∷ vs) text (first, others, whole, first_is, are) =
    rw whole (both byte first others (none_in byte other no_digit f clean first v first_is) (none_in_turn byte other no_digit f clean vs others are))

-- The records that are read so.

quick_form : (c : Context) (f : Form) (r : Record) (text rest : List ℕ) (value : Value f) (is : IsFormLine f text value rest) → body_record c is.line ≡ Some r →
    begins_with is_white is.line ≡ false → is_nothing is.line ≡ false → IsQuick c text r rest
quick_form c f r text rest value is read solid some = record {
  line = is.line;
  cut = is.cut;
  no_line_feed = is.no_line_feed;
  body_is = is.body_is;
  reads = read;
  solid = solid;
  something = some;
}

-- a digit is no white space
digit_solid : (b : ℕ) → digit_value b < 16 → is_white b ≡ false
digit_solid b small =
    rw (other space (omega arith), other tab (omega arith), other carriage_return (omega arith)) refl where
      other : (c : ℕ) → 16 ≤ digit_value c → nat_eq b c ≡ false
      other c no_digit = ne_eqb b c (λ same. let below = subst (λ (x : ℕ). digit_value x < 16) same small in omega arith)

-- a number begins with no white space, and isn't empty
number_solid : (most value : ℕ) (digits rest : List ℕ) → IsNumber 16 most digits value →
    (begins_with is_white (digits ++ rest) ≡ false) × (is_nothing (digits ++ rest) ≡ false)
number_solid most value [] rest is = absurd (omega (arith, is.positive))
number_solid most value (b ∷ digits) rest is = (digit_solid b is.digits.0, refl)

-- a line record
pub quick_line : (text rest : List ℕ) (value : Value LINE) → IsFormLine LINE text value rest → IsQuick InFunc text (OfFunc (as_line value)) rest
quick_line text rest value is =
    let spells = is.spells in
    let begins = number_solid 16 spells.tells spells.front spells.back spells.front_is in
    quick_form InFunc LINE (OfFunc (as_line value)) text rest value is (rw (form_again LINE refl is.line value spells) refl)
    (ap (begins_with is_white) spells.whole ∙ begins.0) (ap is_nothing spells.whole ∙ begins.1)

-- the first line of the text is read as the line record
pub form_line_in : (text rest : List ℕ) (value : Value LINE) → IsFormLine LINE text value rest → line_in text ≡ Some (source_line value)
form_line_in text rest value is =
    let front : line_front text ≡ is.line = ap line_front is.cut ∙ line_front_of is.line rest is.no_line_feed in
    rw (front, is.body_is, form_again LINE refl is.line value is.spells) refl

-- a line record, from its fields
pub line_found : (text rest : List ℕ) (value : Value LINE) → reads LINE text ≡ Some (value, line_feed ∷ rest) → IsFormLine LINE text value rest
line_found text rest value is = composed LINE End tt tt tt text [] rest value tt is refl refl refl

-- the line begins with the tag of its form
tagged : (tag line : List ℕ) (f : Form) (value : Value f) (is : Spells (Tag tag · f) line value) → line ≡ tag ++ is.back
tagged tag line f value is = is.whole ∙ ap (λ t. t ++ is.back) is.front_is

no_code : (more : List ℕ) → form_at LINE (codes "INLINE " ++ more) ≡ None
unfolding piece_at digits_at
no_code more = refl

-- an INLINE record
quick_inline : (text rest : List ℕ) (value : Value INLINE) → IsFormLine INLINE text value rest → IsQuick InFunc text (OfFunc (as_inline value)) rest
quick_inline text rest value is =
    let begins = tagged (codes "INLINE ") is.line (Gap · Decimal · Separator · Decimal · Separator · Decimal · Separator · Decimal · Many RANGE) value is.spells in
    quick_form InFunc INLINE (OfFunc (as_inline value)) text rest value is (rw (ap (form_at LINE) begins ∙ no_code is.spells.back, form_again INLINE refl is.line value is.spells) refl)
    (ap (begins_with is_white) begins) (ap is_nothing begins)

-- a STACK CFI record
quick_cfi : (text rest : List ℕ) → IsFormLine STACK_CFI text tt rest → IsQuick InCfi text OfCfi rest
quick_cfi text rest is =
    let begins = tagged (codes "STACK CFI") is.line SeparatorText tt is.spells in
    quick_form InCfi STACK_CFI OfCfi text rest tt is (rw (form_again STACK_CFI refl is.line tt is.spells) refl)
    (ap (begins_with is_white) begins) (ap is_nothing begins)

-- with the tag of a FUNC record it is no other one, in no context
no_other : (c : Context) (more : List ℕ) (value : Value FUNC) → form_at FUNC (codes "FUNC" ++ more) ≡ Some value →
    body_record c (codes "FUNC" ++ more) ≡ Some (Top (as_func value))
unfolding piece_at digits_at run_at
no_other Outside more value is = rw is refl
no_other InFunc more value is = rw is refl
no_other InCfi more value is = rw is refl

-- a FUNC record
quick_func : (c : Context) (text rest : List ℕ) (value : Value FUNC) → IsFormLine FUNC text value rest →
    IsQuick c text (Top (as_func value)) rest
quick_func c text rest value is =
    let begins = tagged (codes "FUNC") is.line (Separator · Mark letter_m · Hex 16 · Separator · Hex 8 · Separator · Hex 8 · Separator · Name) value is.spells in
    let read = no_other c is.spells.back value (ap (form_at FUNC) (sym begins) ∙ form_again FUNC refl is.line value is.spells) in
    quick_form c FUNC (Top (as_func value)) text rest value is (ap (body_record c) begins ∙ read) (ap (begins_with is_white) begins) (ap is_nothing begins)

-- the call and the ranges of an INLINE record
pub inline_found : (text middle rest : List ℕ) (call : InlineCall) (ranges : List Range) → reads CALL text ≡ Some (call_told call, middle) → 0 < length ranges →
    AreInTurn RANGE middle (ranges_told ranges) (line_feed ∷ rest) → IsQuick InFunc text (OfFunc (inner_told (inners.Inline call) ranges)) rest
inline_found text middle rest call ranges is some are =
    let none : (byte : ℕ) → is_blank byte ≡ false → 16 ≤ digit_value byte → IsClean byte RANGE → HasNo byte are.front =
    λ byte other no_digit clean. none_in_turn byte other no_digit RANGE clean (ranges_told ranges) are.front are.are in
    quick_inline text rest (inline_told call ranges)
    (composed CALL (Many RANGE) tt (refl, tt) (refl, tt) text are.front rest (call_told call) (ranges_told ranges) (is ∙ ap (λ t. Some (call_told call, t)) are.whole)
    (omega (arith, some, length-map ranges range_told), are.are) (none line_feed refl (omega arith) tt) (none carriage_return refl (omega arith) tt))

-- the fields of the call
pub call_read : (text fields : List ℕ) (depth line file origin : ℕ) → Some (tt, fields) ≡ piece_at (Tag (codes "INLINE ")) text → AreDigits 10 8 fields 0 depth →
    slice_index fields depth ≡ space → AreDigits 10 8 fields (depth + 1) line → slice_index fields line ≡ space → AreDigits 10 8 fields (line + 1) file →
    slice_index fields file ≡ space → AreDigits 10 8 fields (file + 1) origin →
    reads CALL text ≡ Some ((number_between 10 fields 0 depth, (number_between 10 fields (depth + 1) line, (number_between 10 fields (line + 1) file, (number_between 10 fields (file + 1) origin, tt)))), drop origin fields)
call_read text fields depth line file origin is_tag is_depth before_line is_line before_file is_file before_origin is_origin =
    let rest = drop origin fields in
    let origin_read = dec_next End fields file origin tt rest before_origin is_origin refl in
    let file_read = dec_next (Separator · Decimal · End) fields line file (number_between 10 fields (file + 1) origin, tt) rest before_file is_file origin_read in
    let line_read = dec_next (Separator · Decimal · Separator · Decimal · End) fields depth line (number_between 10 fields (line + 1) file, (number_between 10 fields (file + 1) origin, tt)) rest before_line is_line file_read in
    rw (sym is_tag, no_gap fields 0 depth is_depth, dec_read fields 0 depth is_depth, line_read) refl

-- a range
pub range_read : (text : List ℕ) (addr size : ℕ) → slice_index text 0 ≡ space → AreDigits 16 8 text 1 addr → slice_index text addr ≡ space → AreDigits 16 8 text (addr + 1) size →
    reads RANGE text ≡ Some ((number_between 16 text 1 addr, (number_between 16 text (addr + 1) size, tt)), drop size text)
range_read text addr size before_addr is_addr before_size is_size =
    hex_next (Separator · Hex 8 · End) text 0 addr (number_between 16 text (addr + 1) size, tt) (drop size text) before_addr 16 is_addr (omega arith)
    (hex_next End text addr size tt (drop size text) before_size 8 is_size (omega arith) refl)

pub range_kept : (before after : List Range) (range : Range) → after ≡ before ++ range ∷ [] → ranges_told after ≡ ranges_told before ++ range_told range ∷ []
range_kept before after range is = ap (map range_told) is ∙ map-append range_told before (range ∷ [])

-- the fields of a line record
pub line_read : (text : List ℕ) (start size line file : ℕ) (rest : List ℕ) → AreDigits 16 16 text 0 start → slice_index text start ≡ space → AreDigits 16 8 text (start + 1) size →
    slice_index text size ≡ space → AreDigits 10 8 text (size + 1) line → slice_index text line ≡ space → AreDigits 10 8 text (line + 1) file → drop file text ≡ rest →
    reads LINE text ≡ Some ((number_between 16 text 0 start, (number_between 16 text (start + 1) size, (number_between 10 text (size + 1) line, (number_between 10 text (line + 1) file, tt)))), rest)
line_read text start size line file rest is_start before_size is_size before_line is_line before_file is_file ends =
    let file_read = dec_next End text line file tt rest before_file is_file (ap (λ t. Some (tt, t)) ends) in
    let line_read = dec_next (Separator · Decimal · End) text size line (number_between 10 text (line + 1) file, tt) rest before_line is_line file_read in
    let size_read = hex_next (Separator · Decimal · Separator · Decimal · End) text start size (number_between 10 text (size + 1) line, (number_between 10 text (line + 1) file, tt)) rest before_size 8 is_size (omega arith) line_read in
    rw (hex_read text 0 start 16 16 is_start (omega arith), size_read) refl

-- the fields of a FUNC record
abbrev FUNC_FIELDS : Form
FUNC_FIELDS = Tag (codes "FUNC") · Separator · Mark letter_m · Hex 16 · Separator · Hex 8 · Separator · Hex 8 · Separator · End

func_read : (text fields : List ℕ) (start size parameter_size : ℕ) → text ≡ codes "FUNC " ++ fields → AreDigits 16 8 fields 0 start →
    slice_index fields start ≡ space → AreDigits 16 8 fields (start + 1) size → slice_index fields size ≡ space → AreDigits 16 8 fields (size + 1) parameter_size →
    slice_index fields parameter_size ≡ space → begins_with is_blank (drop (parameter_size + 1) fields) ≡ false →
    reads FUNC_FIELDS text ≡ Some ((number_between 16 fields 0 start, (number_between 16 fields (start + 1) size, (number_between 16 fields (size + 1) parameter_size, tt))), drop (parameter_size + 1) fields)
func_read text fields start size parameter_size whole is_start before_size is_size before_parameter is_parameter before_name solid =
    let rest = drop (parameter_size + 1) fields in
    let digits = piece_found (Hex 8) fields (number_between 16 fields 0 start, drop start fields) (hex_read fields 0 start 8 8 is_start (omega arith)) in
    let no_mark : begins_with (goes_on (Mark letter_m)) fields ≡ false
    = ap (begins_with (goes_on (Mark letter_m))) digits.2
    ∙ hex_begins 8 (number_between 16 fields 0 start) (goes_on (Mark letter_m)) (λ b is. or_from _ _ (hex_no_blank b is) (other_than letter_m refl b is)) digits.0 (drop start fields) digits.1 in
    let name_read = next Separator End (drop parameter_size fields) rest rest tt tt (one_space fields parameter_size is_parameter.2 before_name solid) refl in
    let parameter_read = hex_next (Separator · End) fields size parameter_size tt rest before_parameter 8 is_parameter (omega arith) name_read in
    let size_read = hex_next (Separator · Hex 8 · Separator · End) fields start size (number_between 16 fields (size + 1) parameter_size, tt) rest before_size 8 is_size (omega arith) parameter_read in
    rw (
      ap (piece_at (Tag (codes "FUNC"))) whole ∙ piece_again (Tag (codes "FUNC")) (codes "FUNC") (space ∷ fields) tt refl refl,
      one_space (space ∷ fields) 0 (omega arith) refl (hex_solid fields 0 start 8 is_start),
      piece_again (Mark letter_m) [] fields tt (inl refl) no_mark,
      hex_read fields 0 start 8 16 is_start (omega arith),
      size_read,
    ) refl

-- the tag and the fields of a FUNC record, a name and a line feed
pub func_found : (c : Context) (text fields rest : List ℕ) (func : FuncLine) (start size parameter_size : ℕ) → Some (tt, fields) ≡ piece_at (Tag (codes "FUNC ")) text →
    AreDigits 16 8 fields 0 start → slice_index fields start ≡ space → AreDigits 16 8 fields (start + 1) size → slice_index fields size ≡ space →
    AreDigits 16 8 fields (size + 1) parameter_size → slice_index fields parameter_size ≡ space → begins_with is_blank func.name.now ≡ false →
    IsAsciiLine (drop (parameter_size + 1) fields) func.name.now rest → func.start ≡ number_between 16 fields 0 start → func.size ≡ number_between 16 fields (start + 1) size →
    func.parameter_size ≡ number_between 16 fields (size + 1) parameter_size → IsQuick c text (Top (top_told (tops.Func func))) rest
func_found c text fields rest func start size parameter_size is_tag is_start before_size is_size before_parameter is_parameter before_name front name start_is size_is parameter_is =
    let tag = piece_found (Tag (codes "FUNC ")) text (tt, fields) (sym is_tag) in
    let solid = ap (begins_with is_blank) name.cut ∙ before_feed func.name.now rest front in
    let read = func_read text fields start size parameter_size (tag.2 ∙ ap (λ t. t ++ fields) tag.1) is_start before_size is_size before_parameter is_parameter before_name solid in
    let value : Value FUNC_FIELDS = (func.start, (func.size, (func.parameter_size, tt))) in
    let fields_are : reads FUNC_FIELDS text ≡ Some (value, func.name.now ++ line_feed ∷ rest) = read ∙ rw (start_is, size_is, parameter_is, name.cut) refl in
    quick_func c text rest (func_told func)
    (composed FUNC_FIELDS Name tt (refl, (refl, tt)) (refl, (refl, tt)) text func.name.now rest value func.name.now fields_are
    (record { utf8 = plain_utf8 func.name.now name.bytes; front = front }, refl)
    (none_of is_ascii_in_line line_feed refl func.name.now name.bytes) (none_of is_ascii_in_line carriage_return refl func.name.now name.bytes))

-- the tag of a STACK CFI record, a text in ASCII and a line feed
pub cfi_found : (text more tail rest : List ℕ) → Some (tt, more) ≡ piece_at (Tag (codes "STACK CFI ")) text → IsAsciiLine more tail rest →
    IsQuick InCfi text OfCfi rest
cfi_found text more tail rest is_tag ascii =
    let front = piece_found (Tag (codes "STACK CFI ")) text (tt, more) (sym is_tag) in
    let end = space ∷ tail in
    quick_cfi text rest
    (made_of (Tag (codes "STACK CFI") · End) SeparatorText tt (refl, tt) (refl, tt) text (codes "STACK CFI") end rest tt tt
    (front.2 ∙ ap (λ t. t ++ more) front.1 ∙ ap (λ t. codes "STACK CFI " ++ t) ascii.cut)
    (record { front = codes "STACK CFI"; back = []; whole = refl; tells = tt; others = tt; front_is = refl; back_is = refl; valued = refl })
    (record { separator = space ∷ []; more = tail; whole = refl; separator_is = record { bytes = (refl, tt); passes = refl; tells = refl } })
    (none_of is_ascii_in_line line_feed refl tail ascii.bytes) (none_of is_ascii_in_line carriage_return refl tail ascii.bytes))

module _ (c : Context) (text : List ℕ) (r : Record) (rest : List ℕ) (p : IsQuick c text r rest) where
  -- the text is its line, a line feed and the rest after them
  pub quick_length : length text ≡ length p.line + 1 + length rest
  quick_length = omega (arith, ap length p.cut, length-append (ended p.line) rest, length-append p.line (line_feed ∷ []))

  pub quick_shorter : length rest < length text
  quick_shorter = omega (arith, quick_length)

-- a line record is read quickly where its fields end so
pub line_by_ends : (text : List ℕ) (start len : ℕ) (ends : LineEnds) (told : Option StartText) → IfSome told (IsStartText (digits_value 16 (take start text))) → len ≤ length text →
    len ≡ ends.file + 1 → reads LINE text ≡ Some (line_between text start ends, line_feed ∷ drop (ends.file + 1) text) → IsQuickLine text (record { len = len; start = told })
line_by_ends text start len ends told start_is within len_is reads_so =
    let all : start - 0 ≡ start = omega arith in
    let form = line_found text (drop len text) (line_between text start ends) (reads_so ∙ ap (λ n. Some (line_between text start ends, line_feed ∷ drop n text)) (sym len_is)) in
    record {
      value = line_between text start ends;
      form = form;
      length_is = omega (arith, within, ap length form.cut, length-append (ended form.line) (drop len text), length-append form.line (line_feed ∷ []), length-drop len text);
      start_is = subst (λ n. IfSome told (IsStartText (digits_value 16 (take n text)))) (sym all) start_is;
    }
