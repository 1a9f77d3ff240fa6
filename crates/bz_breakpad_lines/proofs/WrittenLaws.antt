-- What is written of records is read as them.
use Rattle.std.proofs.Common.{◌≡◌, ℕ, zero, suc, ◌+◌, ◌*◌, ◌/◌, ◌%◌, ◌^◌, ◌<◌, ◌≤◌, Bool, true, false, cond, not, ◌&&◌, ◌||◌, nat_eq, nat_lt, nat_le, inl, inr, List, [], ◌∷◌, ◌++◌, map, length, drop, decimal, refl, sym, ap, subst, append-nil, arith}
use Rattle.std.specs.Char.{digit_value}
use Rattle.std.specs.Fmt.{digits, digit_glyph, digits_onto}
use Rattle.std.specs.List.{AllByRecursion, flat_map, list_all}
use Rattle.std.specs.Str.Parse.{AllDigits}
use Rattle.std.proofs.lemmas.Bool.{agree_below_at, and_parts, or_parts, true≢false, not-true, lt-ltb, ltb-true, leb-true}
use Rattle.std.proofs.lemmas.Fmt.{digits_is_IsNumeral, decimal_is_IsNumeral, length-decimal-le}
use Rattle.std.proofs.Math.Nat.{pow-suc, pow-le-pow_right}
use Rattle.bz_base.specs.Byte.{HasNo, begins_with, carriage_return, line_feed}
use Rattle.bz_base.specs.Line.{ended}
use Rattle.bz_base.specs.Number.{IsNumber}
use Rattle.bz_breakpad_lines.specs.Byte.{is_carriage_return, is_white, is_within_line}
use Rattle.bz_breakpad_lines.specs.Choice.{One, SpellsOne}
use Rattle.bz_breakpad_lines.specs.Form.{Piece, Form, Tell, With, Value, AllPass, IsPiece, InTurn, Spells, greatest, told}
use Rattle.bz_breakpad_lines.specs.Form.Piece.{Tag, Mark, Separator, ModuleSeparator, Gap, Word, Hex, Decimal}
use Rattle.bz_breakpad_lines.specs.Form.Form.{End, Name, SeparatorText, Many, ◌·◌}
use Rattle.bz_breakpad_lines.specs.Grammar.{Accepted, AreRoles, IsNoModule, IsRecordLine, Role, records_of, under_owner}
use Rattle.bz_breakpad_lines.specs.Grammar.Role.{Is}
use Rattle.bz_breakpad_lines.specs.Records.{TOP, INNER, STACK_CFI}
use Rattle.bz_breakpad_lines.specs.Says.{table_of}
use Rattle.bz_breakpad_lines.specs.Contexts.{Context, Record, IsBodyOf, IsUnder, context_after}
use Rattle.bz_breakpad_lines.specs.Contexts.Context.{Outside, InFunc, InCfi}
use Rattle.bz_breakpad_lines.specs.Contexts.Record.{Top, OfFunc, OfCfi}
use Rattle.bz_breakpad_lines.specs.Written.{FormFits, OneFits, PieceFits, RecordFits, first_told, form_text, one_text, piece_text, record_text, records_text, rest_told}
use Rattle.bz_breakpad_lines.proofs.RoleLaws.{context_kept}
use Rattle.bz_breakpad_lines.proofs.StartLemmas.{digit_byte}

-- Numbers.

some_left : (m : ℕ) → nat_eq m 0 ≡ false → 0 < m
some_left zero is = absurd (true≢false is)
some_left (suc m) is = omega arith

-- a number below a power of 16 has no more digits than this
hex_len : (k n most : ℕ) (after : List ℕ) → n < 16 ^ suc most → length (digits_onto k 16 false n after) ≤ suc most + length after
hex_len zero n most after below = omega arith
hex_len (suc k) n most after below =
    by (nat_eq (n / 16) 0) refl most below (λ fewer small. hex_len k (n / 16) fewer (digit_glyph false (n % 16) ∷ after) small) where
      by : (ends : Bool) → nat_eq (n / 16) 0 ≡ ends → (most : ℕ) → n < 16 ^ suc most →
          ((fewer : ℕ) → n / 16 < 16 ^ suc fewer → length (digits_onto k 16 false (n / 16) (digit_glyph false (n % 16) ∷ after)) ≤ suc fewer + suc (length after)) →
          length (cond ends (digit_glyph false (n % 16) ∷ after) (digits_onto k 16 false (n / 16) (digit_glyph false (n % 16) ∷ after))) ≤ suc most + length after
      by true is most below more = omega arith
      by false is zero below more = absurd (omega (arith, some_left (n / 16) is))
      by false is (suc most) below more =
          let wide : 16 ^ suc (suc most) ≡ 16 ^ suc most * 16 = pow-suc 16 (suc most) in
          omega (arith, more most (omega (arith, below, wide)))

hex_is : (most : ℕ) → (nat_lt 0 most && nat_le most 64) ≡ true → (n : ℕ) → n < 16 ^ most → IsNumber 16 most (digits 16 false n) n
unfolding digits
hex_is zero fits n below = absurd (omega (arith, ltb-true 0 0 (and_parts (nat_lt 0 0) (nat_le 0 64) fits).0))
hex_is (suc most) fits n below =
    let few : suc most ≤ 64 = leb-true (suc most) 64 (and_parts (nat_lt 0 (suc most)) (nat_le (suc most) 64) fits).1 in
    let wide = pow-le-pow_right {n = 16} (omega arith) few in
    let small : n < 16 ^ 64 = omega (arith, below, wide) in
    let is = digits_is_IsNumeral 16 false (omega arith) (omega arith) n small in
    record { positive = is.0.0; few = omega (arith, hex_len 64 n most [] below); digits = is.0.1; valued = sym is.1 }

pub decimal_is : (n : ℕ) → n ≤ greatest → IsNumber 10 10 (decimal n) n
decimal_is n fits =
    let is = decimal_is_IsNumeral n (omega arith) in
    record { positive = is.0.0; few = length-decimal-le 10 n (omega arith) (omega arith) (omega arith); digits = is.0.1; valued = sym is.1 }

-- a digit ends no line, and is no white space
digit_in_line : (b : ℕ) → digit_value b < 16 → is_within_line b ≡ true
digit_in_line b small =
    let agree = agree_below_at (λ c. not (nat_lt (digit_value c) 16) || is_within_line c) (λ c. true) 256 b refl (digit_byte b small) in
    rw (lt-ltb (digit_value b) 16 small) at agree

digit_no_white : (b : ℕ) → digit_value b < 16 → is_white b ≡ false
digit_no_white b small =
    let agree = agree_below_at (λ c. not (nat_lt (digit_value c) 16) || not (is_white c)) (λ c. true) 256 b refl (digit_byte b small) in
    not-true (is_white b) (rw (lt-ltb (digit_value b) 16 small) at agree)

pub digits_in_line : (base : ℕ) → base ≤ 16 → (text : List ℕ) → AllDigits base text → AllPass is_within_line text
digits_in_line base low [] all = tt
digits_in_line base low (b ∷ text) all = (digit_in_line b (omega (arith, all.0)), digits_in_line base low text all.1)

digits_no_white : (text : List ℕ) → 0 < length text → AllDigits 16 text → (rest : List ℕ) → begins_with is_white (text ++ rest) ≡ false
digits_no_white [] some all rest = absurd (omega arith)
digits_no_white (b ∷ text) some all rest = digit_no_white b all.0

-- Forms.

-- what is written of the piece is read as it, and stays in its line
abbrev is_plain_piece : Piece → Bool
is_plain_piece (Tag tag) = list_all is_within_line tag
is_plain_piece (Hex most) = nat_lt 0 most && nat_le most 64
is_plain_piece _ = true

abbrev pub is_plain : Form → Bool
is_plain (Many f) = is_plain f
is_plain (p · f) = is_plain_piece p && is_plain f
is_plain _ = true

abbrev pub are_plain : List Form → Bool
are_plain [] = true
are_plain (f ∷ forms) = is_plain f && are_plain forms

piece_is : (p : Piece) → is_plain_piece p ≡ true → (v : Tell p) → PieceFits p v → IsPiece p (piece_text p v) v
piece_is (Tag tag) plain v fits = refl
piece_is (Mark b) plain v fits = inl refl
piece_is Separator plain v fits = record { bytes = (refl, tt); passes = refl; tells = refl }
piece_is ModuleSeparator plain v fits = record { bytes = (refl, tt); passes = refl; tells = refl }
piece_is Gap plain v fits = record { bytes = tt; passes = refl; tells = refl }
piece_is Word plain v fits = record { bytes = (refl, tt); passes = refl; tells = refl }
piece_is (Hex most) plain v fits = hex_is most plain v fits
piece_is Decimal plain v fits = record { number = decimal_is v fits; fits = fits }

told_again : (p : Piece) (A : Type 0) (v : With p A) → v ≡ told p (first_told p A v) (rest_told p A v)
told_again (Tag t) A v = refl
told_again (Mark b) A v = refl
told_again Separator A v = refl
told_again ModuleSeparator A v = refl
told_again Gap A v = refl
told_again Word A v = refl
told_again (Hex most) A v = refl
told_again Decimal A v = refl

in_turn : (f : Form) → ((v : Value f) → FormFits f v → Spells f (form_text f v) v) → (values : List (Value f)) →
    AllByRecursion (FormFits f) values → InTurn (Spells f) (flat_map (form_text f) values) values
in_turn f each [] fit = refl
in_turn f each (v ∷ values) fit = (form_text f v, flat_map (form_text f) values, refl, each v fit.0, in_turn f each values fit.1)

-- the text tells the value
pub spelled : (f : Form) → is_plain f ≡ true → (v : Value f) → FormFits f v → Spells f (form_text f v) v
spelled End plain v fits = refl
spelled Name plain v fits = (fits.name_is, refl)
spelled SeparatorText plain v fits = record { separator = 32 ∷ []; more = 45 ∷ []; whole = refl; separator_is = record { bytes = (refl, tt); passes = refl; tells = refl } }
spelled (Many f) plain values fits = (fits.0, in_turn f (spelled f plain) values fits.1)
spelled (p · f) plain v fits =
    let parts = and_parts (is_plain_piece p) (is_plain f) plain in
    record {
      front = piece_text p (first_told p (Value f) v);
      back = form_text f (rest_told p (Value f) v);
      whole = refl;
      tells = first_told p (Value f) v;
      others = rest_told p (Value f) v;
      front_is = piece_is p parts.0 (first_told p (Value f) v) fits.0;
      back_is = spelled f parts.1 (rest_told p (Value f) v) fits.1;
      valued = told_again p (Value f) v;
    }

pub one_spelled : (forms : List Form) → are_plain forms ≡ true → (one : One forms) → OneFits forms one → SpellsOne forms (one_text forms one) one
one_spelled [] plain one fits = absurd one
one_spelled (f ∷ forms) plain (inl v) fits = spelled f (and_parts (is_plain f) (are_plain forms) plain).0 v fits
one_spelled (f ∷ forms) plain (inr other) fits = one_spelled forms (and_parts (is_plain f) (are_plain forms) plain).1 other fits

-- Bytes that end no line.

all_append : (test : ℕ → Bool) (front back : List ℕ) → AllPass test front → AllPass test back → AllPass test (front ++ back)
all_append test [] back all more = more
all_append test (b ∷ front) back all more = (all.0, all_append test front back all.1 more)

pub all_from : (test : ℕ → Bool) (text : List ℕ) → list_all test text ≡ true → AllPass test text
all_from test [] all = tt
all_from test (b ∷ text) all = let parts = and_parts (test b) (list_all test text) all in (parts.0, all_from test text parts.1)

piece_in_line : (p : Piece) → is_plain_piece p ≡ true → (v : Tell p) → PieceFits p v → AllPass is_within_line (piece_text p v)
piece_in_line (Tag tag) plain v fits = all_from is_within_line tag plain
piece_in_line (Mark b) plain v fits = tt
piece_in_line Separator plain v fits = (refl, tt)
piece_in_line ModuleSeparator plain v fits = (refl, tt)
piece_in_line Gap plain v fits = tt
piece_in_line Word plain v fits = (refl, tt)
piece_in_line (Hex most) plain v fits = digits_in_line 16 (omega arith) (digits 16 false v) (hex_is most plain v fits).digits
piece_in_line Decimal plain v fits = digits_in_line 10 (omega arith) (decimal v) (decimal_is v fits).digits

all_in_line : (f : Form) → ((v : Value f) → FormFits f v → AllPass is_within_line (form_text f v)) → (values : List (Value f)) →
    AllByRecursion (FormFits f) values → AllPass is_within_line (flat_map (form_text f) values)
all_in_line f each [] fit = tt
all_in_line f each (v ∷ values) fit =
    all_append is_within_line (form_text f v) (flat_map (form_text f) values) (each v fit.0) (all_in_line f each values fit.1)

form_in_line : (f : Form) → is_plain f ≡ true → (v : Value f) → FormFits f v → AllPass is_within_line (form_text f v)
form_in_line End plain v fits = tt
form_in_line Name plain v fits = fits.within
form_in_line SeparatorText plain v fits = (refl, (refl, tt))
form_in_line (Many f) plain values fits = all_in_line f (form_in_line f plain) values fits.1
form_in_line (p · f) plain v fits =
    let parts = and_parts (is_plain_piece p) (is_plain f) plain in
    all_append is_within_line (piece_text p (first_told p (Value f) v)) (form_text f (rest_told p (Value f) v)) (piece_in_line p parts.0 (first_told p (Value f) v) fits.0)
    (form_in_line f parts.1 (rest_told p (Value f) v) fits.1)

one_in_line : (forms : List Form) → are_plain forms ≡ true → (one : One forms) → OneFits forms one → AllPass is_within_line (one_text forms one)
one_in_line [] plain one fits = absurd one
one_in_line (f ∷ forms) plain (inl v) fits = form_in_line f (and_parts (is_plain f) (are_plain forms) plain).0 v fits
one_in_line (f ∷ forms) plain (inr other) fits = one_in_line forms (and_parts (is_plain f) (are_plain forms) plain).1 other fits

-- No text begins with white space.

abbrev starts_solid : Form → Bool
starts_solid (Tag (t ∷ tag) · f) = not (is_white t)
starts_solid (Hex most · f) = nat_lt 0 most && nat_le most 64
starts_solid _ = false

abbrev start_solid : List Form → Bool
start_solid [] = true
start_solid (f ∷ forms) = starts_solid f && start_solid forms

form_solid : (f : Form) → starts_solid f ≡ true → (v : Value f) → FormFits f v → begins_with is_white (form_text f v) ≡ false
form_solid (Tag (t ∷ tag) · f) solid v fits = not-true (is_white t) solid
form_solid (Hex most · f) solid v fits =
    let is = hex_is most solid v.0 fits.0 in
    digits_no_white (digits 16 false v.0) is.positive is.digits (form_text f v.1)
form_solid _ solid v fits = absurd (true≢false (sym solid))

one_solid : (forms : List Form) → start_solid forms ≡ true → (one : One forms) → OneFits forms one → begins_with is_white (one_text forms one) ≡ false
one_solid [] solid one fits = absurd one
one_solid (f ∷ forms) solid (inl v) fits = form_solid f (and_parts (starts_solid f) (start_solid forms) solid).0 v fits
one_solid (f ∷ forms) solid (inr other) fits = one_solid forms (and_parts (starts_solid f) (start_solid forms) solid).1 other fits

-- Records.

record_in_line : (r : Record) → RecordFits r → AllPass is_within_line (record_text r)
record_in_line (Top one) fits = one_in_line TOP refl one fits
record_in_line (OfFunc one) fits = one_in_line INNER refl one fits
record_in_line OfCfi fits = form_in_line STACK_CFI refl tt (tt, tt)

record_solid : (r : Record) → RecordFits r → begins_with is_white (record_text r) ≡ false
record_solid (Top one) fits = one_solid TOP refl one fits
record_solid (OfFunc one) fits = one_solid INNER refl one fits
record_solid OfCfi fits = refl

no_ends : (text : List ℕ) → AllPass is_within_line text → AllPass (λ b. not (is_carriage_return b)) text
no_ends [] all = tt
no_ends (b ∷ text) all = (rw (or_parts (nat_eq b line_feed) (nat_eq b carriage_return) (not-true _ all.0)).1 refl, no_ends text all.1)

no_line_feed : (text : List ℕ) → AllPass is_within_line text → HasNo line_feed text
no_line_feed [] all = refl
no_line_feed (b ∷ text) all = rw (or_parts (nat_eq b line_feed) (nat_eq b carriage_return) (not-true _ all.0)).0 (no_line_feed text all.1)

-- a record may stand under the owner: one by itself where no record under the owner has its text
abbrev pub StandsIn : Context → Record → Type 0
StandsIn c (Top one) = (r : Record) → IsUnder c (one_text TOP one) r → ⊥
StandsIn c (OfFunc one) = c ≡ InFunc
StandsIn c OfCfi = c ≡ InCfi

abbrev pub Stand : Context → List Record → Type 0
Stand c [] = Unit {0}
Stand c (r ∷ records) = StandsIn c r × Stand (context_after r) records

body_is : (c : Context) (r : Record) → RecordFits r → StandsIn c r → IsBodyOf c (record_text r) r
body_is c (Top one) fits stands = (stands, one_spelled TOP refl one fits)
body_is c (OfFunc one) fits stands =
    let P : Context → Type 0 = λ d. IsUnder d (one_text INNER one) (OfFunc one) in
    subst P (sym stands) (one_spelled INNER refl one fits)
body_is c OfCfi fits stands =
    let P : Context → Type 0 = λ d. IsUnder d (form_text STACK_CFI tt) OfCfi in
    subst P (sym stands) (spelled STACK_CFI refl tt (tt, tt))

-- a line that is the record under the owner, and may stand after white space or not
pub record IsWritten (c : Context) (text : List ℕ) (r : Record) : Type 0 where
  pub within : AllPass is_within_line text
  pub solid : begins_with is_white text ≡ false
  pub record_is : IsBodyOf c text r

-- lines that are the records, the first of them under the owner
abbrev pub AreWritten : Context → List (List ℕ) → List Record → Type 0
AreWritten c [] [] = Unit {0}
AreWritten c (text ∷ texts) (r ∷ records) = IsWritten c text r × AreWritten (context_after r) texts records
AreWritten c _ _ = ⊥

line_is : (before : List Role) (text : List ℕ) (r : Record) → IsWritten (under_owner before) text r → IsRecordLine before text r
line_is before text r is = record {
  text = text;
  text_is = record { front = []; whole = refl; white = tt; bound = λ _. refl; longest = λ _. is.solid };
  record_is = (text, record { ends = []; whole = sym (append-nil text); body_is = no_ends text is.within; ends_are = tt }, is.record_is);
}

roles_are : (before : List Role) (texts : List (List ℕ)) (records : List Record) → AreWritten (under_owner before) texts records →
    AreRoles before texts (map Is records)
roles_are before [] [] are = tt
roles_are before [] (r ∷ records) are = absurd are
roles_are before (text ∷ texts) [] are = absurd are
roles_are before (text ∷ texts) (r ∷ records) are =
    let line = line_is before text r are.0 in
    let P : Context → Type 0 = λ c. AreWritten c texts records in
    (line, roles_are (Is r ∷ before) texts records (subst P (context_kept before line.text r line.record_is) are.1))

records_again : (records : List Record) → records_of (map Is records) ≡ records
records_again [] = refl
records_again (r ∷ records) = ap (λ rs. r ∷ rs) (records_again records)

lines_are : (c : Context) (texts : List (List ℕ)) (records : List Record) → AreWritten c texts records → AllByRecursion (HasNo line_feed) texts
lines_are c [] [] are = tt
lines_are c [] (r ∷ records) are = absurd are
lines_are c (text ∷ texts) [] are = absurd are
lines_are c (text ∷ texts) (r ∷ records) are = (no_line_feed text are.0.within, lines_are (context_after r) texts records are.1)

some_lines : (c : Context) (texts : List (List ℕ)) (records : List Record) → AreWritten c texts records → 0 < length records → 0 < length texts
some_lines c [] [] are some = some
some_lines c [] (r ∷ records) are some = absurd are
some_lines c (text ∷ texts) records are some = omega arith

-- such lines are a file, and its table is that of the records
pub lines_accepted : (texts : List (List ℕ)) (records : List Record) → 0 < length records → AreWritten Outside texts records →
    AllByRecursion IsNoModule (drop 1 records) → Accepted (flat_map ended texts) (table_of records) (length records)
lines_accepted texts records some are first =
    let same = records_again records in
    record {
      lines = texts;
      roles = map Is records;
      positive = some_lines Outside texts records are some;
      are_lines = record { whole = refl; no_line_feed = lines_are Outside texts records are };
      are_roles = roles_are [] texts records are;
      module_first = let P : List Record → Type 0 = λ rs. AllByRecursion IsNoModule (drop 1 rs) in subst P (sym same) first;
      says = ap table_of (sym same);
      counts = ap length (sym same);
    }

-- records that fit and may stand so are written
pub are_written : (c : Context) (records : List Record) → AllByRecursion RecordFits records → Stand c records → AreWritten c (map record_text records) records
are_written c [] fit stand = tt
are_written c (r ∷ records) fit stand = (
  record { within = record_in_line r fit.0; solid = record_solid r fit.0; record_is = body_is c r fit.0 stand.0 },
  are_written (context_after r) records fit.1 stand.1,
)

-- so they are a file, and its table is theirs
pub written_accepted : (records : List Record) → 0 < length records → AllByRecursion RecordFits records → Stand Outside records →
    AllByRecursion IsNoModule (drop 1 records) → Accepted (records_text records) (table_of records) (length records)
written_accepted records some fit stand first = lines_accepted (map record_text records) records some (are_written Outside records fit stand) first
