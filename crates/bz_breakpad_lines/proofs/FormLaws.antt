-- A form is read exactly as its texts say, and each of them tells one value only.
use Rattle.std.proofs.Common.{◌≡◌, ℕ, ◌<◌, true, false, not, ◌&&◌, List, [], ◌∷◌, ◌++◌, length, Some, option_map, refl, sym, ap, subst, ◌∙◌, arith, append_assoc, append-nil, length-append}
use Rattle.std.specs.Str.{is_utf8}
use Rattle.std.proofs.lemmas.Bool.{and_parts, not-true, false≢true}
use Rattle.std.proofs.lemmas.Option.{cond_some, same_Some, none-some}
use Rattle.std.proofs.lemmas.Str.{IsUtf8-from_is_utf8, is_utf8-from_IsUtf8}
use Rattle.bz_base.specs.Bind.{◌>>=◌}
use Rattle.bz_base.specs.Byte.{is_blank, begins_with}
use Rattle.bz_breakpad_lines.specs.Form.{Form, Value, told, IsSeparatorText, Spells}
use Rattle.bz_breakpad_lines.specs.Form.Form.{End, Name, SeparatorText, Many, ◌·◌}
use Rattle.bz_breakpad_lines.specs.Reads.{piece_at, name_at, many_at, reads, complete, form_at, IsReadExactly}
use Rattle.bz_breakpad_lines.proofs.Apart.{Follows, is_set, before, closed, separator_first, at_end, closed_follows, separator_front, apart}
use Rattle.bz_breakpad_lines.proofs.Pieces.{piece_found, piece_again, separator_begins}
use Rattle.bz_breakpad_lines.proofs.Turns.{bind_some, map_some, many_found, many_again}

-- what was read stands at the front, and the rest after it
abbrev Found : (f : Form) → List ℕ → Value f × List ℕ → Type 0
Found f text read = (front : List ℕ) × Spells f front read.0 × (text ≡ front ++ read.1)

begins_separator_text : (text : List ℕ) → begins_with is_blank text ≡ true → IsSeparatorText text
begins_separator_text [] begins = absurd (false≢true begins)
begins_separator_text (b ∷ text) begins = record { separator = b ∷ []; more = text; whole = refl; separator_is = record { bytes = (begins, tt); passes = refl; tells = refl } }

name_found : (text : List ℕ) (read : List ℕ × List ℕ) → name_at text ≡ Some read → Found Name text read
unfolding name_at
name_found text read is =
    let parts = cond_some (not (begins_with is_blank text) && is_utf8 text) (text, []) read is in
    let tests = and_parts (not (begins_with is_blank text)) (is_utf8 text) parts.0 in
    subst (λ r. Found Name text r) parts.1
    (text, (record { utf8 = IsUtf8-from_is_utf8 text tests.1; front = not-true (begins_with is_blank text) tests.0 }, refl), sym (append-nil text))

pub found : (f : Form) (text : List ℕ) (read : Value f × List ℕ) → reads f text ≡ Some read → Found f text read
found End text read is = ([], refl, ap (λ r. r.1) (same_Some (tt, text) read is))
found Name text read is = name_found text read is
found SeparatorText text read is =
    let parts = cond_some (begins_with is_blank text) (tt, []) read is in
    subst (λ r. Found SeparatorText text r) parts.1 (text, begins_separator_text text parts.0, sym (append-nil text))
found (Many f) text read is =
    let values = map_some (λ vs. (vs, [])) (many_at (reads f) text) read is in
    subst (λ r. Found (Many f) text r) values.2
    (text, many_found (Spells f) (reads f) (found f) text values.0 values.1, sym (append-nil text))
found (p · f) text read is =
    let first = bind_some (piece_at p text) _ read is in
    let others = map_some (λ y. (told p first.0.0 y.0, y.1)) (reads f first.0.1) read first.2 in
    let piece = piece_found p text first.0 first.1 in
    let rest = found f first.0.1 others.0 others.1 in
    subst (λ r. Found (p · f) text r) others.2 (
      piece.0 ++ rest.0,
      record {
        front = piece.0;
        back = rest.0;
        whole = refl;
        tells = first.0.0;
        others = others.0.0;
        front_is = piece.1;
        back_is = rest.1;
        valued = refl;
      },
      piece.2 ∙ ap (λ back. piece.0 ++ back) rest.2 ∙ sym (append_assoc piece.0 rest.0 others.0.1),
    )

name_again : (name : List ℕ) → begins_with is_blank name ≡ false → is_utf8 name ≡ true → name_at name ≡ Some (name, [])
unfolding name_at
name_again name front utf8 = rw (front, utf8) refl

pub again : (f : Form) → is_set f ≡ true → (front rest : List ℕ) (value : Value f) → Spells f front value → Follows f rest →
    reads f (front ++ rest) ≡ Some (value, rest)
again End sets front rest value is follows = rw is refl
again Name sets front rest value is follows =
    rw (follows, append-nil front, is.1) (name_again front is.0.front (is_utf8-from_IsUtf8 front is.0.utf8))
again SeparatorText sets front rest value is follows =
    rw (is.whole, append_assoc is.separator is.more rest, separator_begins is.separator (is.more ++ rest) is.separator_is, follows) refl
again (Many f) sets front rest values is follows =
    let parts = and_parts (separator_first f) (closed f && is_set f) sets in
    let inner = and_parts (closed f) (is_set f) parts.1 in
    rw (follows, append-nil front)
    (ap (option_map (λ vs. (vs, [])))
    (many_again (Spells f) (reads f)
    (λ x y v sp. separator_front f parts.0 x y v sp)
    (λ x y v sp stops. again f inner.1 x y v sp (closed_follows f inner.0 y stops))
    values front is.1 is.0))
again (p · f) sets front rest value is follows =
    let parts = and_parts (before p f) (is_set f) sets in
    rw (
      is.whole,
      append_assoc is.front is.back rest,
      piece_again p is.front (is.back ++ rest) is.tells is.front_is (apart p f parts.0 is.back rest is.others is.back_is follows),
      again f parts.1 is.back rest is.others is.back_is follows,
      is.valued,
    ) refl

complete_found : (f : Form) (text : List ℕ) (value : Value f) (read : Value f × List ℕ) → Found f text read → complete read ≡ Some value → Spells f text value
complete_found f text value (v, []) at is =
    let whole = at.2 ∙ append-nil at.0 in
    subst (λ w. Spells f text w) (same_Some v value is) (subst (λ t. Spells f t v) (sym whole) at.1)
complete_found f text value (v, b ∷ rest) at is = absurd (none-some value is)

-- what a line is read as, it spells
pub form_found : (f : Form) (line : List ℕ) (value : Value f) → form_at f line ≡ Some value → Spells f line value
form_found f line value is =
    let first = bind_some (reads f line) complete value is in
    complete_found f line value first.0 (found f line first.0 first.1) first.2

-- what a line spells, it is read as
pub form_again : (f : Form) → is_set f ≡ true → (line : List ℕ) (value : Value f) → Spells f line value → form_at f line ≡ Some value
form_again f sets line value is =
    ap (λ text. reads f text >>= complete) (sym (append-nil line))
    ∙ ap (λ o. o >>= complete) (again f sets line [] value is (at_end f))

pub read_exactly : (f : Form) → is_set f ≡ true → IsReadExactly f
read_exactly f sets line value = (form_found f line value, form_again f sets line value)

some_blank : (text : List ℕ) → begins_with is_blank text ≡ true → 0 < length text
some_blank [] begins = absurd (false≢true begins)
some_blank (b ∷ text) begins = omega arith

-- a form that begins with a blank takes something
pub shorter : (f : Form) → separator_first f ≡ true → (text : List ℕ) (read : Value f × List ℕ) → reads f text ≡ Some read → length read.1 < length text
shorter f first text read is =
    let at = found f text read is in
    let some = some_blank at.0 (rw (append-nil at.0) at (separator_front f first at.0 [] read.0 at.1)) in
    omega (arith, ap length at.2, length-append at.0 read.1)
