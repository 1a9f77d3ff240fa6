-- One of several forms is read exactly, where no line has two of them.
use Rattle.std.proofs.Common.{◌≡◌, ℕ, Bool, true, false, if◌then◌else◌, not, ◌&&◌, inl, inr, List, [], ◌∷◌, ◌++◌, take, drop, Option, Some, None, nat_eq, refl, sym, ap, subst, ◌∙◌, arith}
use Rattle.std.specs.List.{prefix_len, list_all}
use Rattle.std.specs.Char.{digit_value}
use Rattle.std.proofs.lemmas.Bool.{lt-ltb, eq-eqb, and_parts, not-true, false≢true, true≢false}
use Rattle.std.proofs.lemmas.List.{take-append-drop}
use Rattle.std.proofs.lemmas.Option.{cond_some, same_Some, none-some}
use Rattle.std.proofs.Math.Seq.{take-append_seam, drop-append_seam}
use Rattle.bz_base.specs.Bind.{◌>>=◌}
use Rattle.bz_base.specs.Byte.{begins_with}
use Rattle.bz_breakpad_lines.specs.Byte.{is_hex, is_carriage_return}
use Rattle.bz_breakpad_lines.specs.Form.{Form, Value, AllPass, IsPiece, Spells}
use Rattle.bz_breakpad_lines.specs.Form.Piece.{Tag, Hex}
use Rattle.bz_breakpad_lines.specs.Form.Form.{◌·◌}
use Rattle.bz_breakpad_lines.specs.Reads.{form_at}
use Rattle.bz_breakpad_lines.specs.Choice.{One, SpellsOne, or_else, one_at, IsBody, body_at, AreReadExactly}
use Rattle.bz_breakpad_lines.proofs.Apart.{is_set}
use Rattle.bz_breakpad_lines.proofs.FormLaws.{form_found, form_again}
use Rattle.bz_breakpad_lines.proofs.Runs.{front_passes, run_len}
use Rattle.bz_breakpad_lines.proofs.Turns.{bind_some, map_some}

-- the tags differ at a byte that both have
abbrev pub differ : List ℕ → List ℕ → Bool
differ [] other = false
differ (t ∷ tag) [] = false
differ (t ∷ tag) (u ∷ other) = if nat_eq t u then differ tag other else true

-- no text has both forms
abbrev pub clash : Form → Form → Bool
clash (Tag tag · f) (Tag other · g) = differ tag other
clash (Hex most · f) (Tag (t ∷ other) · g) = not (is_hex t)
clash _ _ = false

-- the form clashes with each of the others
abbrev pub clashes : Form → List Form → Bool
clashes f [] = true
clashes f (g ∷ forms) = clash f g && clashes f forms

-- each form is well set, and no text has two of them
abbrev pub are_set : List Form → Bool
are_set [] = true
are_set (f ∷ forms) = is_set f && (clashes f forms && are_set forms)

differ_fronts : (tag other x y : List ℕ) → differ tag other ≡ true → tag ++ x ≡ other ++ y → ⊥
differ_fronts [] other x y differs same = false≢true differs
differ_fronts (t ∷ tag) [] x y differs same = false≢true differs
differ_fronts (t ∷ tag) (u ∷ other) x y differs same =
    differ_fronts tag other x y (rw (eq-eqb t u (cc)) at differs) (cc)

hex_begins : (most value : ℕ) (run rest : List ℕ) → IsPiece (Hex most) run value → begins_with is_hex (run ++ rest) ≡ true
hex_begins most value [] rest is = absurd (omega (arith, is.positive))
hex_begins most value (b ∷ run) rest is = lt-ltb (digit_value b) 16 is.digits.0

clash_texts : (f g : Form) → clash f g ≡ true → (text : List ℕ) (v : Value f) (w : Value g) → Spells f text v → Spells g text w → ⊥
clash_texts (Tag tag · f) (Tag other · g) clashes text v w is at =
    differ_fronts tag other is.back at.back clashes
    (ap (λ x. x ++ is.back) (sym is.front_is) ∙ sym is.whole ∙ at.whole ∙ ap (λ x. x ++ at.back) at.front_is)
clash_texts (Hex most · f) (Tag (t ∷ other) · g) clashes text v w is at =
    let begins : begins_with is_hex text ≡ true = rw is.whole (hex_begins most is.tells is.front is.back is.front_is) in
    let tagged : begins_with is_hex text ≡ is_hex t = ap (begins_with is_hex) at.whole ∙ ap (λ x. begins_with is_hex (x ++ at.back)) at.front_is in
    true≢false (sym begins ∙ tagged ∙ not-true (is_hex t) clashes)
clash_texts _ _ clashes text v w is at = false≢true clashes

-- a line that has one of the others doesn't have the form
no_other : (f : Form) (forms : List Form) → clashes f forms ≡ true → (text : List ℕ) (v : Value f) (one : One forms) →
    Spells f text v → SpellsOne forms text one → ⊥
no_other f [] clashing text v one is at = at
no_other f (g ∷ forms) clashing text v (inl w) is at =
    clash_texts f g (and_parts (clash f g) (clashes f forms) clashing).0 text v w is at
no_other f (g ∷ forms) clashing text v (inr one) is at =
    no_other f forms (and_parts (clash f g) (clashes f forms) clashing).1 text v one is at

or_else_found : (f : Form) (forms : List Form) (text : List ℕ) (o : Option (Value f)) (p : Option (One forms)) (one : One (f ∷ forms)) →
    ((v : Value f) → o ≡ Some v → Spells f text v) → ((other : One forms) → p ≡ Some other → SpellsOne forms text other) →
    or_else o p ≡ Some one → SpellsOne (f ∷ forms) text one
or_else_found f forms text (Some v) p one here there is = subst (λ x. SpellsOne (f ∷ forms) text x) (same_Some (inl v) one is) (here v refl)
or_else_found f forms text None p one here there is =
    let other = map_some inr p one is in
    subst (λ x. SpellsOne (f ∷ forms) text x) other.2 (there other.0 other.1)

pub one_found : (forms : List Form) (text : List ℕ) (one : One forms) → one_at forms text ≡ Some one → SpellsOne forms text one
one_found [] text one is = none-some one is
one_found (f ∷ forms) text one is =
    or_else_found f forms text (form_at f text) (one_at forms text) one (form_found f text) (one_found forms text) is

or_else_there : {A B : Type 0} (o : Option A) (b : B) → ((a : A) → o ≡ Some a → ⊥) → or_else o (Some b) ≡ Some (inr b)
or_else_there (Some a) b none = absurd (none a refl)
or_else_there None b none = refl

pub one_again : (forms : List Form) → are_set forms ≡ true → (text : List ℕ) (one : One forms) → SpellsOne forms text one → one_at forms text ≡ Some one
one_again [] sets text one is = absurd is
one_again (f ∷ forms) sets text (inl value) is =
    rw (form_again f (and_parts (is_set f) (clashes f forms && are_set forms) sets).0 text value is) refl
one_again (f ∷ forms) sets text (inr other) is =
    let parts = and_parts (is_set f) (clashes f forms && are_set forms) sets in
    let more = and_parts (clashes f forms) (are_set forms) parts.1 in
    ap (or_else (form_at f text)) (one_again forms more.1 text other is)
    ∙ or_else_there (form_at f text) other (λ v read. no_other f forms more.0 text v other (form_found f text v read) is)

all_ends : (text : List ℕ) → list_all is_carriage_return text ≡ true → AllPass is_carriage_return text
all_ends [] all = tt
all_ends (b ∷ text) all = let parts = and_parts (is_carriage_return b) (list_all is_carriage_return text) all in (parts.0, all_ends text parts.1)

ends_all : (text : List ℕ) → AllPass is_carriage_return text → list_all is_carriage_return text ≡ true
ends_all [] all = refl
ends_all (b ∷ text) all = rw all.0 (ends_all text all.1)

pub body_found : (line body : List ℕ) → body_at line ≡ Some body → IsBody line body
unfolding body_at
body_found line body is =
    let n = prefix_len (λ b. not (is_carriage_return b)) line in
    let parts = cond_some (list_all is_carriage_return (drop n line)) (take n line) body is in
    subst (λ x. IsBody line x) parts.1 (record {
      ends = drop n line;
      whole = sym (take-append-drop n line);
      body_is = front_passes (λ b. not (is_carriage_return b)) line;
      ends_are = all_ends (drop n line) parts.0;
    })

ends_begin : (ends : List ℕ) → AllPass is_carriage_return ends → begins_with (λ b. not (is_carriage_return b)) ends ≡ false
ends_begin [] all = refl
ends_begin (b ∷ ends) all = rw all.0 refl

pub body_again : (line body : List ℕ) → IsBody line body → body_at line ≡ Some body
unfolding body_at
body_again line body is =
    rw (
      is.whole,
      run_len (λ b. not (is_carriage_return b)) body is.ends is.body_is (ends_begin is.ends is.ends_are),
      take-append_seam body is.ends,
      drop-append_seam body is.ends,
      ends_all is.ends is.ends_are,
    ) refl

-- a line is read as the one record whose form it has
pub read_exactly : (forms : List Form) → are_set forms ≡ true → AreReadExactly forms
read_exactly forms sets line one = (
  λ read.
      let body = bind_some (body_at line) (one_at forms) one read in
      record { body = body.0; body_is = body_found line body.0 body.1; spells = one_found forms body.0 one body.2 },
  λ is. ap (λ o. o >>= one_at forms) (body_again line is.body is.body_is) ∙ one_again forms sets is.body one is.spells,
)
