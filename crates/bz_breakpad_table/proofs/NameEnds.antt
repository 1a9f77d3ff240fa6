-- The name of a record stands at the end of its body.
use Rattle.std.proofs.Common.{◌≡◌, ℕ, List, [], ◌++◌, Option, Some, None, option_map, IfSome, refl, sym, ap, ◌∙◌, append_assoc}
use Rattle.std.proofs.lemmas.Option.{none-some, same_Some}
use Rattle.bz_base.specs.Bind.{◌>>=◌}
use Rattle.bz_breakpad_lines.specs.Choice.{SpellsOne}
use Rattle.bz_breakpad_lines.specs.Form.{Piece, Form, Tell, With, Value, told, Spells}
use Rattle.bz_breakpad_lines.specs.Form.Piece.{Tag, Mark, Separator, ModuleSeparator, Gap, Word, Hex, Decimal}
use Rattle.bz_breakpad_lines.specs.Form.Form.{End, Name, SeparatorText, Many, ◌·◌}
use Rattle.bz_breakpad_table.specs.Kept.{IsRecordAt}
use Rattle.bz_breakpad_lines.specs.Line.{EndsWith, source_line}
use Rattle.bz_breakpad_lines.specs.Reads.{form_at}
use Rattle.bz_breakpad_lines.specs.Records.{TOP, INNER, MODULE, FILE, INLINE_ORIGIN, PUBLIC, FUNC, LINE, INNER_ORIGIN}
use Rattle.bz_breakpad_lines.specs.Told.{InnerStands, inner_told, line_told, public_told, func_told, top_name, top_told}
use Rattle.bz_breakpad_lines.specs.Contexts.{Context, IsBodyOf, body_record}
use Rattle.bz_breakpad_lines.specs.Contexts.Context.{Outside, InFunc, InCfi}
use Rattle.bz_breakpad_lines.specs.Contexts.Record.{Top, OfFunc}
use Rattle.bz_breakpad_lines.specs.declared.record.InnerLine.{InnerLine}
use Rattle.bz_breakpad_lines.specs.declared.record.InnerLine.TheVariants as inners
use Rattle.bz_breakpad_lines.specs.declared.record.Range.{Range}
use Rattle.bz_breakpad_lines.specs.declared.record.TopLine.{TopLine}
use Rattle.bz_breakpad_lines.specs.declared.record.TopLine.TheVariants as tops
use Rattle.bz_breakpad_table.proofs.CallLemmas.{call_stands}
use Rattle.bz_breakpad_lines.proofs.FormLaws.{form_again}
use Rattle.bz_breakpad_lines.proofs.WalkLaws.{body_found_of}

-- what is told after a piece
abbrev rest_told : (p : Piece) → {A : Type 0} → With p A → A
rest_told (Tag t) v = v
rest_told (Mark b) v = v
rest_told Separator v = v
rest_told ModuleSeparator v = v
rest_told Gap v = v
rest_told Word v = v
rest_told (Hex most) v = v.1
rest_told Decimal v = v.1

-- the name at the end of a form
abbrev name_told : (f : Form) → Value f → Option (List ℕ)
name_told Name v = Some v
name_told (p · f) v = name_told f (rest_told p v)
name_told _ v = None

told_rest : (p : Piece) {A : Type 0} (x : Tell p) (rest : A) → rest_told p (told p x rest) ≡ rest
told_rest (Tag t) x rest = refl
told_rest (Mark b) x rest = refl
told_rest Separator x rest = refl
told_rest ModuleSeparator x rest = refl
told_rest Gap x rest = refl
told_rest Word x rest = refl
told_rest (Hex most) x rest = refl
told_rest Decimal x rest = refl

-- a text of the form ends with the name that it tells
ends : (f : Form) (text : List ℕ) (v : Value f) (name : List ℕ) → Spells f text v → name_told f v ≡ Some name → EndsWith text name
ends Name text v name is named = ([], sym is.1 ∙ same_Some v name named)
ends (p · f) text v name is named =
    let same : name_told f is.others ≡ Some name
    = ap (name_told f) (sym (told_rest p is.tells is.others)) ∙ ap (λ w. name_told f (rest_told p w)) (sym is.valued) ∙ named in
    let rest = ends f is.back is.others name is.back_is same in
    (is.front ++ rest.0, is.whole ∙ ap (λ back. is.front ++ back) rest.1 ∙ sym (append_assoc is.front rest.0 name))
ends End text v name is named = absurd (none-some name named)
ends SeparatorText text v name is named = absurd (none-some name named)
ends (Many f) text v name is named = absurd (none-some name named)

top_ends : (body : List ℕ) (top : TopLine) → SpellsOne TOP body (top_told top) → IfSome (top_name top) (EndsWith body)
top_ends body (tops.Module name) is = ends MODULE body name.now name.now is refl
top_ends body (tops.File id path) is = ends FILE body (id, path.now) path.now is refl
top_ends body (tops.InlineOrigin id name) is = ends INLINE_ORIGIN body (id, name.now) name.now is refl
top_ends body (tops.Public p) is = ends PUBLIC body (public_told p) p.name.now is refl
top_ends body (tops.Func f) is = ends FUNC body (func_told f) f.name.now is refl
top_ends body tops.Info is = tt
top_ends body tops.StackWin is = tt
top_ends body tops.StackCfiInit is = tt

-- the body of a record by itself ends with its name
pub top_named : (c : Context) (body : List ℕ) (top : TopLine) → body_record c body ≡ Some (Top (top_told top)) → IfSome (top_name top) (EndsWith body)
top_named c body top is = top_ends body top (body_found_of c body (Top (top_told top)) is).1

-- a record is one of a function's where it stands under one
of_func : (c : Context) (body : List ℕ) (one : _) → IsBodyOf c body (OfFunc one) → SpellsOne INNER body one
of_func InFunc body one is = is
of_func Outside body one is = absurd is
of_func InCfi body one is = absurd is

inner_at_place : (bytes : List ℕ) (start : ℕ) (body : List ℕ) (inner : InnerLine) (ranges : List Range) → IsRecordAt bytes start body →
    SpellsOne INNER body (inner_told inner ranges) → InnerStands bytes start body inner
inner_at_place bytes start body (inners.Line l) ranges stands is =
    ap (λ o. option_map source_line (o >>= form_at LINE)) stands.body_is ∙ ap (option_map source_line) (form_again LINE refl body (line_told l) is)
inner_at_place bytes start body (inners.Inline call) ranges stands is = call_stands bytes start body call ranges stands is
inner_at_place bytes start body (inners.InnerOrigin id name) ranges stands is = ends INNER_ORIGIN body (id, name.now) name.now is refl

-- what of a record under a FUNC record is kept as a place stands there
pub inner_stands : (bytes : List ℕ) (start : ℕ) (body : List ℕ) (c : Context) (inner : InnerLine) (ranges : List Range) → IsRecordAt bytes start body →
    body_record c body ≡ Some (OfFunc (inner_told inner ranges)) → InnerStands bytes start body inner
inner_stands bytes start body c inner ranges stands is =
    inner_at_place bytes start body inner ranges stands
    (of_func c body (inner_told inner ranges) (body_found_of c body (OfFunc (inner_told inner ranges)) is))
