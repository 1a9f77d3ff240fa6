-- Line records and inlined calls at places: where their texts begin,
-- and what their starts are read from.
use Rattle.std.proofs.Common.{◌≡◌, ℕ, ◌+◌, ◌-◌, ◌<◌, ◌≤◌, true, false, not, ◌==◌, List, [], ◌∷◌, ◌++◌, length, drop, Option, Some, None, unwrap_or, IsSome, refl, sym, ap, ◌∙◌, arith, append_assoc, inl, inr}
use Rattle.std.specs.List.{prefix_len}
use Rattle.std.specs.Prelude.{slice_index}
use Rattle.std.proofs.lemmas.Bool.{false≢true, cases_lt}
use Rattle.std.proofs.lemmas.List.{take-append-drop, drop_all}
use Rattle.bz_base.specs.Bind.{◌>>=◌}
use Rattle.bz_base.specs.Byte.{begins_with, is_blank, line_feed}
use Rattle.bz_base.specs.Number.{digits_at}
use Rattle.bz_breakpad_lines.specs.Byte.{is_hex}
use Rattle.bz_breakpad_lines.specs.Choice.{body_at}
use Rattle.bz_breakpad_lines.specs.Form.{Value}
use Rattle.bz_breakpad_lines.specs.Form.Form.{End, ◌·◌}
use Rattle.bz_breakpad_lines.specs.Form.Piece.{Separator, Hex, Decimal}
use Rattle.bz_breakpad_lines.specs.LineStarts.{ReadsLine, line_read, no_line}
use Rattle.bz_breakpad_lines.specs.Line.{line_front, line_in, source_line}
use Rattle.bz_breakpad_lines.specs.Reads.{form_at, piece_at, reads}
use Rattle.bz_breakpad_lines.specs.Records.{LINE}
use Rattle.bz_breakpad_lines.specs.Table.{SourceLine}
use Rattle.bz_breakpad_lines.proofs.Apart.{separator_front}
use Rattle.bz_breakpad_lines.proofs.Bytes.{blank_no_hex}
use Rattle.bz_breakpad_lines.proofs.ChoiceLaws.{body_found}
use Rattle.bz_breakpad_lines.proofs.FormLaws.{form_found}
use Rattle.bz_breakpad_lines.proofs.Pieces.{piece_again}
use Rattle.bz_breakpad_lines.proofs.Turns.{bind_some, map_some}
use Rattle.bz_breakpad_lines.specs.Calls.{call_in}

-- no line record is read of nothing
no_line_in : line_in [] ≡ None
unfolding body_at piece_at digits_at
no_line_in = refl

-- past the end of the bytes none is read
pub past_end : (bytes : List ℕ) (place : ℕ) → length bytes ≤ place → line_in (drop place bytes) ≡ None
past_end bytes place past = ap line_in (drop_all place bytes past) ∙ no_line_in

none_is_some : {A : Type 0} (o : Option A) → o ≡ None → IsSome o → ⊥
none_is_some o none some = false≢true (rw none at some)

-- so where one is read lies within the bytes
pub read_within : (bytes : List ℕ) (place : ℕ) → ReadsLine bytes place → place ≤ length bytes
read_within bytes place reads =
    elim (cases_lt place (length bytes)) [
      | inl within ↦ omega (arith, within)
      | inr past ↦ absurd (none_is_some _ (past_end bytes place past) reads)
    ]

-- after a blank no digit goes on
no_digit : (text : List ℕ) → begins_with is_blank text ≡ true → begins_with is_hex text ≡ false
no_digit [] begins = absurd (false≢true begins)
no_digit (b ∷ text) begins = blank_no_hex b begins

-- the start of a line record is read from the front of its text
pub start_in_front : (text : List ℕ) (line : SourceLine) → line_in text ≡ Some line →
    (rest : List ℕ) × (piece_at (Hex 16) text ≡ Some (line.start, rest))
start_in_front text line is =
    let value = map_some source_line (body_at (line_front text) >>= form_at LINE) line is in
    let body = bind_some (body_at (line_front text)) (form_at LINE) value.0 value.1 in
    let cut = body_found (line_front text) body.0 body.1 in
    let spelled = form_found LINE body.0 value.0 body.2 in
    let n = prefix_len (λ b. not (b == line_feed)) text in
    let more = cut.ends ++ drop n text in
    let whole : text ≡ spelled.front ++ (spelled.back ++ more) = sym (take-append-drop n text)
    ∙ ap (λ t. t ++ drop n text) (cut.whole ∙ ap (λ t. t ++ cut.ends) spelled.whole)
    ∙ append_assoc (spelled.front ++ spelled.back) cut.ends (drop n text)
    ∙ append_assoc spelled.front spelled.back more in
    let stops = no_digit (spelled.back ++ more) (separator_front (Separator · Hex 8 · Separator · Decimal · Separator · Decimal · End) refl spelled.back more spelled.others spelled.back_is) in
    let start : spelled.tells ≡ line.start = ap (λ (v : Value LINE). v.0) (sym spelled.valued) ∙ ap (λ (l : SourceLine). l.start) value.2 in (
      spelled.back ++ more,
      ap (piece_at (Hex 16)) whole ∙ piece_again (Hex 16) spelled.front (spelled.back ++ more) spelled.tells spelled.front_is stops ∙ ap (λ s. Some (s, spelled.back ++ more)) start,
    )

pub by_read : (o : Option SourceLine) → IsSome o → o ≡ Some (unwrap_or o no_line)
by_read None some = absurd (false≢true some)
by_read (Some line) some = refl

-- where one is read, it is the one
pub read_there : (bytes : List ℕ) (place : ℕ) → ReadsLine bytes place → line_in (drop place bytes) ≡ Some (line_read bytes place)
read_there bytes place reads = by_read (line_in (drop place bytes)) reads

-- one start more, above the last one
pub ascend_more : (starts : List ℕ) (k : ℕ) → ((i j : ℕ) → i < j → j < k → slice_index starts i < slice_index starts j) →
    (0 < k → slice_index starts (k - 1) < slice_index starts k) → (i j : ℕ) → i < j → j < k + 1 → slice_index starts i < slice_index starts j
ascend_more starts k ascend last i j below within =
    elim (cases_lt j k) [
      | inl before ↦ ascend i j below before
      | inr at ↦
          let is : j ≡ k = omega (arith, at, within) in
          let step = last (omega (arith, is, below)) in
          rw is (elim (cases_lt i (k - 1)) [
            | inl earlier ↦ omega (arith, ascend i (k - 1) earlier (omega (arith, is, below)), step)
            | inr here ↦ let same : i ≡ k - 1 = omega (arith, here, is, below) in rw same step
          ])
    ]

-- of nothing no call is read

no_call_in : call_in [] ≡ None
unfolding piece_at
no_call_in = refl

-- past the end of the bytes none is read
pub no_call_past : (bytes : List ℕ) (place : ℕ) → length bytes ≤ place → call_in (drop place bytes) ≡ None
no_call_past bytes place past = ap call_in (drop_all place bytes past) ∙ no_call_in
