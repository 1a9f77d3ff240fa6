-- One line of the walk: where its text stands, and what is read of it and the lines after it.
use Rattle.std.proofs.Common.{◌≡◌, ℕ, zero, suc, ◌+◌, ◌-◌, ◌≤◌, Bool, true, false, not, ◌&&◌, List, [], ◌∷◌, length, take, drop, Some, None, nat_eq, nat_lt, is_some, refl, sym, ap, ◌∙◌, arith, length-drop}
use Rattle.std.specs.List.{prefix_len}
use Rattle.std.proofs.lemmas.Bool.{cond_both}
use Rattle.std.proofs.lemmas.List.{length-take-le}
use Rattle.std.proofs.lemmas.List.Sums.{prefix_len-le-length}
use Rattle.std.proofs.Math.Seq.{drop-drop}
use Rattle.bz_base.specs.Byte.{line_feed}
use Rattle.bz_breakpad_lines.specs.Byte.{is_nothing, is_white}
use Rattle.bz_breakpad_lines.specs.Choice.{body_at}
use Rattle.bz_breakpad_table.specs.Kept.{IsRecordAt}
use Rattle.bz_breakpad_lines.specs.Line.{line_front}
use Rattle.bz_breakpad_lines.specs.Reader.{Reading, lines_read, with_record}
use Rattle.bz_breakpad_lines.specs.Says.{module_of}
use Rattle.bz_breakpad_lines.specs.Contexts.{Context, Record, body_record, context_after, white_allowed_after, record_at, after_white}
use Rattle.bz_breakpad_table.specs.Walked.{IsLineAt}

-- the rest of a line is the line of the rest
front_rest : (text : List ℕ) (k : ℕ) → k ≤ length (line_front text) → line_front (drop k text) ≡ drop k (line_front text)
front_rest text zero within = refl
front_rest [] (suc k) within = refl
front_rest (b ∷ text) (suc k) within =
    let n = prefix_len (λ b. not (nat_eq b line_feed)) text in
    let more : 1 + n ≡ suc n = omega arith in
    cond_both (not (nat_eq b line_feed)) (1 + n) 0
    (λ m. suc k ≤ length (take m (b ∷ text)) → line_front (drop k text) ≡ drop (suc k) (take m (b ∷ text)))
    (λ yes. rw more (λ few. front_rest text k (omega (arith, few)))) (λ no few. absurd (omega (arith, few))) within

-- how much of a line stands before its text
abbrev skipped : Bool → List ℕ → ℕ
skipped true line = prefix_len is_white line
skipped false line = 0

text_after : (white_allowed : Bool) (line : List ℕ) → after_white white_allowed line ≡ drop (skipped white_allowed line) line
unfolding after_white
text_after true line = refl
text_after false line = refl

skipped_within : (white_allowed : Bool) (line : List ℕ) → skipped white_allowed line ≤ length line
skipped_within true line = prefix_len-le-length is_white line
skipped_within false line = omega arith

-- a body of a line's text stands after the white space that was skipped
pub text_stands : (bytes : List ℕ) (start : ℕ) (white_allowed : Bool) (line text body : List ℕ) → IsLineAt bytes start line → text ≡ after_white white_allowed line →
    body_at text ≡ Some body → IsRecordAt bytes (start + (length line - length text)) body
text_stands bytes start white_allowed line text body at is body_is =
    let k = skipped white_allowed line in
    let within = skipped_within white_allowed line in
    let same : text ≡ drop k line = is ∙ text_after white_allowed line in
    let long : length line - length text ≡ k = omega (arith, ap length same, length-drop k line, within) in
    let n = prefix_len (λ b. not (nat_eq b line_feed)) (drop start bytes) in
    let fits : length line ≤ length (drop start bytes)
    = omega (arith, ap length at.line_is, length-take-le n (drop start bytes) (prefix_len-le-length (λ b. not (nat_eq b line_feed)) (drop start bytes)), prefix_len-le-length (λ b. not (nat_eq b line_feed)) (drop start bytes)) in
    let here : line_front (drop (start + k) bytes) ≡ text
    = ap line_front (sym (drop-drop k start bytes))
    ∙ front_rest (drop start bytes) k (rw at.line_is within)
    ∙ ap (drop k) at.line_is
    ∙ sym same in
    rw long (record { within = omega (arith, within, fits, length-drop start bytes, at.within); body_is = ap body_at here ∙ body_is })

-- the record of a text is that of its body
pub record_read : (c : Context) (text body : List ℕ) (r : Record) → body_at text ≡ Some body → body_record c body ≡ Some r → record_at c text ≡ Some r
unfolding record_at
record_read c text body r body_is read = rw (body_is) read

-- a record that isn't a later MODULE record is read, and then the lines after it
pub step_read : (c : Context) (white_allowed : Bool) (reading : Reading) (line : List ℕ) (r : Record) (lines : List (List ℕ)) →
    (white_allowed && is_nothing (after_white white_allowed line)) ≡ false → record_at c (after_white white_allowed line) ≡ Some r → (is_some (module_of r) && nat_lt 0 reading.count) ≡ false →
    lines_read c white_allowed reading (line ∷ lines) ≡ lines_read (context_after r) (white_allowed_after r) (with_record reading r) lines
step_read c white_allowed reading line r lines some read first = rw (some, read, first) refl

-- a later MODULE record isn't
pub step_late : (c : Context) (white_allowed : Bool) (reading : Reading) (line : List ℕ) (r : Record) (lines : List (List ℕ)) →
    (white_allowed && is_nothing (after_white white_allowed line)) ≡ false → record_at c (after_white white_allowed line) ≡ Some r → (is_some (module_of r) && nat_lt 0 reading.count) ≡ true →
    lines_read c white_allowed reading (line ∷ lines) ≡ None
step_late c white_allowed reading line r lines some read late = rw (some, read, late) refl
