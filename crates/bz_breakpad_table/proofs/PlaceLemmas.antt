-- Where a record's body and its name stand in the bytes.
use Rattle.std.proofs.Common.{◌≡◌, ℕ, ◌+◌, ◌-◌, ◌≤◌, not, List, ◌++◌, length, take, drop, nat_eq, sym, ap, ◌∙◌, arith, append_assoc, length-append, length-drop}
use Rattle.std.specs.List.{prefix_len}
use Rattle.std.specs.Str.{IsUtf8}
use Rattle.std.proofs.lemmas.List.{take-append-drop}
use Rattle.std.proofs.Math.Seq.{drop-drop, take-append_seam, drop-append_seam}
use Rattle.bz_base.specs.Byte.{line_feed}
use Rattle.bz_breakpad_table.specs.Kept.{IsRecordAt, IsNameAt, text_at}
use Rattle.bz_breakpad_lines.specs.Line.{EndsWith, line_front}
use Rattle.bz_breakpad_table.specs.declared.types.Part.{Part}
use Rattle.bz_breakpad_lines.proofs.ChoiceLaws.{body_found}

-- a body stands in front of the text from its place on
pub body_stands : (bytes : List ℕ) (start : ℕ) (body : List ℕ) → IsRecordAt bytes start body →
    (rest : List ℕ) × (drop start bytes ≡ body ++ rest)
body_stands bytes start body is =
    let text = drop start bytes in
    let n = prefix_len (λ b. not (nat_eq b line_feed)) text in
    let found = body_found (line_front text) body is.body_is in (
      found.ends ++ drop n text,
      sym (take-append-drop n text) ∙ ap (λ line. line ++ drop n text) found.whole ∙ append_assoc body found.ends (drop n text),
    )

module _ (bytes : List ℕ) (start : ℕ) (body after : List ℕ) (begins : start ≤ length bytes) (stands : drop start bytes ≡ body ++ after) where
  -- the body lies within the bytes
  pub body_within : start + length body ≤ length bytes
  body_within = omega (arith, length-drop start bytes, ap length stands, length-append body after, begins)

  module _ (name front : List ℕ) (ends : body ≡ front ++ name) where
    lengths : length body ≡ length front + length name
    lengths = ap length ends ∙ length-append front name

    name_stands : drop (start + length front) bytes ≡ name ++ after
    name_stands =
        sym (drop-drop (length front) start bytes)
        ∙ ap (drop (length front)) (stands ∙ ap (λ text. text ++ after) ends ∙ append_assoc front name after)
        ∙ drop-append_seam front (name ++ after)

    name_is : (part : Part) → part.from ≡ start + length front → part.to ≡ start + length body → text_at bytes part ≡ name
    name_is part from to =
        let long : part.to - part.from ≡ length name = omega (arith, from, to, lengths) in
        ap (λ n. take n (drop part.from bytes)) long
        ∙ ap (λ at. take (length name) (drop at bytes)) from
        ∙ ap (take (length name)) name_stands
        ∙ take-append_seam name after

    -- the part that ends where the body does, and is as long as the name, holds the name
    name_at : IsUtf8 name → (part : Part) → part.to ≡ start + length body → part.from ≡ part.to - length name → IsNameAt bytes part name
    name_at utf8 part to from =
        let at_front : part.from ≡ start + length front = omega (arith, from, to, lengths) in
        let is = name_is part at_front to in
        record {
          fits = record { ordered = omega (arith, from); within = omega (arith, to, body_within); utf8 = rw is utf8 };
          is = is;
        }

-- the part that ends where a record's body does holds the name at the body's end
pub name_at_end : (bytes : List ℕ) (start : ℕ) (body name : List ℕ) → IsRecordAt bytes start body → EndsWith body name → IsUtf8 name →
    (part : Part) → part.to ≡ start + length body → part.from ≡ part.to - length name → IsNameAt bytes part name
name_at_end bytes start body name stands ends utf8 part to from =
    let at = body_stands bytes start body stands in
    name_at bytes start body at.0 stands.within at.1 name ends.0 ends.1 utf8 part to from
