-- What stands before and after an ASCII byte of a text in UTF-8 is UTF-8, so its lines and the ends of
-- its lines are.
use Rattle.std.proofs.Common.{◌≡◌, ℕ, ◌+◌, ◌<◌, List, [], ◌∷◌, ◌++◌, length, get_or, Some, refl, sym, ap, subst, ◌∙◌, arith, append_assoc, length-append}
use Rattle.std.specs.List.{flat_map, AllByRecursion}
use Rattle.std.specs.Str.{IsUtf8}
use Rattle.std.proofs.lemmas.Bool.{eqb-true}
use Rattle.std.proofs.lemmas.Str.{IsUtf8-nil, IsUtf8-take, IsUtf8-drop, IsCharBoundary-before_ascii, IsCharBoundary-after_ascii}
use Rattle.std.proofs.Math.Seq.{get_or-append_seam, take-append_seam, drop-append-add}
use Rattle.bz_base.specs.Byte.{line_feed, space}
use Rattle.bz_base.specs.Line.{ended, unended, all_lines}
use Rattle.bz_base.proofs.LineLemmas.{all_found}
use Rattle.bz_proc.specs.MappingLine.{Line, is_space, Joined, line_in}
use Rattle.bz_proc.proofs.LineLemmas.{line_found}
use Rattle.bz_proc.proofs.RunLemmas.{AllOf}

module _ (front : List ℕ) (b : ℕ) (rest : List ℕ) (small : b < 128) (utf8 : IsUtf8 (front ++ b ∷ rest)) where
  within : length front < length (front ++ b ∷ rest)
  within = omega (arith, length-append front (b ∷ rest))

  ascii : get_or (front ++ b ∷ rest) (length front) 0 < 128
  ascii = omega (arith, get_or-append_seam front b rest 0)

  -- what stands before an ASCII byte
  pub utf8_before : IsUtf8 front
  utf8_before =
      subst IsUtf8 (take-append_seam front (b ∷ rest))
      (IsUtf8-take (front ++ b ∷ rest) (length front) utf8 (IsCharBoundary-before_ascii (front ++ b ∷ rest) (length front) within ascii))

  -- what stands after it
  pub utf8_after : IsUtf8 rest
  utf8_after =
      subst IsUtf8 (drop-append-add front (b ∷ rest) 1)
      (IsUtf8-drop (front ++ b ∷ rest) (length front + 1) utf8 (IsCharBoundary-after_ascii (front ++ b ∷ rest) (length front) utf8 within ascii))

-- Lines.

front_utf8 : (front : List (List ℕ)) (rest : List ℕ) → IsUtf8 (flat_map ended front ++ rest) → AllByRecursion IsUtf8 (front ++ unended rest)
front_utf8 [] [] utf8 = tt
front_utf8 [] (b ∷ rest) utf8 = (utf8, tt)
front_utf8 (line ∷ front) rest utf8 =
    let cut : IsUtf8 (line ++ line_feed ∷ (flat_map ended front ++ rest)) =
    subst IsUtf8 (append_assoc (ended line) (flat_map ended front) rest ∙ append_assoc line (line_feed ∷ []) (flat_map ended front ++ rest)) utf8 in
    let low : line_feed < 128 = omega arith in (
      utf8_before line line_feed (flat_map ended front ++ rest) low cut,
      front_utf8 front rest (utf8_after line line_feed (flat_map ended front ++ rest) low cut),
    )

-- each line of a text is UTF-8
pub lines_utf8 : (text : List ℕ) → IsUtf8 text → AllByRecursion IsUtf8 (all_lines text)
lines_utf8 text utf8 =
    let are = all_found text in
    let P : List (List ℕ) → Type 0 = AllByRecursion IsUtf8 in
    subst P (sym are.lines_are) (front_utf8 are.front are.rest (subst IsUtf8 are.whole utf8))

-- The ends of lines.

-- the text ends in this one
abbrev EndsIn : List ℕ → List ℕ → Type 0
EndsIn text tail = (front : List ℕ) × (text ≡ front ++ tail)

-- the rest after a part ends in it, so the whole does
further : {First Second : List ℕ → Type 0} {text : List ℕ} (tail : List ℕ) (is : Joined First Second text) → EndsIn is.back tail → EndsIn text tail
further tail is ends = (is.front ++ ends.0, is.parts ∙ ap (λ back. is.front ++ back) ends.1 ∙ sym (append_assoc is.front ends.0 tail))

-- what stands after spaces
after_spaces : (front spaces text : List ℕ) → AllOf is_space spaces → (0 < length text → 0 < length spaces) → IsUtf8 (front ++ (spaces ++ text)) → IsUtf8 text
after_spaces front spaces [] bytes apart utf8 = IsUtf8-nil
after_spaces front [] (c ∷ text) bytes apart utf8 = absurd (omega (arith, apart (omega arith)))
after_spaces front (b ∷ []) (c ∷ text) bytes apart utf8 = utf8_after front b (c ∷ text) (omega (arith, eqb-true b space bytes.0)) utf8
after_spaces front (b ∷ d ∷ spaces) (c ∷ text) bytes apart utf8 =
    after_spaces (front ++ b ∷ []) (d ∷ spaces) (c ∷ text) bytes.1 (λ some. omega arith)
    (subst IsUtf8 (sym (append_assoc front (b ∷ []) (d ∷ spaces ++ (c ∷ text)))) utf8)

-- the text of a line is UTF-8 where the line is
pub text_utf8 : (line : List ℕ) (told : Line) → line_in line ≡ Some told → IsUtf8 line → IsUtf8 told.text
text_utf8 line told read utf8 =
    let start = (line_found line told read).fields in
    let past = start.second.second in
    let permissions = past.second.second in
    let offset = permissions.second.second in
    let device = offset.second.second in
    let inode = device.second.second in
    let whole = inode.back in
    let ends : EndsIn line whole =
    further whole start (further whole start.second (further whole past (further whole past.second
    (further whole permissions (further whole permissions.second (further whole offset (further whole offset.second
    (further whole device (further whole device.second (further whole inode ([], refl))))))))))) in
    let last = inode.second in
    after_spaces ends.0 last.spaces told.text last.bytes last.apart (subst IsUtf8 (ends.1 ∙ ap (λ t. ends.0 ++ t) last.parts) utf8)
