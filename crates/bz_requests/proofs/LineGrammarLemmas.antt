-- What is read of lines is what they say, where reader and relation agree.
use Rattle.std.proofs.Common.{◌≡◌, ℕ, suc, ◌+◌, ◌-◌, nat_eq, true, List, [], ◌∷◌, ◌++◌, length, take, flat_map, Option, Some, None, option_map, option_to_list, Result, Ok, Err, refl, sym, ap, subst, ◌∙◌, inl, inr, arith}
use Rattle.std.specs.List.{AllByRecursion, AllZip, ends_with}
use Rattle.std.proofs.lemmas.Bool.{cond-true, cond_both, false≢true}
use Rattle.std.proofs.lemmas.Bool.Decides.{Decides-eqb}
use Rattle.std.proofs.lemmas.List.{same_from_push}
use Rattle.std.proofs.lemmas.Slice.Eq.{ends_is}
use Rattle.bz_base.specs.Byte.{carriage_return}
use Rattle.bz_base.specs.Line.{AreLines, all_lines}
use Rattle.bz_base.proofs.LineLemmas.{all_found, all_again}
use Rattle.bz_requests.specs.Lines.{ReadsAsSpelled, IsContent, Says, IsWellFormed, AreItems, IsFirstBad, content_of, said_in, in_front, with_said, read_lines, items_in}

-- Contents.

module _ (line : List ℕ) where
  -- a line that ends in a carriage return is what stands before it and the return
  ends_found : ends_with nat_eq line (carriage_return ∷ []) ≡ true → line ≡ take (length line - 1) line ++ carriage_return ∷ []
  ends_found ends = (ends_is Decides-eqb line (carriage_return ∷ []) (ends_with nat_eq line (carriage_return ∷ [])) refl).0 ends

  -- and such a line is one that ends in it
  ends_again : (front : List ℕ) → line ≡ front ++ carriage_return ∷ [] → ends_with nat_eq line (carriage_return ∷ []) ≡ true
  ends_again front is = (ends_is Decides-eqb line (carriage_return ∷ []) (ends_with nat_eq line (carriage_return ∷ [])) refl).1 front is

  -- the content that is read is the line's
  content_found : IsContent line (content_of line)
  content_found =
      cond_both (ends_with nat_eq line (carriage_return ∷ [])) (take (length line - 1) line) line (IsContent line)
      (λ ends. inl (ends_found ends))
      (λ other. inr (refl, λ (front, is). false≢true (sym other ∙ ends_again front is)))

  -- the line's content is read
  content_again : (content : List ℕ) → IsContent line content → content_of line ≡ content
  content_again content (inl is) =
      let ends = ends_again content is in
      cond-true _ (take (length line - 1) line) line ends ∙ (same_from_push (take (length line - 1) line) content carriage_return carriage_return (sym (ends_found ends) ∙ is)).0
  content_again content (inr (same, never)) =
      cond_both (ends_with nat_eq line (carriage_return ∷ [])) (take (length line - 1) line) line (λ read. read ≡ content)
      (λ ends. absurd (never (take (length line - 1) line, ends_found ends)))
      (λ other. same)

-- Items one after the other.

-- an empty front changes nothing
pub front_none : {A : Type 0} (read : Result (List A) ℕ) → in_front [] read ≡ read
front_none (Ok items) = refl
front_none (Err n) = refl

-- items in front of others were read, and the others were
front_found : {A : Type 0} (front : List A) (others : Result (List A) ℕ) (items : List A) → in_front front others ≡ Ok items → (rest : List A) × (others ≡ Ok rest) × (items ≡ front ++ rest)
front_found front (Ok rest) items read = let same : items ≡ front ++ rest = cc in (rest, refl, same)
front_found front (Err n) items read = cc

-- in front of a bad line nothing is read
front_bad : {A : Type 0} (front : List A) (others : Result (List A) ℕ) (m : ℕ) → in_front front others ≡ Err m → others ≡ Err m
front_bad front (Ok rest) m read = cc
front_bad front (Err n) m read = read

module _ {A : Type 0} (reads : List ℕ → Option A) (Spells : List ℕ → A → Type 0) (agrees : ReadsAsSpelled reads Spells) where
  -- Lines.

  -- what is read of a line's content is what the line says
  said_in_found : (line content : List ℕ) (said : Option A) → IsContent line content → said_in reads content ≡ Some said → Says Spells line said
  said_in_found line [] None is read = is
  said_in_found line [] (Some item) is read = cc
  said_in_found line (b ∷ content) said is read = by_item (reads (b ∷ content)) refl said read
    where
      by_item : (item : Option A) → reads (b ∷ content) ≡ item → (found : Option A) → option_map (λ item. Some item) item ≡ Some found → Says Spells line found
      by_item None reads_is found from = cc
      by_item (Some item) reads_is None from = cc
      by_item (Some item) reads_is (Some found) from =
          let same : item ≡ found = cc in
          (b, content, is, (agrees b content found).0 (reads_is ∙ ap Some same))

  pub said_found : (line : List ℕ) (said : Option A) → said_in reads (content_of line) ≡ Some said → Says Spells line said
  said_found line said read = said_in_found line (content_of line) said (content_found line) read

  -- what the line says is read
  pub said_again : (line : List ℕ) (said : Option A) → Says Spells line said → said_in reads (content_of line) ≡ Some said
  said_again line None says = ap (said_in reads) (content_again line [] says)
  said_again line (Some item) (b, content, is, spelled) =
      ap (said_in reads) (content_again line (b ∷ content) is) ∙ ap (option_map (λ found. Some found)) ((agrees b content item).1 spelled)

  -- a line that isn't well formed says nothing that is read
  bad_again : (line : List ℕ) → ¬ IsWellFormed Spells line → said_in reads (content_of line) ≡ None
  bad_again line bad = by_said (said_in reads (content_of line)) refl
    where
      by_said : (read : Option (Option A)) → said_in reads (content_of line) ≡ read → said_in reads (content_of line) ≡ None
      by_said None is = is
      by_said (Some said) is = absurd (bad (said, said_found line said is))

  -- Items of lines.

  -- the lines say the items
  abbrev AreSaid : List (List ℕ) → List A → Type 0
  AreSaid lines items = (said : List (Option A)) × AllZip (Says Spells) lines said × (items ≡ flat_map option_to_list said)

  -- the items that are read of lines are those that they say
  said_lines : (n : ℕ) (lines : List (List ℕ)) (items : List A) → read_lines reads n lines ≡ Ok items → AreSaid lines items
  said_lines n [] items read = let none : items ≡ [] = cc in ([], tt, none)
  said_lines n (line ∷ lines) items read = by_said (said_lines (n + 1) lines) (said_in reads (content_of line)) refl read
    where
      by_said : ((rest : List A) → read_lines reads (n + 1) lines ≡ Ok rest → AreSaid lines rest) → (said : Option (Option A)) → said_in reads (content_of line) ≡ said →
          with_said n said (read_lines reads (n + 1) lines) ≡ Ok items → AreSaid (line ∷ lines) items
      by_said more None is read = cc
      by_said more (Some said) is read =
          let parts = front_found (option_to_list said) (read_lines reads (n + 1) lines) items read in
          let others = more parts.0 parts.1 in
          (said ∷ others.0, (said_found line said is, others.1), parts.2 ∙ ap (λ rest. option_to_list said ++ rest) others.2)

  -- items that lines say are read of them
  lines_again : (n : ℕ) (lines : List (List ℕ)) (said : List (Option A)) → AllZip (Says Spells) lines said → read_lines reads n lines ≡ Ok (flat_map option_to_list said)
  lines_again n [] [] each = refl
  lines_again n [] (first ∷ said) each = absurd each
  lines_again n (line ∷ lines) [] each = absurd each
  lines_again n (line ∷ lines) (first ∷ said) each = rw (said_again line first each.0, lines_again (n + 1) lines said each.1) refl

  -- the items that are read of a text are those that its lines say
  pub items_found : (text : List ℕ) (items : List A) → items_in reads text ≡ Ok items → AreItems Spells text items
  items_found text items read =
      let said = said_lines 1 (all_lines text) items read in
      record { lines = all_lines text; said = said.0; are_lines = all_found text; each = said.1; in_order = said.2 }

  -- items that the lines of a text say are read of it
  pub items_again : (text : List ℕ) (items : List A) → AreItems Spells text items → items_in reads text ≡ Ok items
  items_again text items are =
      rw (all_again text are.lines are.are_lines, lines_again 1 are.lines are.said are.each, are.in_order) refl

  -- Bad lines.

  -- of lines that are numbered from n, line m is the first that isn't well formed
  record IsBadAt (n : ℕ) (lines : List (List ℕ)) (m : ℕ) : Type 0 where
    before : List (List ℕ)
    line : List ℕ
    after : List (List ℕ)
    split : lines ≡ before ++ line ∷ after
    well_formed : AllByRecursion (IsWellFormed Spells) before
    bad : ¬ IsWellFormed Spells line
    number : m ≡ length before + n

  -- the number that is read of lines is that of the first bad one
  bad_line_found : (n : ℕ) (lines : List (List ℕ)) (m : ℕ) → read_lines reads n lines ≡ Err m → IsBadAt n lines m
  bad_line_found n [] m read = cc
  bad_line_found n (line ∷ lines) m read = by_said (bad_line_found (n + 1) lines m) (said_in reads (content_of line)) refl read
    where
      by_said : (read_lines reads (n + 1) lines ≡ Err m → IsBadAt (n + 1) lines m) → (said : Option (Option A)) → said_in reads (content_of line) ≡ said →
          with_said n said (read_lines reads (n + 1) lines) ≡ Err m → IsBadAt n (line ∷ lines) m
      by_said more None is read =
          let same : m ≡ n = cc in
          record {
            before = [];
            line = line;
            after = lines;
            split = refl;
            well_formed = tt;
            bad = λ (said, says). let again = said_again line said says in cc;
            number = omega arith;
          }
      by_said more (Some said) is read =
          let others = more (front_bad (option_to_list said) (read_lines reads (n + 1) lines) m read) in
          record {
            before = line ∷ others.before;
            line = others.line;
            after = others.after;
            split = ap (λ rest. line ∷ rest) others.split;
            well_formed = ((said, said_found line said is), others.well_formed);
            bad = others.bad;
            number = omega (arith, others.number);
          }

  -- the number of the first bad line is read
  bad_line_again : (n : ℕ) (before : List (List ℕ)) (line : List ℕ) (after : List (List ℕ)) → AllByRecursion (IsWellFormed Spells) before → ¬ IsWellFormed Spells line →
      read_lines reads n (before ++ line ∷ after) ≡ Err (length before + n)
  bad_line_again n [] line after well_formed bad = let same : n ≡ 0 + n = omega arith in rw (bad_again line bad) (ap Err same)
  bad_line_again n (first ∷ before) line after well_formed bad =
      let same : length before + (n + 1) ≡ suc (length before) + n = omega arith in
      rw (said_again first well_formed.0.0 well_formed.0.1, bad_line_again (n + 1) before line after well_formed.1 bad) (ap Err same)

  -- the number that is read of a text is that of its first bad line
  pub first_bad_found : (text : List ℕ) (n : ℕ) → items_in reads text ≡ Err n → IsFirstBad Spells text n
  first_bad_found text n read =
      let found = bad_line_found 1 (all_lines text) n read in
      record {
        before = found.before;
        line = found.line;
        after = found.after;
        are_lines = subst (AreLines text) found.split (all_found text);
        well_formed = found.well_formed;
        bad = found.bad;
        number = found.number;
      }

  -- the number of a text's first bad line is read of it
  pub first_bad_again : (text : List ℕ) (n : ℕ) → IsFirstBad Spells text n → items_in reads text ≡ Err n
  first_bad_again text n is =
      rw (all_again text (is.before ++ is.line ∷ is.after) is.are_lines, bad_line_again 1 is.before is.line is.after is.well_formed is.bad, is.number) refl
