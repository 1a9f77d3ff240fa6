-- The lines of a text, and where the first one ends.
use Rattle.std.proofs.Common.{◌≡◌, ℕ, suc, ◌<◌, true, false, List, [], ◌∷◌, ◌++◌, length, take, drop, Bool, cond, Option, Some, None, option_map, nat_eq, ◌+◌, ◌-◌, get_or, refl, sym, ap, subst, ◌∙◌, arith, append_assoc, drop-cons, add-one}
use Rattle.std.specs.List.{slice_index, flat_map, list_any, AllByRecursion}
use Rattle.std.proofs.lemmas.Bool.{or_parts, or_from, eqb-true}
use Rattle.std.proofs.lemmas.Option.{none-some, same_Some}
use Rattle.std.proofs.lemmas.List.{drop_all, take-append-drop, take_rest}
use Rattle.bz_bytes.specs.Byte.{line_feed, HasNo}
use Rattle.bz_bytes.specs.Line.{ended, AreEnded, unended, AreLines, begins_ended, before_ended, ended_lines, begins_line, all_lines, after_first_line_feed}

-- the text is what stands before a line feed, the line feed, and what stands after it
split_at_line_feed : (text : List ℕ) (k : ℕ) → k < length text → nat_eq (slice_index text k) line_feed ≡ true →
    text ≡ take k text ++ line_feed ∷ drop (k + 1) text
split_at_line_feed text k within is =
    sym (take-append-drop k text)
    ∙ ap (λ rest. take k text ++ rest) (drop-cons text k 0 within)
    ∙ ap (λ b. take k text ++ b ∷ drop (suc k) text) (eqb-true (get_or text k 0) line_feed is)
    ∙ ap (λ n. take k text ++ line_feed ∷ drop n text) (sym (add-one k))

-- Lines that each have their end.

-- a line feed in front ends an empty line
ends_first : (lines : Option (List (List ℕ))) → before_ended line_feed lines ≡ option_map (λ ls. [] ∷ ls) lines
ends_first None = refl
ends_first (Some lines) = refl

-- any other byte begins the first line
begins_first : (b : ℕ) (line : List ℕ) (lines : Option (List (List ℕ))) → nat_eq b line_feed ≡ false →
    before_ended b (option_map (λ ls. line ∷ ls) lines) ≡ option_map (λ ls. (b ∷ line) ∷ ls) lines
begins_first b line None other = refl
begins_first b line (Some lines) other = rw other refl

-- a line with its end in front of a text is its first line
pub ended_lines-next : (line rest : List ℕ) → HasNo line_feed line →
    ended_lines (line ++ line_feed ∷ rest) ≡ option_map (λ ls. line ∷ ls) (ended_lines rest)
ended_lines-next [] rest none = ends_first (ended_lines rest)
ended_lines-next (b ∷ line) rest none =
    let parts = or_parts _ _ none in
    ap (before_ended b) (ended_lines-next line rest parts.1) ∙ begins_first b line (ended_lines rest) parts.0

-- the first line ends at the first line feed
pub ended_lines-first : (text : List ℕ) (k : ℕ) → k < length text → HasNo line_feed (take k text) →
    nat_eq (slice_index text k) line_feed ≡ true →
    ended_lines text ≡ option_map (λ ls. take k text ∷ ls) (ended_lines (take (length text - (k + 1)) (drop (k + 1) text)))
ended_lines-first text k within none is =
    ap ended_lines (split_at_line_feed text k within is)
    ∙ ended_lines-next (take k text) (drop (k + 1) text) none
    ∙ ap (λ rest. option_map (λ ls. take k text ∷ ls) (ended_lines rest)) (sym (take_rest text (k + 1)))

-- a text that lacks its last end has no such lines
pub ended_lines-none : (text : List ℕ) → HasNo line_feed text → 0 < length text → ended_lines text ≡ None
ended_lines-none [] none some = absurd (omega arith)
ended_lines-none (b ∷ []) none some = rw (or_parts (nat_eq b line_feed) false none).0 refl
ended_lines-none (b ∷ c ∷ text) none some =
    ap (before_ended b) (ended_lines-none (c ∷ text) (or_parts (nat_eq b line_feed) _ none).1 (omega arith))

-- one byte more in front, which is a line feed or isn't
before_ended-found : (b : ℕ) (text : List ℕ) (lines found : List (List ℕ)) (is_end : Bool) → nat_eq b line_feed ≡ is_end →
    AreEnded text lines → cond is_end (Some ([] ∷ lines)) (begins_ended b lines) ≡ Some found → AreEnded (b ∷ text) found
before_ended-found b text lines found true end are read =
    let P : List (List ℕ) → Type 0 = AreEnded (b ∷ text) in
    subst P (same_Some ([] ∷ lines) found read) (record {
      whole = ap (λ c. c ∷ text) (eqb-true b line_feed end) ∙ ap (λ bs. line_feed ∷ bs) are.whole;
      no_line_feed = (refl, are.no_line_feed);
    })
before_ended-found b text [] found false end are read = absurd (none-some found read)
before_ended-found b text (line ∷ lines) found false end are read =
    let P : List (List ℕ) → Type 0 = AreEnded (b ∷ text) in
    subst P (same_Some ((b ∷ line) ∷ lines) found read) (record {
      whole = ap (λ bs. b ∷ bs) are.whole;
      no_line_feed = (or_from _ _ end are.no_line_feed.0, are.no_line_feed.1);
    })

-- the same, where there may be no lines
before_ended-found_in : (b : ℕ) (text : List ℕ) (found : List (List ℕ)) (lines : Option (List (List ℕ))) →
    ((ls : List (List ℕ)) → lines ≡ Some ls → AreEnded text ls) → before_ended b lines ≡ Some found → AreEnded (b ∷ text) found
before_ended-found_in b text found None are read = absurd (none-some found read)
before_ended-found_in b text found (Some lines) are read =
    before_ended-found b text lines found (nat_eq b line_feed) refl (are lines refl) read

-- the lines that are read are those of the text
pub ended_found : (text : List ℕ) (lines : List (List ℕ)) → ended_lines text ≡ Some lines → AreEnded text lines
ended_found [] lines read =
    let P : List (List ℕ) → Type 0 = AreEnded [] in
    subst P (same_Some [] lines read) (record { whole = refl; no_line_feed = tt })
ended_found (b ∷ text) lines read = before_ended-found_in b text lines (ended_lines text) (ended_found text) read

-- lines set side by side are read again
pub side_by_side_again : (lines : List (List ℕ)) → AllByRecursion (HasNo line_feed) lines →
    ended_lines (flat_map ended lines) ≡ Some lines
side_by_side_again [] none = refl
side_by_side_again (line ∷ lines) none =
    ap ended_lines (append_assoc line (line_feed ∷ []) (flat_map ended lines))
    ∙ ended_lines-next line (flat_map ended lines) none.0
    ∙ ap (option_map (λ ls. line ∷ ls)) (side_by_side_again lines none.1)

-- the lines of a text are read
pub ended_again : (text : List ℕ) (lines : List (List ℕ)) → AreEnded text lines → ended_lines text ≡ Some lines
ended_again text lines are = ap ended_lines are.whole ∙ side_by_side_again lines are.no_line_feed

-- Lines of which the last may lack its end.

-- a line with its end in front of a text is its first line
pub all_lines-next : (line rest : List ℕ) → HasNo line_feed line → all_lines (line ++ line_feed ∷ rest) ≡ line ∷ all_lines rest
all_lines-next [] rest none = refl
all_lines-next (b ∷ line) rest none =
    let parts = or_parts (nat_eq b line_feed) (list_any (λ c. nat_eq c line_feed) line) none in
    rw (parts.0, all_lines-next line rest parts.1) refl

-- the first line ends at the first line feed
pub all_lines-first : (text : List ℕ) (k : ℕ) → k < length text → HasNo line_feed (take k text) →
    nat_eq (slice_index text k) line_feed ≡ true →
    all_lines text ≡ take k text ∷ all_lines (take (length text - (k + 1)) (drop (k + 1) text))
all_lines-first text k within none is =
    ap all_lines (split_at_line_feed text k within is)
    ∙ all_lines-next (take k text) (drop (k + 1) text) none
    ∙ ap (λ rest. take k text ∷ all_lines rest) (sym (take_rest text (k + 1)))

-- a text without a line feed is one line that lacks its end, or none
pub all_lines-last : (text : List ℕ) → HasNo line_feed text → all_lines text ≡ unended text
all_lines-last [] none = refl
all_lines-last (b ∷ []) none = rw (or_parts (nat_eq b line_feed) false none).0 refl
all_lines-last (b ∷ c ∷ text) none =
    let parts = or_parts (nat_eq b line_feed) _ none in
    rw (parts.0, all_lines-last (c ∷ text) parts.1) refl

-- a byte that is no line feed begins the first line, or is one that lacks its end
begins_found : (b : ℕ) (text : List ℕ) → nat_eq b line_feed ≡ false → (front : List (List ℕ)) (rest : List ℕ) →
    text ≡ flat_map ended front ++ rest → AllByRecursion (HasNo line_feed) front → HasNo line_feed rest →
    AreLines (b ∷ text) (begins_line b (front ++ unended rest))
begins_found b text other [] [] whole none rest_none = record {
  front = [];
  rest = b ∷ [];
  whole = ap (λ t. b ∷ t) whole;
  no_line_feed = tt;
  rest_has_none = or_from _ _ other refl;
  lines_are = refl;
}
begins_found b text other [] (c ∷ rest) whole none rest_none = record {
  front = [];
  rest = b ∷ c ∷ rest;
  whole = ap (λ t. b ∷ t) whole;
  no_line_feed = tt;
  rest_has_none = or_from _ _ other rest_none;
  lines_are = refl;
}
begins_found b text other (line ∷ front) rest whole none rest_none = record {
  front = (b ∷ line) ∷ front;
  rest = rest;
  whole = ap (λ t. b ∷ t) whole;
  no_line_feed = (or_from _ _ other none.0, none.1);
  rest_has_none = rest_none;
  lines_are = refl;
}

-- the lines that are read are those of the text
pub all_found : (text : List ℕ) → AreLines text (all_lines text)
all_found [] = record { front = []; rest = []; whole = refl; no_line_feed = tt; rest_has_none = refl; lines_are = refl }
all_found (b ∷ text) = by_test (nat_eq b line_feed) refl (all_found text) where
  by_test : (is_end : Bool) → nat_eq b line_feed ≡ is_end → AreLines text (all_lines text) →
      AreLines (b ∷ text) (cond is_end ([] ∷ all_lines text) (begins_line b (all_lines text)))
  by_test true end are = record {
    front = [] ∷ are.front;
    rest = are.rest;
    whole = ap (λ c. c ∷ text) (eqb-true b line_feed end) ∙ ap (λ bs. line_feed ∷ bs) are.whole;
    no_line_feed = (refl, are.no_line_feed);
    rest_has_none = are.rest_has_none;
    lines_are = ap (λ ls. [] ∷ ls) are.lines_are;
  }
  by_test false other are =
      let P : List (List ℕ) → Type 0 = λ ls. AreLines (b ∷ text) (begins_line b ls) in
      subst P (sym are.lines_are) (begins_found b text other are.front are.rest are.whole are.no_line_feed are.rest_has_none)

-- lines set side by side are read again, and what stands after them
front_again : (front : List (List ℕ)) (rest : List ℕ) → AllByRecursion (HasNo line_feed) front → HasNo line_feed rest →
    all_lines (flat_map ended front ++ rest) ≡ front ++ unended rest
front_again [] rest none rest_none = all_lines-last rest rest_none
front_again (line ∷ front) rest none rest_none =
    ap all_lines (append_assoc (ended line) (flat_map ended front) rest ∙ append_assoc line (line_feed ∷ []) (flat_map ended front ++ rest))
    ∙ all_lines-next line (flat_map ended front ++ rest) none.0
    ∙ ap (λ ls. line ∷ ls) (front_again front rest none.1 rest_none)

-- the lines of a text are read
pub all_again : (text : List ℕ) (lines : List (List ℕ)) → AreLines text lines → all_lines text ≡ lines
all_again text lines are =
    ap all_lines are.whole ∙ front_again are.front are.rest are.no_line_feed are.rest_has_none ∙ sym are.lines_are

-- What stands behind the first line feed.

-- one byte more in front of it
one_more : (n b : ℕ) (text : List ℕ) → drop (1 + n + 1) (b ∷ text) ≡ drop (n + 1) text
one_more n b text = let more : 1 + n + 1 ≡ suc (n + 1) = omega arith in ap (λ k. drop k (b ∷ text)) more

-- the rest of a text stands behind the line feed of its first line
pub after_next : (line rest : List ℕ) → HasNo line_feed line → after_first_line_feed (line ++ line_feed ∷ rest) ≡ rest
after_next [] rest none = refl
after_next (b ∷ line) rest none =
    let parts = or_parts (nat_eq b line_feed) _ none in
    rw parts.0 (one_more _ b (line ++ line_feed ∷ rest) ∙ after_next line rest parts.1)

-- the same, of a line with its end
pub after_ended : (text line rest : List ℕ) → text ≡ ended line ++ rest → HasNo line_feed line → rest ≡ after_first_line_feed text
after_ended text line rest whole none =
    sym (after_next line rest none) ∙ ap after_first_line_feed (sym (append_assoc line (line_feed ∷ []) rest)) ∙ ap after_first_line_feed (sym whole)

-- nothing stands behind the first line feed where there is none
pub after_none : (text : List ℕ) → HasNo line_feed text → after_first_line_feed text ≡ []
after_none [] none = refl
after_none (b ∷ text) none =
    let parts = or_parts (nat_eq b line_feed) _ none in
    rw parts.0 (one_more _ b text ∙ after_none text parts.1)

-- nor behind the whole of such a text
pub after_whole : (text : List ℕ) → HasNo line_feed text → take (length text - length text) (drop (length text) text) ≡ after_first_line_feed text
after_whole text none =
    take_rest text (length text) ∙ drop_all (length text) text (omega arith) ∙ sym (after_none text none)
