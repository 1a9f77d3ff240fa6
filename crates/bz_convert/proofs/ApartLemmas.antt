-- The rows and the gap of line records that lie apart, by one pass over them.
use Rattle.std.proofs.Common.{◌≡◌, inl, inr, ℕ, zero, suc, ◌+◌, ◌-◌, ◌<◌, ◌≤◌, Bool, true, false, cond, nat_lt, map, drop, length, List, [], ◌∷◌, ◌++◌, Option, Some, None, option_and_then, refl, sym, ap, subst, ◌∙◌, ap₂, arith, append-nil}
use Rattle.std.specs.Prelude.{◌&&◌, min, max}
use Rattle.std.specs.List.{slice_get}
use Rattle.std.proofs.lemmas.Bool.{cases_lt, le-leb, lt-ltb, ltb-false, ltb-true}
use Rattle.std.proofs.lemmas.Bool.Decides.{nat_tests}
use Rattle.std.proofs.lemmas.List.{drop_all}
use Rattle.std.proofs.lemmas.Option.{none-some, same_Some}
use Rattle.bz_base.proofs.NearestLemmas.{candidate_is, none_from_above}
use Rattle.bz_base.proofs.ViewLemmas.{covering_of_table}
use Rattle.bz_base.specs.Nearest.{candidate, comes_first, first_of, if_covers}
use Rattle.bz_base.specs.Span.{covers}
use Rattle.bz_breakpad_function.specs.InOrder.{lines_in_order}
use Rattle.bz_breakpad_function.specs.Locations.{line_at}
use Rattle.bz_breakpad_lines.specs.Table.{SourceLine, Function}
use Rattle.bz_breakpad_lines.specs.Told.{line_seen}
use Rattle.bz_breakpad_lines.specs.declared.record.SourceLine.{SourceLine as KeptLine}
use Rattle.bz_search.proofs.SortingLaws.{sorted_table}
use Rattle.bz_convert.specs.Apart.{LieApart, gap_between}
use Rattle.bz_convert.specs.Plan.{changes, is_checked, same_line}
use Rattle.bz_convert.specs.Fault.{◌or◌}
use Rattle.bz_convert.specs.Points.{gap_of, row_seen}
use Rattle.bz_convert.specs.declared.rows.LineRow.{LineRow}
use Rattle.bz_convert.specs.Rows.{gap_from, row_by, rows_from}
use Rattle.bz_convert.proofs.PointLemmas.{gap_of_span, rows_of_span}
use Rattle.bz_convert.proofs.PointsLemmas.{itself}

abbrev start_of : SourceLine → ℕ
start_of l = l.start

abbrev size_of : SourceLine → ℕ
size_of l = l.size

starts_from : (low : ℕ) (lines : List SourceLine) → LieApart low lines → (i : ℕ) (y : SourceLine) → slice_get lines i ≡ Some y → low ≤ y.start
starts_from low [] apart i y at = absurd (none-some y at)
starts_from low (l ∷ lines) apart zero y at = subst (λ (w : SourceLine). low ≤ w.start) (same_Some l y at) apart.0
starts_from low (l ∷ lines) apart (suc i) y at = let h = starts_from (l.start + l.size) lines apart.1.1.1 i y at in let first = apart.0 in omega arith

-- none answers before they begin
none_under : (low : ℕ) (lines : List SourceLine) → LieApart low lines → (x : ℕ) → x < low → line_at x lines ≡ None
none_under low lines apart x under =
    ap (option_and_then (if_covers start_of size_of x)) (none_from_above start_of size_of x lines (λ i y at. let h = starts_from low lines apart i y at in omega arith))

module _ (low : ℕ) (l : SourceLine) (lines : List SourceLine) (apart : LieApart low (l ∷ lines)) (x : ℕ) where
  covers_it : l.start ≤ x → x < l.start + l.size → covers l.start l.size x ≡ true
  covers_it down up = let fits = apart.1.1.0 in let some = apart.1.0 in grind (arith, nat_tests)

  covers_none : l.start + l.size ≤ x → covers l.start l.size x ≡ false
  covers_none past = let some = apart.1.0 in grind (arith, nat_tests)

  -- the first answers at its addresses
  first_answers : l.start ≤ x → x < l.start + l.size → line_at x (l ∷ lines) ≡ Some l
  first_answers down up =
      ap (λ o. option_and_then (if_covers start_of size_of x) (first_of start_of size_of x l o))
      (none_from_above start_of size_of x lines (λ i y at. let h = starts_from (l.start + l.size) lines apart.1.1.1 i y at in omega arith))
      ∙ ap (λ b. option_and_then (if_covers start_of size_of x) (cond b (Some l) None)) (le-leb l.start x down)
      ∙ ap (λ b. cond b (Some l) None) (covers_it down up)

  past_it : l.start + l.size ≤ x → (o : Option SourceLine) → candidate start_of size_of x lines ≡ o →
      option_and_then (if_covers start_of size_of x) (first_of start_of size_of x l o) ≡ option_and_then (if_covers start_of size_of x) o
  past_it past None none =
      ap (λ b. option_and_then (if_covers start_of size_of x) (cond b (Some l) None)) (le-leb l.start x (omega arith))
      ∙ ap (λ b. cond b (Some l) None) (covers_none past)
  past_it past (Some y) found =
      let is = candidate_is start_of size_of x lines y found in
      let above = starts_from (l.start + l.size) lines apart.1.1.1 is.0 y is.1.there in
      let below = is.1.not_above in
      ap (λ b. option_and_then (if_covers start_of size_of x) (cond b (Some l) (Some y))) (later y above below) where
        later : (y : SourceLine) → l.start + l.size ≤ y.start → y.start ≤ x → comes_first start_of size_of x l y ≡ false
        later y above below = let some = apart.1.0 in grind (arith, nat_tests)

  -- and elsewhere the others do
  others_answer : (l.start ≤ x → x < l.start + l.size → ⊥) → line_at x (l ∷ lines) ≡ line_at x lines
  others_answer outside = elim (cases_lt x l.start) [
    | inl under ↦ none_under l.start (l ∷ lines) (omega arith, apart.1) x under ∙ sym (none_under (l.start + l.size) lines apart.1.1.1 x (omega arith))
    | inr down ↦ elim (cases_lt x (l.start + l.size)) [
      | inl up ↦ absurd (outside (omega arith) up)
      | inr past ↦ past_it (omega arith) (candidate start_of size_of x lines) refl
    ]
  ]

module _ (start end : ℕ) where
  abbrev pub from_of : SourceLine → ℕ
  from_of l = max l.start start

  abbrev pub to_of : SourceLine → ℕ
  to_of l = min (l.start + l.size) end

  -- the rows of records, and the gap behind an address
  abbrev pub rows_left : List SourceLine → List (ℕ × SourceLine)
  rows_left [] = []
  rows_left (l ∷ lines) = cond (nat_lt (from_of l) (to_of l)) ((from_of l, l) ∷ []) [] ++ rows_left lines

  abbrev pub gap_left : ℕ → List SourceLine → Option ℕ
  gap_left reached [] = gap_between start reached end
  gap_left reached (l ∷ lines) = cond (nat_lt (from_of l) (to_of l)) (gap_between start reached (from_of l) or gap_left (to_of l) lines) (gap_left reached lines)

  module _ (la : ℕ → Option SourceLine) where
    -- before an address none answered, or another one than those that are left
    abbrev IsReached : Option SourceLine → ℕ → ℕ → Type 0
    IsReached None reached low = reached ≡ start
    IsReached (Some former) reached low = (start < reached) × ((reached ≤ low) × (former.start < low))

    abbrev Left : ℕ → List SourceLine → Type 0
    Left reached lines = (x : ℕ) → reached ≤ x → x < end → la x ≡ line_at x lines

    abbrev AreWalked : Option SourceLine → ℕ → ℕ → List SourceLine → Type 0
    AreWalked before reached n lines =
        (rows_from same_line la before reached n ≡ rows_left lines) × (gap_from la before reached n ≡ gap_left reached lines)

    reached_low : (before : Option SourceLine) (reached low : ℕ) → IsReached before reached low → start ≤ reached
    reached_low None reached low is = omega arith
    reached_low (Some former) reached low is = let h = is.0 in omega arith

    reached_high : (before : Option SourceLine) (reached low : ℕ) → IsReached before reached low → (l : SourceLine) → low ≤ l.start → reached ≤ from_of l
    reached_high None reached low is l above = omega arith
    reached_high (Some former) reached low is l above = let h = is.1.0 in omega arith

    reached_on : (before : Option SourceLine) (reached low more : ℕ) → IsReached before reached low → low ≤ more → IsReached before reached more
    reached_on None reached low more is up = is
    reached_on (Some former) reached low more is up = let a = is.1.0 in let b = is.1.1 in (is.0, (omega arith, omega arith))

    -- the row of a record
    row_of : (before : Option SourceLine) (reached low : ℕ) → IsReached before reached low → (l : SourceLine) → low ≤ l.start → (at : ℕ) → row_by same_line at before (Some l) ≡ (at, l) ∷ []
    row_of None reached low is l above at = refl
    row_of (Some former) reached low is l above at = ap (λ b. cond b [] ((at, l) ∷ [])) (differ former (is.1.1)) where
      differ : (former : SourceLine) → former.start < low → same_line former l ≡ false
      differ former under = grind (arith, nat_tests)

    no_gap : (before : Option SourceLine) (l : SourceLine) (at : ℕ) → gap_of at before (Some l) ≡ None
    no_gap None l at = refl
    no_gap (Some former) l at = refl

    no_row : (before : Option SourceLine) (at : ℕ) → row_by same_line at before None ≡ []
    no_row None at = refl
    no_row (Some former) at = refl

    -- the gap where none answers
    gap_is : (before : Option SourceLine) (reached low : ℕ) → IsReached before reached low → (next : ℕ) → reached < next → gap_of reached before None ≡ gap_between start reached next
    gap_is None reached low is next less = ap (λ b. cond (b && nat_lt reached next) (Some reached) None) (sym (fresh is)) where
      fresh : reached ≡ start → nat_lt start reached ≡ false
      fresh e = grind (arith, nat_tests)
    gap_is (Some former) reached low is next less =
        sym (ap₂ (λ a b. cond (a && b) (Some reached) None) (lt-ltb start reached is.0) (lt-ltb reached next less))

    no_gap_between : (reached next : ℕ) → next ≤ reached → gap_between start reached next ≡ None
    no_gap_between reached next past = by (nat_lt start reached) (over past) where
      over : next ≤ reached → nat_lt reached next ≡ false
      over past = grind (arith, nat_tests)

      by : (b : Bool) → nat_lt reached next ≡ false → cond (b && nat_lt reached next) (Some reached) None ≡ None
      by true none = ap (λ c. cond c (Some reached) None) none
      by false none = refl

    -- the end
    walked_out : (before : Option SourceLine) (reached low n : ℕ) → IsReached before reached low → reached + n ≡ end → Left reached [] → AreWalked before reached n []
    walked_out before reached low zero is whole left = (refl, sym (no_gap_between reached end (omega arith)))
    walked_out before reached low (suc n) is whole left =
        let steady : (a : ℕ) → reached ≤ a → a < reached + suc n → la a ≡ None = λ a down up. left a down (omega arith) in
        let e : suc n ≡ suc n + 0 = omega arith in (
          ap (rows_from same_line la before reached) e ∙ rows_of_span same_line itself la n 0 reached None before steady ∙ append-nil (row_by same_line reached before None) ∙ no_row before reached,
          ap (gap_from la before reached) e ∙ gap_of_span same_line itself la n 0 reached None before steady ∙ or_none (gap_of reached before None) ∙ gap_is before reached low is end (omega arith),
        ) where
          or_none : (a : Option ℕ) → (a or None) ≡ a
          or_none None = refl
          or_none (Some x) = refl

    module _ (before : Option SourceLine) (reached low n : ℕ) (l : SourceLine) (lines : List SourceLine) (apart : LieApart low (l ∷ lines)) (is : IsReached before reached low) (whole : reached + n ≡ end) (left : Left reached (l ∷ lines)) where
      -- a record outside the function
      left_on : to_of l ≤ from_of l → Left reached lines
      left_on out x down up =
          let h = reached_low before reached low is in
          left x down up ∙ others_answer low l lines apart x (λ a b. absurd (omega arith))

      module _ (less : from_of l < to_of l) where
        left_behind : Left (to_of l) lines
        left_behind x down up =
            let h = reached_high before reached low is l apart.0 in
            left x (omega arith) up ∙ others_answer low l lines apart x (λ a b. absurd (omega arith))

        is_behind : IsReached (Some l) (to_of l) (l.start + l.size)
        is_behind = let some = apart.1.0 in (omega arith, (omega arith, omega arith))

        -- from the record's first address on
        module _ (later : AreWalked (Some l) (to_of l) (end - to_of l) lines) where
          at_record : (b : Option SourceLine) (some : (at : ℕ) → row_by same_line at b (Some l) ≡ (at, l) ∷ []) (m : ℕ) → from_of l + m ≡ end →
              (rows_from same_line la b (from_of l) m ≡ (from_of l, l) ∷ rows_left lines) × (gap_from la b (from_of l) m ≡ gap_left (to_of l) lines)
          at_record b some m rest =
              let h = reached_high before reached low is l apart.0 in
              let d = reached_low before reached low is in
              let k : ℕ = to_of l - from_of l - 1 in
              let e : m ≡ suc k + (end - to_of l) = omega arith in
              let to : from_of l + suc k ≡ to_of l = omega arith in
              let steady : (a : ℕ) → from_of l ≤ a → a < from_of l + suc k → la a ≡ Some l = λ a down up. left a (omega arith) (omega arith) ∙ first_answers low l lines apart a (omega arith) (omega arith) in (
                ap (rows_from same_line la b (from_of l)) e
                    ∙ rows_of_span same_line itself la k (end - to_of l) (from_of l) (Some l) b steady
                    ∙ ap (λ r. r ++ rows_from same_line la (Some l) (from_of l + suc k) (end - to_of l)) (some (from_of l))
                    ∙ ap (λ a. (from_of l, l) ∷ rows_from same_line la (Some l) a (end - to_of l)) to
                    ∙ ap (λ r. (from_of l, l) ∷ r) later.0,
                ap (gap_from la b (from_of l)) e
                    ∙ gap_of_span same_line itself la k (end - to_of l) (from_of l) (Some l) b steady
                    ∙ ap (λ g. g or gap_from la (Some l) (from_of l + suc k) (end - to_of l)) (no_gap b l (from_of l))
                    ∙ ap (λ a. gap_from la (Some l) a (end - to_of l)) to
                    ∙ later.1,
              )

          -- a record that has addresses of the function
          walked_in : (rows_from same_line la before reached n ≡ (from_of l, l) ∷ rows_left lines) × (gap_from la before reached n ≡ (gap_between start reached (from_of l) or gap_left (to_of l) lines))
          walked_in = elim (cases_lt reached (from_of l)) [
            | inl before_it ↦
                let d = reached_low before reached low is in
                let k : ℕ = from_of l - reached - 1 in
                let m : ℕ = end - from_of l in
                let e : n ≡ suc k + m = omega arith in
                let to : reached + suc k ≡ from_of l = omega arith in
                let steady : (a : ℕ) → reached ≤ a → a < reached + suc k → la a ≡ None = λ a down up.
                left a down (omega arith) ∙ none_under l.start (l ∷ lines) (omega arith, apart.1) a (omega arith) in
                let own = at_record None (λ at. refl) m (omega arith) in (
                  ap (rows_from same_line la before reached) e
                      ∙ rows_of_span same_line itself la k m reached None before steady
                      ∙ ap (λ r. r ++ rows_from same_line la None (reached + suc k) m) (no_row before reached)
                      ∙ ap (λ a. rows_from same_line la None a m) to
                      ∙ own.0,
                  ap (gap_from la before reached) e
                      ∙ gap_of_span same_line itself la k m reached None before steady
                      ∙ ap (λ g. g or gap_from la None (reached + suc k) m) (gap_is before reached low is (from_of l) (omega arith))
                      ∙ ap (λ a. gap_between start reached (from_of l) or gap_from la None a m) to
                      ∙ ap (λ g. gap_between start reached (from_of l) or g) own.1,
                )
            | inr at_it ↦
                let h = reached_high before reached low is l apart.0 in
                let e : reached ≡ from_of l = omega arith in
                let own = at_record before (row_of before reached low is l apart.0) n (omega arith) in (
                  ap (λ a. rows_from same_line la before a n) e ∙ own.0,
                  ap (λ a. gap_from la before a n) e ∙ own.1 ∙ ap (λ g. g or gap_left (to_of l) lines) (sym (no_gap_between reached (from_of l) (omega arith))),
                )
          ]

      walked_by : (from_of l < to_of l → AreWalked (Some l) (to_of l) (end - to_of l) lines) → (to_of l ≤ from_of l → AreWalked before reached n lines) → AreWalked before reached n (l ∷ lines)
      walked_by later on = by (nat_lt (from_of l) (to_of l)) refl where
        by : (b : Bool) → nat_lt (from_of l) (to_of l) ≡ b →
            (rows_from same_line la before reached n ≡ cond b ((from_of l, l) ∷ []) [] ++ rows_left lines)
            × (gap_from la before reached n ≡ cond b (gap_between start reached (from_of l) or gap_left (to_of l) lines) (gap_left reached lines))
        by true some = let less = ltb-true (from_of l) (to_of l) some in walked_in less (later less)
        by false none = on (ltb-false (from_of l) (to_of l) none)

    -- rows and gap from an address on are those of the records that are left
    pub are_walked : (lines : List SourceLine) (before : Option SourceLine) (reached low n : ℕ) → LieApart low lines → IsReached before reached low → reached + n ≡ end → Left reached lines → AreWalked before reached n lines
    are_walked [] before reached low n apart is whole left = walked_out before reached low n is whole left
    are_walked (l ∷ lines) before reached low n apart is whole left =
        walked_by before reached low n l lines apart is whole left
        (λ less. are_walked lines (Some l) (to_of l) (l.start + l.size) (end - to_of l) apart.1.1.1 (is_behind before reached low n l lines apart is whole left less) (omega arith) (left_behind before reached low n l lines apart is whole left less))
        (λ out. are_walked lines before reached (l.start + l.size) n apart.1.1.1 (reached_on before reached low (l.start + l.size) is (let h = apart.0 in omega arith)) whole (left_on before reached low n l lines apart is whole left out))

-- The records of a function.
module _ (f : Function) (lines : List KeptLine) (are : map line_seen lines ≡ lines_in_order f) (apart : LieApart 0 (map line_seen lines)) where
  abbrev la : ℕ → Option SourceLine
  la addr = line_at addr f.lines

  all_left : (x : ℕ) → la x ≡ line_at x (map line_seen lines)
  all_left x = sym (covering_of_table start_of size_of f.lines (lines_in_order f) (sorted_table start_of size_of f.lines) x) ∙ ap (line_at x) (sym are)

  walked : AreWalked f.start (f.start + f.size) la None f.start f.size (map line_seen lines)
  walked = are_walked f.start (f.start + f.size) la (map line_seen lines) None f.start 0 f.size apart refl refl (λ x down up. all_left x)

  pub changes_are : is_checked f ≡ true → rows_from same_line la None f.start f.size ≡ changes f
  changes_are checked = sym (ap (λ b. cond b (rows_from same_line la None f.start f.size) []) checked)

  -- when the pass is at its end
  module _ (k : ℕ) (past : length lines ≤ k) (start end : ℕ) (starts : start ≡ f.start) (ends : end ≡ f.start + f.size) where
    left_out : map line_seen (drop k lines) ≡ []
    left_out = ap (map line_seen) (drop_all k lines past)

    pub rows_out : (rows : List LineRow) → map row_seen rows ++ rows_left start end (map line_seen (drop k lines)) ≡ rows_left start end (map line_seen lines) →
        map row_seen rows ≡ rows_from same_line la None f.start f.size
    rows_out rows so_far =
        sym (append-nil (map row_seen rows)) ∙ ap (λ ls. map row_seen rows ++ rows_left start end ls) (sym left_out) ∙ so_far
        ∙ ap₂ (λ s e. rows_left s e (map line_seen lines)) starts ends ∙ sym walked.0

    pub gap_out : (gap : Option ℕ) (reached : ℕ) → (gap or gap_left start end reached (map line_seen (drop k lines))) ≡ gap_left start end start (map line_seen lines) →
        (gap or gap_between start reached end) ≡ gap_from la None f.start f.size
    gap_out gap reached so_far =
        ap (λ ls. gap or gap_left start end reached ls) (sym left_out) ∙ so_far
        ∙ ap₂ (λ s e. gap_left s e s (map line_seen lines)) starts ends ∙ sym walked.1
