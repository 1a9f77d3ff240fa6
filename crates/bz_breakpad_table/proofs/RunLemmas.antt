-- Runs of line records: a run that is cut behind a line feed is two runs, and which of them answers.
use Rattle.std.proofs.Common.{◌≡◌, ℕ, zero, suc, ◌+◌, ◌-◌, ◌<◌, ◌≤◌, true, false, Bool, cond, not, ◌&&◌, ◌||◌, nat_eq, nat_le, List, [], ◌∷◌, ◌++◌, length, take, drop, map, Option, Some, None, option_and_then, option_map, IsSome, refl, sym, ap, subst, ◌∙◌, arith, inl, inr, length-append, length-drop}
use Rattle.std.specs.List.{AllByRecursion, cons_option, filter_map, prefix_len}
use Rattle.std.specs.Prelude.{slice_index}
use Rattle.std.proofs.lemmas.Bool.{cases_lt, le-ltb, lt-ltb, ne_eqb, le-leb, lt-leb}
use Rattle.std.proofs.lemmas.List.{length-map, map-append}
use Rattle.std.proofs.lemmas.List.Elements.{filter_map-append}
use Rattle.std.proofs.Math.ListN.{get_or-append}
use Rattle.bz_base.specs.Bind.{◌>>=◌}
use Rattle.bz_base.specs.Byte.{line_feed}
use Rattle.bz_base.specs.Line.{all_lines, begins_line}
use Rattle.bz_base.specs.Nearest.{candidate, comes_first, first_of, if_covers, nearest_covering}
use Rattle.bz_base.specs.Span.{last_address}
use Rattle.bz_base.proofs.NearestLemmas.{candidate_is, none_below, none_from_above}
use Rattle.bz_breakpad_lines.specs.Choice.{body_at}
use Rattle.bz_breakpad_lines.specs.Line.{line_front, line_in, source_line}
use Rattle.bz_breakpad_table.specs.LineRun.{AreLineRecords, IsCut, IsLineRun, lines_in, starts_in}
use Rattle.bz_breakpad_lines.specs.LineStarts.{StrictlyAscends, line_read, line_start}
use Rattle.bz_breakpad_lines.specs.Reads.{form_at}
use Rattle.bz_breakpad_lines.specs.Records.{LINE}
use Rattle.bz_breakpad_lines.specs.Table.{SourceLine}
use Rattle.bz_breakpad_lines.proofs.AtPlaceLemmas.{read_there}
use Rattle.bz_breakpad_table.proofs.KeptLemmas.{all_parts}
use Rattle.bz_breakpad_table.proofs.LineKeyLemmas.{ascending_table}

-- Lines.

-- a byte in front of lines, of which there are some
begins_first : (b : ℕ) (front back : List (List ℕ)) → 0 < length front → begins_line b (front ++ back) ≡ begins_line b front ++ back
begins_first b [] back some = absurd (omega (arith, some))
begins_first b (line ∷ front) back some = refl

-- a text with a line feed has lines
some_lines : (front back : List ℕ) → 0 < length (all_lines (front ++ line_feed ∷ back))
some_lines [] back = omega arith
some_lines (b ∷ front) back = by (nat_eq b line_feed) (all_lines (front ++ line_feed ∷ back)) where
  by : (is_end : Bool) (lines : List (List ℕ)) → 0 < length (cond is_end ([] ∷ lines) (begins_line b lines))
  by true lines = omega arith
  by false [] = omega arith
  by false (line ∷ lines) = omega arith

-- the lines of a text are those up to a line feed, and those after it
pub lines_parts : (front back : List ℕ) → all_lines (front ++ line_feed ∷ back) ≡ all_lines (front ++ line_feed ∷ []) ++ all_lines back
lines_parts [] back = refl
lines_parts (b ∷ front) back =
    by (nat_eq b line_feed) (all_lines (front ++ line_feed ∷ back)) (all_lines (front ++ line_feed ∷ [])) (some_lines front []) (lines_parts front back) where
      by : (is_end : Bool) (lines first : List (List ℕ)) → 0 < length first → lines ≡ first ++ all_lines back →
          cond is_end ([] ∷ lines) (begins_line b lines) ≡ cond is_end ([] ∷ first) (begins_line b first) ++ all_lines back
      by true lines first some is = ap (λ rest. [] ∷ rest) is
      by false lines first some is = ap (begins_line b) is ∙ begins_first b first (all_lines back) some

-- a text is cut behind a line feed
parts_at : (text : List ℕ) (k : ℕ) → k < length text → slice_index text k ≡ line_feed →
    (text ≡ take k text ++ line_feed ∷ drop (suc k) text) × (take (suc k) text ≡ take k text ++ line_feed ∷ [])
parts_at [] k within is = absurd (omega (arith, within))
parts_at (b ∷ text) zero within is = (ap (λ c. c ∷ text) is, ap (λ c. c ∷ []) is)
parts_at (b ∷ text) (suc k) within is =
    let parts = parts_at text k (omega (arith, within)) is in
    (ap (λ rest. b ∷ rest) parts.0, ap (λ rest. b ∷ rest) parts.1)

-- so its lines are those of its two parts
pub lines_cut : (text : List ℕ) (cut : ℕ) → IsCut text cut → all_lines text ≡ all_lines (take cut text) ++ all_lines (drop cut text)
lines_cut text cut is =
    let k = cut - 1 in
    let parts = parts_at text k (omega (arith, is.positive, is.within)) is.behind in
    let next : suc k ≡ cut = omega (arith, is.positive) in
    ap all_lines (parts.0 ∙ ap (λ n. take k text ++ line_feed ∷ drop n text) next)
    ∙ lines_parts (take k text) (drop cut text)
    ∙ ap (λ front. all_lines front ++ all_lines (drop cut text)) (sym parts.1 ∙ ap (λ n. take n text) next)

-- the first line of a text is its front
pub first_line : (text : List ℕ) → 0 < length text → (more : List (List ℕ)) × (all_lines text ≡ line_front text ∷ more)
first_line [] some = absurd (omega (arith, some))
first_line (b ∷ []) some = by (nat_eq b line_feed) refl where
  by : (is_end : Bool) → nat_eq b line_feed ≡ is_end → (more : List (List ℕ)) × (all_lines (b ∷ []) ≡ line_front (b ∷ []) ∷ more)
  by true is = ([], rw is refl)
  by false is = ([], rw is refl)
first_line (b ∷ c ∷ text) some = by (nat_eq b line_feed) refl (first_line (c ∷ text) (omega arith)) where
  by : (is_end : Bool) → nat_eq b line_feed ≡ is_end → (more : List (List ℕ)) × (all_lines (c ∷ text) ≡ line_front (c ∷ text) ∷ more) →
      (more : List (List ℕ)) × (all_lines (b ∷ c ∷ text) ≡ line_front (b ∷ c ∷ text) ∷ more)
  by true is rest = (all_lines (c ∷ text), rw is refl)
  by false is rest =
      let n = prefix_len (λ x. not (nat_eq x line_feed)) (c ∷ text) in
      let more : 1 + n ≡ suc n = omega arith in
      (rest.0, rw (is, more) (ap (begins_line b) rest.1))

-- the front of a front is the front
pub front_front : (text : List ℕ) → line_front (line_front text) ≡ line_front text
front_front [] = refl
front_front (b ∷ text) = by (nat_eq b line_feed) refl (front_front text) where
  by : (is_end : Bool) → nat_eq b line_feed ≡ is_end → line_front (line_front text) ≡ line_front text → line_front (line_front (b ∷ text)) ≡ line_front (b ∷ text)
  by true is rest = rw is refl
  by false is rest =
      let n = prefix_len (λ x. not (nat_eq x line_feed)) text in
      let more : 1 + n ≡ suc n = omega arith in
      let m = prefix_len (λ x. not (nat_eq x line_feed)) (take n text) in
      let again : 1 + m ≡ suc m = omega arith in
      rw (is, more, is, again) (ap (λ r. b ∷ r) rest)

-- The first line record of a run.

none_more : (lines : List (List ℕ)) → length lines ≡ 0 → lines ≡ []
none_more [] none = refl
none_more (line ∷ lines) none = absurd (omega (arith, none))

module _ (text : List ℕ) (some : 0 < length text) (read : AreLineRecords text) where
  -- the lines after the first one
  abbrev others : List (List ℕ)
  others = (first_line text some).0

  first_reads : line_in (line_front text) ≡ line_in text
  first_reads = ap (λ front. option_map source_line (body_at front >>= form_at LINE)) (front_front text)

  -- a line record is read at the front
  pub reads_first : IsSome (line_in text)
  reads_first =
      let all = subst (AllByRecursion (λ (line : List ℕ). IsSome (line_in line))) (first_line text some).1 read in
      subst (λ (o : Option SourceLine). IsSome o) first_reads all.0

  -- and it is the first of the text
  pub first_is : lines_in text ≡ line_read text 0 ∷ filter_map line_in others
  first_is =
      ap (filter_map line_in) (first_line text some).1
      ∙ ap (λ (o : Option SourceLine). cons_option o (filter_map line_in others)) (first_reads ∙ read_there text 0 reads_first)

  -- or the only one
  pub only_is : length (all_lines text) ≤ 1 → lines_in text ≡ line_read text 0 ∷ []
  only_is few =
      let none : length others ≡ 0 = omega (arith, few, ap length (first_line text some).1) in
      first_is ∙ ap (λ lines. line_read text 0 ∷ filter_map line_in lines) (none_more others none)

-- Which part of a run answers.

-- the later ones of starts that ascend do so too
ascend_back : (starts others : List ℕ) → StrictlyAscends (starts ++ others) → StrictlyAscends others
ascend_back [] others ascend = ascend
ascend_back (s ∷ starts) others ascend =
    ascend_back starts others (λ i j below within. ascend (suc i) (suc j) (omega (arith, below)) (omega (arith, within)))

-- and the earlier ones
ascend_front : (starts others : List ℕ) → StrictlyAscends (starts ++ others) → StrictlyAscends starts
ascend_front starts others ascend i j below within =
    omega (arith, ascend i j below (omega (arith, within, length-append starts others)), get_or-append starts others 0 i (omega (arith, below, within)), get_or-append starts others 0 j within)

module _ {X : Type 0} (start size : X → ℕ) (addr : ℕ) where
  -- records above the address are not tried
  candidate_front : (xs ys : List X) → candidate start size addr ys ≡ None → candidate start size addr (xs ++ ys) ≡ candidate start size addr xs
  candidate_front [] ys none = none
  candidate_front (x ∷ xs) ys none = ap (first_of start size addr x) (candidate_front xs ys none)

  -- the start after others
  start_after : (xs : List X) (y : X) (ys : List X) → slice_index (map start (xs ++ y ∷ ys)) (length xs) ≡ start y
  start_after [] y ys = refl
  start_after (x ∷ xs) y ys = start_after xs y ys

  -- a record isn't tried before one that starts after it, and not above the address
  never_first : (x z : X) → start x < start z → start z ≤ addr → comes_first start size addr x z ≡ false
  never_first x z below not_above =
      rw (
        ne_eqb (start x) addr (λ same. omega (arith, same, below, not_above)),
        lt-ltb (start x) addr (omega (arith, below, not_above)),
        le-ltb (start z) (start x) (omega (arith, below)),
        ne_eqb (start z) (start x) (λ same. omega (arith, same, below)),
      ) refl

  -- of ascending records those before one that doesn't start above the address are not tried
  candidate_back : (xs : List X) (y : X) (ys : List X) (z : X) → StrictlyAscends (map start (xs ++ y ∷ ys)) → candidate start size addr (y ∷ ys) ≡ Some z →
      start y ≤ start z → start z ≤ addr → candidate start size addr (xs ++ y ∷ ys) ≡ Some z
  candidate_back [] y ys z ascend is up not_above = is
  candidate_back (x ∷ xs) y ys z ascend is up not_above =
      let tail = candidate_back xs y ys z (λ i j below within. ascend (suc i) (suc j) (omega (arith, below)) (omega (arith, within))) is up not_above in
      let long : suc (length xs) < length (map start (x ∷ (xs ++ y ∷ ys))) = omega (arith, length-map (xs ++ y ∷ ys) start, length-append xs (y ∷ ys)) in
      let below : start x < start z = omega (arith, ascend 0 (suc (length xs)) (omega arith) long, start_after xs y ys, up) in
      ap (first_of start size addr x) tail ∙ rw (never_first x z below not_above) refl

  -- one of them is
  tried : (y : X) (ys : List X) → start y ≤ addr → (z : X) × (candidate start size addr (y ∷ ys) ≡ Some z) × (start y ≤ start z) × (start z ≤ addr)
  tried y ys not_above = by (candidate start size addr (y ∷ ys)) refl where
    by : (o : Option X) → candidate start size addr (y ∷ ys) ≡ o → (z : X) × (candidate start size addr (y ∷ ys) ≡ Some z) × (start y ≤ start z) × (start z ≤ addr)
    by None is = absurd (omega (arith, none_below start size addr (y ∷ ys) is 0 y refl, not_above))
    by (Some z) is =
        let found = candidate_is start size addr (y ∷ ys) z is in
        (z, is, found.1.closest 0 y refl not_above, found.1.not_above)

  -- none of them is where the first one starts above the address
  none_tried : (y : X) (ys : List X) → StrictlyAscends (map start (y ∷ ys)) → addr < start y → candidate start size addr (y ∷ ys) ≡ None
  none_tried y ys ascend above =
      none_from_above start size addr (y ∷ ys) (λ i w there. omega (arith, above, (ascending_table start size (y ∷ ys) ascend).starts_ascend 0 i y w (omega arith) refl there))

  -- so of the two parts of ascending records the later one decides,
  -- if its first record doesn't start above the address
  pub later_decides : (xs : List X) (y : X) (ys : List X) → StrictlyAscends (map start (xs ++ y ∷ ys)) → start y ≤ addr →
      candidate start size addr (xs ++ y ∷ ys) ≡ candidate start size addr (y ∷ ys)
  later_decides xs y ys ascend not_above =
      let z = tried y ys not_above in
      candidate_back xs y ys z.0 ascend z.1 z.2 z.3 ∙ sym z.1

  -- and else the earlier one
  pub earlier_decides : (xs : List X) (y : X) (ys : List X) → StrictlyAscends (map start (xs ++ y ∷ ys)) → addr < start y →
      candidate start size addr (xs ++ y ∷ ys) ≡ candidate start size addr xs
  earlier_decides xs y ys ascend above =
      candidate_front xs (y ∷ ys) (none_tried y ys (ascend_back (map start xs) (map start (y ∷ ys)) (subst StrictlyAscends (map-append start xs (y ∷ ys)) ascend)) above)

  -- a record alone answers, if it covers the address
  pub alone : (x : X) → nearest_covering start size addr (x ∷ []) ≡ if_covers start size addr x
  alone x =
      elim (cases_lt addr (start x)) [
        | inl above ↦ rw (lt-leb (start x) addr above, ne_eqb addr (start x) (λ same. omega (arith, same, above))) (neither (nat_eq (size x) 0) (nat_le (start x + size x) last_address))
        | inr below ↦ let tried : candidate start size addr (x ∷ []) ≡ Some x = rw (le-leb (start x) addr below) refl in ap (option_and_then (if_covers start size addr)) tried
      ]
    where
      neither : (a b : Bool) → None ≡ cond ((a && false) || (b && false)) (Some x) None
      neither true true = refl
      neither true false = refl
      neither false true = refl
      neither false false = refl

-- A run in two parts.

abbrev pub candidate_in : ℕ → List ℕ → Option SourceLine
candidate_in addr text = candidate (λ l. l.start) (λ l. l.size) addr (lines_in text)

module _ (text : List ℕ) (cut : ℕ) (is : IsCut text cut) (run : IsLineRun text) where
  abbrev front : List ℕ
  front = take cut text

  abbrev back : List ℕ
  back = drop cut text

  records_are : lines_in text ≡ lines_in front ++ lines_in back
  records_are = ap (filter_map line_in) (lines_cut text cut is) ∙ filter_map-append line_in (all_lines front) (all_lines back)

  starts_parts : StrictlyAscends (starts_in front ++ starts_in back)
  starts_parts =
      subst StrictlyAscends (ap (map (λ (l : SourceLine). l.start)) records_are ∙ map-append (λ (l : SourceLine). l.start) (lines_in front) (lines_in back)) run.ascend

  read_parts : AreLineRecords front × AreLineRecords back
  read_parts =
      all_parts (λ (line : List ℕ). IsSome (line_in line)) (all_lines front) (all_lines back)
      (subst (AllByRecursion (λ (line : List ℕ). IsSome (line_in line))) (lines_cut text cut is) run.read)

  -- both parts are runs
  pub front_run : IsLineRun front
  front_run = record { read = read_parts.0; ascend = ascend_front (starts_in front) (starts_in back) starts_parts }

  pub back_run : IsLineRun back
  back_run = record { read = read_parts.1; ascend = ascend_back (starts_in front) (starts_in back) starts_parts }

  some_back : 0 < length back
  some_back = omega (arith, is.within, length-drop cut text)

  -- a line record is read where the later one begins
  pub read_at_cut : IsSome (line_in back)
  read_at_cut = reads_first back some_back read_parts.1

  abbrev later : List SourceLine
  later = filter_map line_in (others back some_back read_parts.1)

  in_parts : lines_in text ≡ lines_in front ++ line_read back 0 ∷ later
  in_parts = records_are ∙ ap (λ ls. lines_in front ++ ls) (first_is back some_back read_parts.1)

  ascend_first : StrictlyAscends (map (λ (l : SourceLine). l.start) (lines_in front ++ line_read back 0 ∷ later))
  ascend_first = subst StrictlyAscends (ap (map (λ (l : SourceLine). l.start)) in_parts) run.ascend

  -- the later one decides, if its first record doesn't start above the address
  pub back_decides : (addr : ℕ) → line_start text cut ≤ addr → candidate_in addr back ≡ candidate_in addr text
  back_decides addr not_above =
      sym (ap (candidate (λ (l : SourceLine). l.start) (λ l. l.size) addr) in_parts
      ∙ later_decides (λ (l : SourceLine). l.start) (λ l. l.size) addr (lines_in front) (line_read back 0) later ascend_first not_above
      ∙ ap (candidate (λ (l : SourceLine). l.start) (λ l. l.size) addr) (sym (first_is back some_back read_parts.1)))

  -- and else the earlier one
  pub front_decides : (addr : ℕ) → addr < line_start text cut → candidate_in addr front ≡ candidate_in addr text
  front_decides addr above =
      sym (ap (candidate (λ (l : SourceLine). l.start) (λ l. l.size) addr) in_parts
      ∙ earlier_decides (λ (l : SourceLine). l.start) (λ l. l.size) addr (lines_in front) (line_read back 0) later ascend_first above)

-- what is asked of the only line record of a text is the answer
pub only_answers : (text : List ℕ) (addr : ℕ) → 0 < length text → AreLineRecords text → length (all_lines text) ≤ 1 →
    if_covers (λ (l : SourceLine). l.start) (λ l. l.size) addr (line_read text 0) ≡ nearest_covering (λ l. l.start) (λ l. l.size) addr (lines_in text)
only_answers text addr some read few =
    sym (ap (nearest_covering (λ (l : SourceLine). l.start) (λ l. l.size) addr) (only_is text some read few)
    ∙ alone (λ (l : SourceLine). l.start) (λ l. l.size) addr (line_read text 0))
