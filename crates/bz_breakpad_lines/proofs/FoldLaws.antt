-- The lines are read as the records that they are walked as: what is read is the fold of the records.
use Rattle.std.proofs.Common.{◌≡◌, ℕ, ◌+◌, Bool, true, false, cond, ◌&&◌, nat_lt, is_some, List, [], ◌∷◌, drop, Option, Some, None, option_map, refl, sym, ap, subst, ◌∙◌, arith}
use Rattle.std.specs.List.{AllByRecursion}
use Rattle.std.proofs.lemmas.Bool.{and_right, lt-ltb, true≢false}
use Rattle.std.proofs.lemmas.Option.{same_Some, none-some}
use Rattle.bz_base.specs.Bind.{◌>>=◌}
use Rattle.bz_breakpad_lines.specs.Byte.{is_nothing}
use Rattle.bz_breakpad_lines.specs.Says.{module_of}
use Rattle.bz_breakpad_lines.specs.Grammar.{IsNoModule}
use Rattle.bz_breakpad_lines.specs.Reader.{Reading, with_record, next_read, lines_read}
use Rattle.bz_breakpad_lines.specs.Contexts.{Context, Record, context_after, white_allowed_after, record_at, after_white}
use Rattle.bz_breakpad_lines.proofs.Turns.{bind_some, map_some}
use Rattle.bz_breakpad_lines.proofs.Walks.{walk}

-- what has been read, and then the records
abbrev pub folded : Reading → List Record → Reading
folded reading [] = reading
folded reading (r ∷ records) = folded (with_record reading r) records

-- no record is a MODULE record; the first may be one where none was read before
abbrev pub Follow : Bool → List Record → Type 0
Follow true records = AllByRecursion IsNoModule records
Follow false records = AllByRecursion IsNoModule (drop 1 records)

-- where no record follows, none is a MODULE record
follow_none : (later : Bool) → Follow later []
follow_none true = tt
follow_none false = tt

-- a record and others follow, where the record may follow and no other is a MODULE record
follow_more : (later : Bool) (r : Record) (records : List Record) (name : Option (List ℕ)) → module_of r ≡ name →
    (is_some name && later) ≡ false → AllByRecursion IsNoModule records → Follow later (r ∷ records)
follow_more true r records None is test none = (is, none)
follow_more true r records (Some name) is test none = absurd (true≢false test)
follow_more false r records name is test none = none

-- the record may follow
follow_first : (later : Bool) (r : Record) (records : List Record) → Follow later (r ∷ records) →
    (is_some (module_of r) && later) ≡ false
follow_first true r records follow = ap (λ name. is_some name && true) follow.0
follow_first false r records follow = and_right (is_some (module_of r)) false refl

-- no other record is a MODULE record
follow_rest : (later : Bool) (r : Record) (records : List Record) → Follow later (r ∷ records) → AllByRecursion IsNoModule records
follow_rest true r records follow = follow.1
follow_rest false r records follow = follow

-- after one record more, some were read
some_read : (reading : Reading) (r : Record) → nat_lt 0 (with_record reading r).count ≡ true
some_read reading r = lt-ltb 0 (reading.count + 1) (omega arith)

-- the test passed, and the next reading is with the record
next_found : (reading : Reading) (r : Record) (next : Reading) → next_read reading r ≡ Some next →
    ((is_some (module_of r) && nat_lt 0 reading.count) ≡ false) × (with_record reading r ≡ next)
next_found reading r next is = by (is_some (module_of r) && nat_lt 0 reading.count) refl is where
  by : (test : Bool) → (is_some (module_of r) && nat_lt 0 reading.count) ≡ test →
      cond {A = Option Reading} test None (Some (with_record reading r)) ≡ Some next →
      ((is_some (module_of r) && nat_lt 0 reading.count) ≡ false) × (with_record reading r ≡ next)
  by true test is = absurd (none-some next is)
  by false test is = (test, same_Some (with_record reading r) next is)

-- the records of lines that were read, and what was read
pub record AreFolded (c : Context) (white_allowed : Bool) (reading : Reading) (lines : List (List ℕ)) (found : Reading) : Type 0 where
  pub records : List Record
  pub walked : walk c white_allowed lines ≡ Some records
  pub follow : Follow (nat_lt 0 reading.count) records
  pub is_fold : folded reading records ≡ found

-- the reading of the lines after a record
abbrev after_record : Reading → List (List ℕ) → Record → Option Reading
after_record reading lines r = next_read reading r >>= (λ next. lines_read (context_after r) (white_allowed_after r) next lines)

-- the walk of the lines after a record
abbrev walk_after : List (List ℕ) → Record → Option (List Record)
walk_after lines r = option_map (λ rest. r ∷ rest) (walk (context_after r) (white_allowed_after r) lines)

module _ (c : Context) (white_allowed : Bool) (line : List ℕ) (lines : List (List ℕ)) (r : Record)
    (test : (white_allowed && is_nothing (after_white white_allowed line)) ≡ false) (at : record_at c (after_white white_allowed line) ≡ Some r) where
  -- a line that is a record, and lines that are walked after it
  walk_more : (rest : List Record) → walk (context_after r) (white_allowed_after r) lines ≡ Some rest → walk c white_allowed (line ∷ lines) ≡ Some (r ∷ rest)
  walk_more rest walked = rw (test, at, walked) refl

  -- a line that is a record which may follow, and lines that are read after it
  read_more : (reading found : Reading) → (is_some (module_of r) && nat_lt 0 reading.count) ≡ false →
      lines_read (context_after r) (white_allowed_after r) (with_record reading r) lines ≡ Some found → lines_read c white_allowed reading (line ∷ lines) ≡ Some found
  read_more reading found may read = rw (test, at, may) read

-- lines that are read are walked, and what is read is the fold
pub fold_found : (c : Context) (white_allowed : Bool) (reading : Reading) (lines : List (List ℕ)) (found : Reading) →
    lines_read c white_allowed reading lines ≡ Some found → AreFolded c white_allowed reading lines found
fold_found c white_allowed reading [] found is =
    record { records = []; walked = refl; follow = follow_none (nat_lt 0 reading.count); is_fold = same_Some reading found is }
fold_found c white_allowed reading (line ∷ lines) found is =
    line_found (white_allowed && is_nothing (after_white white_allowed line)) refl is (fold_found c white_allowed reading lines found) (λ d f next. fold_found d f next lines found) where
      line_found : (test : Bool) → (white_allowed && is_nothing (after_white white_allowed line)) ≡ test →
          cond test (lines_read c white_allowed reading lines) (record_at c (after_white white_allowed line) >>= after_record reading lines) ≡ Some found →
          (lines_read c white_allowed reading lines ≡ Some found → AreFolded c white_allowed reading lines found) →
          ((d : Context) (f : Bool) (next : Reading) → lines_read d f next lines ≡ Some found → AreFolded d f next lines found) →
          AreFolded c white_allowed reading (line ∷ lines) found
      line_found true test is passed later =
          let rest = passed is in
          record { records = rest.records; walked = rw test rest.walked; follow = rest.follow; is_fold = rest.is_fold }
      line_found false test is passed later =
          let first = bind_some (record_at c (after_white white_allowed line)) (after_record reading lines) found is in
          let r = first.0 in
          let after : Reading → Option Reading = λ next. lines_read (context_after r) (white_allowed_after r) next lines in
          let next = bind_some (next_read reading r) after found first.2 in
          let may = next_found reading r next.0 next.1 in
          let read : after (with_record reading r) ≡ Some found = ap after may.1 ∙ next.2 in
          let rest = later (context_after r) (white_allowed_after r) (with_record reading r) read in
          let P : Bool → Type 0 = λ b. Follow b rest.records in
          record {
            records = r ∷ rest.records;
            walked = walk_more c white_allowed line lines r test first.1 rest.records rest.walked;
            follow = follow_more (nat_lt 0 reading.count) r rest.records (module_of r) refl may.0
                (subst P (some_read reading r) rest.follow);
            is_fold = rest.is_fold;
          }

-- lines that are walked are read, and what is read is the fold
pub fold_again : (c : Context) (white_allowed : Bool) (reading : Reading) (lines : List (List ℕ)) (records : List Record) →
    walk c white_allowed lines ≡ Some records → Follow (nat_lt 0 reading.count) records →
    lines_read c white_allowed reading lines ≡ Some (folded reading records)
fold_again c white_allowed reading [] records is follow = ap (λ rs. Some (folded reading rs)) (same_Some [] records is)
fold_again c white_allowed reading (line ∷ lines) records is follow =
    line_again (white_allowed && is_nothing (after_white white_allowed line)) refl is (λ is. fold_again c white_allowed reading lines records is follow)
    (λ d f next rest. fold_again d f next lines rest) where
      line_again : (test : Bool) → (white_allowed && is_nothing (after_white white_allowed line)) ≡ test →
          cond test (walk c white_allowed lines) (record_at c (after_white white_allowed line) >>= walk_after lines) ≡ Some records →
          (walk c white_allowed lines ≡ Some records → lines_read c white_allowed reading lines ≡ Some (folded reading records)) →
          ((d : Context) (f : Bool) (next : Reading) (rest : List Record) → walk d f lines ≡ Some rest → Follow (nat_lt 0 next.count) rest →
          lines_read d f next lines ≡ Some (folded next rest)) →
          lines_read c white_allowed reading (line ∷ lines) ≡ Some (folded reading records)
      line_again true test is passed later = rw test (passed is)
      line_again false test is passed later =
          let first = bind_some (record_at c (after_white white_allowed line)) (walk_after lines) records is in
          let r = first.0 in
          let rest = map_some (λ rest. r ∷ rest) (walk (context_after r) (white_allowed_after r) lines) records first.2 in
          let P : List Record → Type 0 = Follow (nat_lt 0 reading.count) in
          let followed = subst P (sym rest.2) follow in
          let Q : Bool → Type 0 = λ b. Follow b rest.0 in
          let others = subst Q (sym (some_read reading r)) (follow_rest (nat_lt 0 reading.count) r rest.0 followed) in
          read_more c white_allowed line lines r test first.1 reading (folded reading records) (follow_first (nat_lt 0 reading.count) r rest.0 followed)
          (later (context_after r) (white_allowed_after r) (with_record reading r) rest.0 rest.1 others ∙ ap (λ rs. Some (folded reading rs)) rest.2)
