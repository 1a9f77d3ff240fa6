-- The records that are kept of a function are its records in order; which of them stands at an index.
use Rattle.std.proofs.Common.{◌≡◌, ℕ, zero, suc, ◌+◌, ◌-◌, ◌<◌, ◌≤◌, List, [], ◌∷◌, length, drop, map, get_or, Option, Some, None, option_map, IsSome, refl, sym, ap, subst, ◌∙◌, arith, length-drop}
use Rattle.std.specs.List.{AllByRecursion, cons_option, filter_map, slice_get, slice_range}
use Rattle.std.specs.Prelude.{slice_index}
use Rattle.std.proofs.lemmas.Bool.{false≢true}
use Rattle.std.proofs.lemmas.List.{get_or-drop, get_or-take, length-map, length-take-le}
use Rattle.std.proofs.lemmas.Option.{slice_get-get_or, slice_get-map, slice_get_read}
use Rattle.bz_base.specs.Line.{all_lines}
use Rattle.bz_search.proofs.SortingLaws.{sorted_length, table_sorted}
use Rattle.bz_breakpad_table.specs.Kept.{IsNested, kept_call, kept_lines}
use Rattle.bz_breakpad_table.specs.LineRun.{AreLineRecords, lines_in}
use Rattle.bz_breakpad_table.specs.declared.types.CallRange.{CallRange}
use Rattle.bz_breakpad_table.proofs.RunLemmas.{first_is}
use Rattle.bz_breakpad_lines.specs.Line.{line_in}
use Rattle.bz_breakpad_lines.specs.LineStarts.{ReadsLine, line_read}
use Rattle.bz_breakpad_lines.specs.Table.{Function, Inlinee, SourceLine}
use Rattle.bz_breakpad_function.specs.InOrder.{calls_in_order, lines_in_order}
use Rattle.bz_breakpad_function.proofs.LineSearchLemmas.{kept_are_read}

module _ (f k : Function) (is : IsNested f k) where
  -- what is kept is in order
  pub lines_kept : k.lines ≡ lines_in_order f
  lines_kept = table_sorted (λ (l : SourceLine). l.start) (λ l. l.size) f.lines k.lines is.lines

  pub calls_kept : k.inlinees ≡ calls_in_order f
  calls_kept = table_sorted (λ (i : Inlinee). i.depth) (λ i. i.start) f.inlinees k.inlinees is.calls

  -- and it is all
  pub lines_count : length k.lines ≡ length f.lines
  lines_count = ap length lines_kept ∙ sorted_length (λ (l : SourceLine). l.start) (λ l. l.size) f.lines

  calls_count : length k.inlinees ≡ length f.inlinees
  calls_count = ap length calls_kept ∙ sorted_length (λ (i : Inlinee). i.depth) (λ i. i.start) f.inlinees

-- as many ranges as inlined calls
pub ranges_count : (bytes : List ℕ) (ranges : List CallRange) (f k : Function) → IsNested f k → k.inlinees ≡ map (kept_call bytes) ranges → length ranges ≡ length f.inlinees
ranges_count bytes ranges f k is are = sym (length-map ranges (kept_call bytes)) ∙ ap length (sym are) ∙ calls_count f k is

-- a part of a list has its length
pub range_length : {X : Type 0} (xs : List X) (from to : ℕ) → to ≤ length xs → length (slice_range xs from to) ≡ to - from
range_length xs from to within = length-take-le (to - from) (drop from xs) (omega (arith, within, length-drop from xs))

-- what stands at an index of it
pub range_at : {X : Type 0} (xs : List X) (from to index place : ℕ) (x : X) → to ≤ length xs → index < to - from → place ≡ from + index → x ≡ get_or xs place x →
    slice_get (slice_range xs from to) index ≡ Some x
range_at xs from to index place x within before is read =
    slice_get_read (slice_range xs from to) (to - from) index x (sym (range_length xs from to within)) before
    (read
    ∙ ap (λ i. get_or xs i x) is
    ∙ sym (get_or-drop from xs index x)
    ∙ sym (get_or-take (to - from) (drop from xs) index x before))

-- what holds of all holds of those that are left
all_left : {A : Type 0} (P : A → Type 0) (xs : List A) (i : ℕ) → AllByRecursion P xs → AllByRecursion P (drop i xs)
all_left P [] zero all = tt
all_left P [] (suc i) all = tt
all_left P (x ∷ xs) zero all = all
all_left P (x ∷ xs) (suc i) all = all_left P xs i all.1

-- A list of which each item gives something.
module _ {A B : Type 0} (f : A → Option B) where
  pub all_give : (xs : List A) → AllByRecursion (λ x. IsSome (f x)) xs → length (filter_map f xs) ≡ length xs
  all_give [] all = refl
  all_give (x ∷ xs) all = by (f x) all.0 (all_give xs all.1) where
    by : (o : Option B) → IsSome o → length (filter_map f xs) ≡ length xs → length (cons_option o (filter_map f xs)) ≡ suc (length xs)
    by None some more = absurd (false≢true some)
    by (Some y) some more = ap suc more

  -- the first that is given after some items
  given_after : (xs : List A) (i : ℕ) → AllByRecursion (λ x. IsSome (f x)) xs → slice_get (filter_map f (drop i xs)) 0 ≡ slice_get (filter_map f xs) i
  given_after [] zero all = refl
  given_after [] (suc i) all = refl
  given_after (x ∷ xs) zero all = refl
  given_after (x ∷ xs) (suc i) all = by (f x) all.0 (given_after xs i all.1) where
    by : (o : Option B) → IsSome o → slice_get (filter_map f (drop i xs)) 0 ≡ slice_get (filter_map f xs) i →
        slice_get (filter_map f (drop i xs)) 0 ≡ slice_get (cons_option o (filter_map f xs)) (suc i)
    by None some more = absurd (false≢true some)
    by (Some y) some more = more

-- as many line records as lines
pub run_count : (text : List ℕ) → AreLineRecords text → length (lines_in text) ≡ length (all_lines text)
run_count text read = all_give line_in (all_lines text) read

-- the line record at an index is the first one after so many lines
pub run_at : (text rest : List ℕ) (index : ℕ) → AreLineRecords text → all_lines rest ≡ drop index (all_lines text) → index < length (lines_in text) →
    slice_get (lines_in text) index ≡ Some (line_read rest 0)
run_at text rest index read is within =
    let long : length (all_lines rest) ≡ length (all_lines text) - index = ap length is ∙ length-drop index (all_lines text) in
    let left = subst (AllByRecursion (λ (line : List ℕ). IsSome (line_in line))) (sym is) (all_left (λ (line : List ℕ). IsSome (line_in line)) (all_lines text) index read) in
    sym (given_after line_in (all_lines text) index read)
    ∙ ap (λ (lines : List (List ℕ)). slice_get (filter_map line_in lines) 0) (sym is)
    ∙ first_of rest (omega (arith, long, within, run_count text read)) left
  where
    first_of : (t : List ℕ) → 0 < length (all_lines t) → AreLineRecords t → slice_get (lines_in t) 0 ≡ Some (line_read t 0)
    first_of [] some all = absurd (omega (arith, some))
    first_of (b ∷ t) some all = ap (λ (lines : List SourceLine). slice_get lines 0) (first_is (b ∷ t) (omega arith) all)

-- the line records at places, and the one at an index
module _ (bytes places : List ℕ) (read : AllByRecursion (ReadsLine bytes) places) where
  pub listed_count : length (kept_lines bytes places) ≡ length places
  listed_count = ap length (kept_are_read bytes places read) ∙ length-map places (line_read bytes)

  pub listed_at : (index : ℕ) → index < length places → slice_get (kept_lines bytes places) index ≡ Some (line_read bytes (slice_index places index))
  listed_at index within =
      ap (λ (lines : List SourceLine). slice_get lines index) (kept_are_read bytes places read)
      ∙ slice_get-map (line_read bytes) places index
      ∙ ap (option_map (line_read bytes)) (slice_get-get_or places index 0 within)
