-- The functions of a file without a fault can be laid out.
use Rattle.std.proofs.Common.{◌≡◌, ℕ, zero, suc, ◌+◌, ◌^◌, ◌<◌, ◌≤◌, Bool, true, false, cond, nat_lt, map, flat_map, List, [], ◌∷◌, ◌++◌, Option, Some, None, refl, sym, subst, arith}
use Rattle.std.specs.Prelude.{◌==◌, unwrap_or}
use Rattle.std.specs.List.{AllByRecursion, filter, slice_get}
use Rattle.std.specs.Str.{IsUtf8}
use Rattle.std.proofs.lemmas.Bool.{le-leb, ltb-true, ne_eqb}
use Rattle.std.proofs.lemmas.Grind.{flat_map-append}
use Rattle.bz_base.specs.Span.{last_address}
use Rattle.bz_breakpad_lines.specs.Names.{name_for}
use Rattle.bz_breakpad_function.specs.Locations.{line_at}
use Rattle.bz_breakpad_lines.specs.Table.{SourceLine, Inlinee, Function, Table}
use Rattle.bz_convert.specs.Fault.{has_zero}
use Rattle.bz_gsym_layout.specs.Members.{In}
use Rattle.bz_gsym_layout.specs.Nesting.{Forest, map_forest, nested}
use Rattle.bz_gsym_layout.specs.Nesting.Forest.{NoCalls, Call}
use Rattle.bz_gsym_layout.specs.Numbering.{call_texts, calls_of, row_texts, source_texts, texts_of}
use Rattle.bz_convert.specs.Plan.{called, calls_beside, changes, code_of, distinct_calls, has_size, is_checked, laid_calls, located, row_in, same_line, sized_calls, source_named}
use Rattle.bz_gsym_layout.specs.Layable.{CallsStartInside, IsLayable, IsStorable, RowsAscend}
use Rattle.bz_gsym_layout.specs.Plan.{Source, no_source}
use Rattle.bz_convert.specs.Rows.{row_by, rows_from}
use Rattle.bz_convert.proofs.BoundsLemmas.{AreBounded, IsBounded}
use Rattle.bz_convert.proofs.CallLemmas.{is_table, lies_within}
use Rattle.bz_convert.proofs.DistinctLemmas.{from_distinct}
use Rattle.bz_convert.proofs.FaultLemmas.{IsClean}
use Rattle.bz_gsym_layout.proofs.MemberLemmas.{all_append, filter_from}
use Rattle.bz_convert.proofs.MemberLemmas.{from_table}
use Rattle.bz_convert.proofs.PlanLemmas.{covering_among}

empty_utf8 : IsUtf8 []
empty_utf8 = ([], (refl, refl))

module _ (table : Table) (good : AreBounded table) where
  -- Texts.
  source_utf8 : (o : Option Source) → ((s : Source) → o ≡ Some s → IsUtf8 s.dir × IsUtf8 s.file) → IsUtf8 (unwrap_or o no_source).dir × IsUtf8 (unwrap_or o no_source).file
  source_utf8 None each = (empty_utf8, empty_utf8)
  source_utf8 (Some s) each = each s refl

  name_utf8 : (o : Option (List ℕ)) → ((n : List ℕ) → o ≡ Some n → IsUtf8 n) → IsUtf8 (unwrap_or o [])
  name_utf8 None each = empty_utf8
  name_utf8 (Some n) each = each n refl

  file_utf8 : (id : ℕ) → AllByRecursion IsUtf8 (source_texts (source_named table id))
  file_utf8 id = let two = source_utf8 (located table id) (good.files id) in (two.0, (two.1, tt))

  rows_utf8 : (rows : List (ℕ × SourceLine)) → AllByRecursion IsUtf8 (flat_map row_texts (map (row_in table) rows))
  rows_utf8 [] = tt
  rows_utf8 (row ∷ rows) =
      all_append IsUtf8 (row_texts (row_in table row)) (flat_map row_texts (map (row_in table) rows)) (file_utf8 row.1.file) (rows_utf8 rows)

  calls_utf8 : (calls : Forest Inlinee) → AllByRecursion IsUtf8 (flat_map call_texts (calls_of (map_forest (called table) calls)))
  calls_utf8 NoCalls = tt
  calls_utf8 (Call i within after) =
      let inner = calls_of (map_forest (called table) within) in
      let later = calls_of (map_forest (called table) after) in
      all_append IsUtf8 (call_texts (called table i)) (flat_map call_texts (inner ++ later)) (name_utf8 (name_for i.origin table.origins) (good.origins i.origin), file_utf8 i.call_file)
      (subst (AllByRecursion IsUtf8) (sym (flat_map-append call_texts inner later)) (all_append IsUtf8 (flat_map call_texts inner) (flat_map call_texts later) (calls_utf8 within) (calls_utf8 after)))

  all_storable : (texts : List (List ℕ)) → AllByRecursion IsUtf8 texts → ((text : List ℕ) → In texts text → has_zero text ≡ false) → AllByRecursion IsStorable texts
  all_storable [] utf8 none = tt
  all_storable (text ∷ texts) utf8 none = ((none text (0, refl), utf8.0), all_storable texts utf8.1 (λ u found. none u (suc found.0, found.1)))

  -- Rows.
  rows_up : (line : ℕ → Option SourceLine) → ((a : ℕ) (l : SourceLine) → line a ≡ Some l → l.line < 2 ^ 32) → (count at from : ℕ) (before : Option SourceLine) →
      from ≤ at → at + count ≤ 2 ^ 64 → RowsAscend from (map (row_in table) (rows_from same_line line before at count))
  rows_up line small zero at from before up most = tt
  rows_up line small (suc count) at from before up most =
      by before (line at) (λ l is. small at l is) (λ from up. rows_up line small count (at + 1) from (line at) up (omega arith)) where
        by : (before now : Option SourceLine) → ((l : SourceLine) → now ≡ Some l → l.line < 2 ^ 32) →
            ((from : ℕ) → from ≤ at + 1 → RowsAscend from (map (row_in table) (rows_from same_line line (line at) (at + 1) count))) →
            RowsAscend from (map (row_in table) (row_by same_line at before now ++ rows_from same_line line (line at) (at + 1) count))
        by before None fits next = next from (omega arith)
        by None (Some l) fits next = (up, omega arith, fits l refl, next at (omega arith))
        by (Some former) (Some l) fits next = same_by (same_line former l) (next from (omega arith)) (up, omega arith, fits l refl, next at (omega arith)) where
          same_by : (b : Bool) → RowsAscend from (map (row_in table) (rows_from same_line line (line at) (at + 1) count)) →
              RowsAscend from (map (row_in table) ((at, l) ∷ rows_from same_line line (line at) (at + 1) count)) →
              RowsAscend from (map (row_in table) (cond b [] ((at, l) ∷ []) ++ rows_from same_line line (line at) (at + 1) count))
          same_by true without within = without
          same_by false without within = within

  -- Calls.
  abbrev Ascends : ℕ → List Inlinee → Type 0
  Ascends base [] = Unit {0}
  Ascends base (i ∷ calls) = (base ≤ i.start) × (i.start + i.size ≤ last_address) × (i.call_line < 2 ^ 32) × Ascends i.start calls

  lower : (calls : List Inlinee) (base less : ℕ) → less ≤ base → Ascends base calls → Ascends less calls
  lower [] base less down up = tt
  lower (i ∷ calls) base less down up = (omega (arith, up.0), up.1, up.2, up.3)

  nested_by : (a d : Bool) (base : ℕ) (i : Inlinee) (within after : Forest Inlinee) → (base ≤ i.start) × (i.start + i.size ≤ last_address) × (i.call_line < 2 ^ 32) →
      CallsStartInside i.start (map_forest (called table) within) → CallsStartInside base (map_forest (called table) after) →
      CallsStartInside base (map_forest (called table) (cond a NoCalls (cond d (Call i within after) after)))
  nested_by true d base i within after own inner later = tt
  nested_by false true base i within after own inner later = (own.0, own.1, own.2, inner, later)
  nested_by false false base i within after own inner later = later

  nested_down : (at base : ℕ) (calls : List Inlinee) → Ascends base calls → CallsStartInside base (map_forest (called table) (nested (λ (i : Inlinee). i.depth) at calls))
  nested_down at base [] up = tt
  nested_down at base (i ∷ calls) up =
      nested_by (nat_lt i.depth at) (i.depth == at) base i (nested (λ (i : Inlinee). i.depth) (at + 1) calls) (nested (λ (i : Inlinee). i.depth) at calls) (up.0, up.1, up.2)
      (nested_down (at + 1) i.start calls up.3) (nested_down at base calls (lower calls i.start base up.0 up.3))

  ascends_from : (calls : List Inlinee) (base : ℕ) →
      ((i j : ℕ) (x y : Inlinee) → i ≤ j → slice_get calls i ≡ Some x → slice_get calls j ≡ Some y → x.start ≤ y.start) →
      ((x : Inlinee) → In calls x → (base ≤ x.start) × (x.start + x.size ≤ last_address) × (x.call_line < 2 ^ 32)) → Ascends base calls
  ascends_from [] base up each = tt
  ascends_from (c ∷ calls) base up each =
      let own = each c (0, refl) in (
        own.0,
        own.1,
        own.2,
        ascends_from calls c.start (λ i j x y less at_i at_j. up (suc i) (suc j) x y (omega arith) at_i at_j)
            (λ x there. let is = each x (suc there.0, there.1) in (up 0 (suc there.0) c x (omega arith) refl there.1, is.1, is.2)),
      )

  module _ (f : Function) (bounded : IsBounded f) (clean : IsClean table f) where
    checked : f.start + f.size ≤ last_address → is_checked f ≡ true
    checked fits = rw (ne_eqb f.size 0 clean.size, le-leb (f.start + f.size) last_address fits) refl

    sized_up : f.start + f.size ≤ last_address → Ascends f.start (sized_calls f)
    sized_up fits =
        let ok = checked fits in
        let is = is_table f (clean.nested ok) ok in
        ascends_from (sized_calls f) f.start (λ i j x y less at_i at_j. is.starts_ascend i j x y less at_i at_j) (λ x there.
        let among = from_table (λ (i : Inlinee). i.start) (λ i. i.depth) (filter has_size (distinct_calls f.inlinees)) (sized_calls f) is x there in
        let found = filter_from has_size (distinct_calls f.inlinees) among.0 x among.1 in
        let within = lies_within f (clean.nested ok) ok x.depth x found.0 (ltb-true 0 x.size found.1) refl in
        (within.0, omega (arith, within.1, fits), bounded.calls x (from_distinct f.inlinees x found.0)))

    calls_down : f.start + f.size ≤ last_address → CallsStartInside f.start (code_of table f).calls
    calls_down fits = by (changes f) where
      by : (rows : List (ℕ × SourceLine)) → CallsStartInside f.start (map_forest (called table) (nested (λ (i : Inlinee). i.depth) 0 (calls_beside rows (sized_calls f))))
      by [] = tt
      by (row ∷ rows) = nested_down 0 f.start (sized_calls f) (sized_up fits)

    rows_ascend : f.start + f.size ≤ last_address → RowsAscend f.start (code_of table f).rows
    rows_ascend fits =
        let all : changes f ≡ rows_from same_line (λ a. line_at a f.lines) None f.start f.size = rw (checked fits) refl in
        subst (λ rows. RowsAscend f.start (map (row_in table) rows)) (sym all)
        (rows_up (λ a. line_at a f.lines) (λ a l is. bounded.lines l (covering_among (λ (r : SourceLine). r.start) (λ r. r.size) a f.lines l is)) f.size f.start f.start None (omega arith) (omega (arith, fits)))

    pub layable : IsLayable (code_of table f)
    layable = record {
      size = clean.size;
      small = bounded.size;
      start = bounded.start;
      texts = all_storable (texts_of (code_of table f))
          (bounded.name, all_append IsUtf8 _ _ (rows_utf8 (changes f)) (calls_utf8 (nested (λ (i : Inlinee). i.depth) 0 (laid_calls f))))
          clean.no_zero;
      rows = rows_ascend;
      calls = calls_down;
    }
