-- The bytes that a plan is laid out in hold it.
use Rattle.std.proofs.Common.{◌≡◌, ℕ, suc, ◌+◌, ◌^◌, ◌<◌, ◌≤◌, Bool, true, false, cond, map, flat_map, option_map, List, [], ◌∷◌, ◌++◌, length, Some, refl, sym, ap, subst, ◌∙◌, arith}
use Rattle.std.specs.List.{AllByRecursion, slice_get, zip}
use Rattle.std.specs.Str.{bytes_eq}
use Rattle.std.proofs.lemmas.Grind.{flat_map-append}
use Rattle.std.proofs.lemmas.List.{length-append}
use Rattle.std.proofs.lemmas.Option.{slice_get-map}
use Rattle.bz_base.specs.Span.{last_address}
use Rattle.bz_base.specs.declared.types.FindSymOpts.TheVariants as asked
use Rattle.bz_base.proofs.PieceOfBytesLemmas.{map_some}
use Rattle.bz_gsym.specs.Entries.{entry_head_len}
use Rattle.bz_gsym.specs.InlineSpelling.{IsTree}
use Rattle.bz_gsym.specs.InlineTree.{Nodes}
use Rattle.bz_gsym.specs.Plain.{plain}
use Rattle.bz_gsym.specs.Strings.{string_at}
use Rattle.bz_gsym.specs.Tables as gsym
use Rattle.bz_gsym.specs.Tables.{files, strings}
use Rattle.bz_gsym.specs.declared.types.Header.{Header}
use Rattle.bz_gsym_layout.specs.Layable.{CallsStartInside, IsLayable, IsStorable, RowsAscend}
use Rattle.bz_gsym_layout.specs.Layout.{Tables, code_bytes, data_places, entry_bytes, inline_entry, layout, line_entry, line_table_bytes, source_index, tables_of, text_place, tree_bytes, word, zeros}
use Rattle.bz_gsym_layout.specs.Nesting.{Forest}
use Rattle.bz_gsym_layout.specs.Nesting.Forest.{NoCalls, Call}
use Rattle.bz_gsym_layout.specs.Numbering.{call_sources, call_texts, calls_of, index_of, row_sources, row_texts, same_source, sources_of, texts_of}
use Rattle.bz_gsym_layout.specs.Plan.{Called, Code, Line, Source}
use Rattle.bz_gsym_layout.specs.Planned.{planned}
use Rattle.bz_gsym_layout.proofs.DataLemmas.{LiesAt, code_below, codes_are, info_read, lies_at, placed_from, places_below, symbols_are}
use Rattle.bz_gsym_layout.proofs.DecodeLemmas.{AllCalls, CallReads, CodeReads, Holds, LineReads, RowReads, ShortLines, ShortTree, plain_is_planned}
use Rattle.bz_gsym_layout.proofs.LayoutLemmas.{before_data, data_at, file_of, files_read, from_data, head_read, length_is, places_read, starts_read, strings_read, text_fits, to_data}
use Rattle.bz_gsym_layout.proofs.LineLemmas.{RowsFit, zero_header}
use Rattle.bz_gsym_layout.specs.Members.{In}
use Rattle.bz_gsym_layout.proofs.MemberLemmas.{all_members, in_flat, in_left, in_right, member_of}
use Rattle.bz_gsym_layout.proofs.NumberingLemmas.{at_index, in_firsts, some_place, source_is_same, source_same, text_is_same, text_read, text_same}
use Rattle.bz_gsym_layout.proofs.TreeLemmas.{CallsFit, tree_of, tree_written}

-- a function's entries aren't longer than the whole
pub entries_below : (codes : List Code) (i : ℕ) (c : Code) → slice_get codes i ≡ Some c →
    length (line_entry (tables_of codes) c.start c.rows) + length (inline_entry (tables_of codes) c c.calls) ≤ length (layout codes)
entries_below codes i c there =
    let t : Tables = tables_of codes in
    let at : ℕ = data_at codes t in
    let placed : List (ℕ × Code) = placed_from t at codes in
    let found = map_some (λ (p : ℕ × Code). p.1) (slice_get placed i) c (sym (slice_get-map (λ (p : ℕ × Code). p.1) placed i) ∙ ap (λ l. slice_get l i) (codes_are t at codes) ∙ there) in
    let p : ℕ × Code = found.0 in
    let below = code_below t (layout codes) p.0 p.1 (lies_at t (layout codes) codes at (before_data codes t) (from_data codes t) (to_data codes t) p (i, found.1)) in
    omega (
      arith,
      below,
      ap (λ d. length (code_bytes t d)) found.2,
      length-append (word 4 c.size) (word 4 (text_place t c.name) ++ (line_entry t c.start c.rows ++ (inline_entry t c c.calls ++ zeros entry_head_len))),
      length-append (word 4 (text_place t c.name)) (line_entry t c.start c.rows ++ (inline_entry t c c.calls ++ zeros entry_head_len)),
      length-append (line_entry t c.start c.rows) (inline_entry t c c.calls ++ zeros entry_head_len),
      length-append (inline_entry t c c.calls) (zeros entry_head_len),
    )

module _ (codes : List Code) (small : length (layout codes) < 2 ^ 32) (layable : AllByRecursion IsLayable codes) where
  abbrev pub t : Tables
  t = tables_of codes

  abbrev pub bytes : List ℕ
  bytes = layout codes

  pub starts_small : AllByRecursion (λ (c : Code). c.start < 2 ^ 64) codes
  starts_small = all_members (λ (c : Code). c.start < 2 ^ 64) codes (λ c there. (member_of IsLayable codes layable c there).start)

  index_most : (sources : List Source) (s : Source) → index_of same_source s sources ≤ length sources
  index_most [] s = omega arith
  index_most (u ∷ sources) s = by (same_source u s) (index_most sources s) where
    by : (b : Bool) → index_of same_source s sources ≤ length sources → cond b 0 (suc (index_of same_source s sources)) ≤ suc (length sources)
    by true most = omega arith
    by false most = omega arith

  index_fits : (s : Source) → source_index t s < 2 ^ 32
  index_fits s = omega (arith, index_most t.sources s, length_is codes t)

  -- texts and source files of a function are read
  module _ (c : Code) (there : In codes c) where
    storable : (text : List ℕ) → In (texts_of c) text → string_at (strings bytes) (text_place t text) ≡ Some text
    storable text own =
        let good = member_of IsStorable (texts_of c) (member_of IsLayable codes layable c there).texts text own in
        let used = in_firsts bytes_eq text_is_same text_same (flat_map texts_of codes) text (in_flat texts_of codes c text there own) in
        ap (λ l. string_at l (text_place t text)) (strings_read codes t small starts_small) ∙ text_read t text used good.0 good.1

    file_there : (s : Source) → In (sources_of c) s → slice_get (files bytes) (source_index t s) ≡ Some (file_of codes t small starts_small s)
    file_there s own =
        let used = in_firsts same_source source_is_same source_same (flat_map sources_of codes) s (in_flat sources_of codes c s there own) in
        ap (λ l. slice_get l (source_index t s)) (files_read codes t small starts_small)
        ∙ slice_get-map (file_of codes t small starts_small) t.sources (index_of same_source s t.sources)
        ∙ ap (option_map (file_of codes t small starts_small)) (at_index same_source source_is_same source_same t.sources s used)

    line_there : (at : Line) → In (sources_of c) at.source → In (texts_of c) at.source.dir → In (texts_of c) at.source.file → LineReads bytes t at
    line_there at own dir file = rw (file_there at.source own, storable at.source.dir dir, storable at.source.file file) refl

    rows_there : (rows : List (ℕ × Line)) → ((text : List ℕ) → In (flat_map row_texts rows) text → In (texts_of c) text) →
        ((s : Source) → In (flat_map row_sources rows) s → In (sources_of c) s) → AllByRecursion (RowReads bytes t) rows
    rows_there [] texts sources = tt
    rows_there (row ∷ rows) texts sources = (
      line_there row.1 (sources row.1.source (0, refl)) (texts row.1.source.dir (0, refl)) (texts row.1.source.file (1, refl)),
      rows_there rows (λ text found. texts text (in_right (row_texts row) (flat_map row_texts rows) text found))
          (λ s found. sources s (in_right (row_sources row) (flat_map row_sources rows) s found)),
    )

    abbrev forest_texts : Forest Called → List (List ℕ)
    forest_texts calls = flat_map call_texts (calls_of calls)

    abbrev forest_sources : Forest Called → List Source
    forest_sources calls = flat_map call_sources (calls_of calls)

    calls_there : (calls : Forest Called) → ((text : List ℕ) → In (forest_texts calls) text → In (texts_of c) text) →
        ((s : Source) → In (forest_sources calls) s → In (sources_of c) s) → AllCalls (CallReads bytes t) calls
    calls_there NoCalls texts sources = tt
    calls_there (Call call within after) texts sources =
        let all_texts : flat_map call_texts (calls_of within ++ calls_of after) ≡ forest_texts within ++ forest_texts after = flat_map-append call_texts (calls_of within) (calls_of after) in
        let all_sources : flat_map call_sources (calls_of within ++ calls_of after) ≡ forest_sources within ++ forest_sources after = flat_map-append call_sources (calls_of within) (calls_of after) in
        let more_texts : (text : List ℕ) → In (forest_texts within ++ forest_texts after) text → In (texts_of c) text =
        λ text found. texts text (in_right (call_texts call) _ text (subst (λ l. In l text) (sym all_texts) found)) in
        let more_sources : (s : Source) → In (forest_sources within ++ forest_sources after) s → In (sources_of c) s =
        λ s found. sources s (in_right (call_sources call) _ s (subst (λ l. In l s) (sym all_sources) found)) in (
          (
            storable call.name (texts call.name (0, refl)),
            line_there call.at (sources call.at.source (0, refl)) (texts call.at.source.dir (1, refl)) (texts call.at.source.file (2, refl)),
          ),
          calls_there within (λ text found. more_texts text (in_left (forest_texts within) (forest_texts after) text found))
              (λ s found. more_sources s (in_left (forest_sources within) (forest_sources after) s found)),
          calls_there after (λ text found. more_texts text (in_right (forest_texts within) (forest_texts after) text found))
              (λ s found. more_sources s (in_right (forest_sources within) (forest_sources after) s found)),
        )

    row_sites : AllByRecursion (RowReads bytes t) c.rows
    row_sites =
        rows_there c.rows (λ text found. let k = in_left (flat_map row_texts c.rows) (forest_texts c.calls) text found in (suc k.0, k.1))
        (λ s found. in_left (flat_map row_sources c.rows) (forest_sources c.calls) s found)

    call_sites : AllCalls (CallReads bytes t) c.calls
    call_sites =
        calls_there c.calls (λ text found. let k = in_right (flat_map row_texts c.rows) (forest_texts c.calls) text found in (suc k.0, k.1))
        (λ s found. in_right (flat_map row_sources c.rows) (forest_sources c.calls) s found)

  rows_fit : (rows : List (ℕ × Line)) (addr : ℕ) → RowsAscend addr rows → RowsFit t zero_header addr rows
  rows_fit [] addr up = tt
  rows_fit (row ∷ rows) addr up = (up.0, up.1, up.2, index_fits row.1.source, rows_fit rows row.0 up.3)

  some_name : (text : List ℕ) → 0 < text_place t text
  some_name text = omega (arith, some_place t.texts 1 text)

  calls_fit : (calls : Forest Called) (base : ℕ) → CallsStartInside base calls → CallsFit t base calls
  calls_fit NoCalls base down = tt
  calls_fit (Call call within after) base down = (
    record {
      from = down.0;
      end = down.1;
      name = text_fits codes t small starts_small call.name;
      some_name = some_name call.name;
      file = index_fits call.at.source;
      line = down.2;
    },
    calls_fit within call.start down.3,
    calls_fit after base down.4,
  )

  -- what is written of a function isn't longer than the whole
  module _ (c : Code) (place : ℕ) (lies : LiesAt t bytes place c) where
    abbrev pub lines : List (ℕ × Line) → List ℕ
    lines rows = line_entry t c.start rows

    abbrev pub tree : Forest Called → List ℕ
    tree calls = inline_entry t c calls

    pub whole_length : length (lines c.rows) + length (tree c.calls) ≤ length bytes
    whole_length =
        omega (
          arith,
          code_below t bytes place c lies,
          length-append (word 4 c.size) (word 4 (text_place t c.name) ++ (lines c.rows ++ (tree c.calls ++ zeros entry_head_len))),
          length-append (word 4 (text_place t c.name)) (lines c.rows ++ (tree c.calls ++ zeros entry_head_len)),
          length-append (lines c.rows) (tree c.calls ++ zeros entry_head_len),
          length-append (tree c.calls) (zeros entry_head_len),
        )

    entry_longer : (typ : ℕ) (text : List ℕ) → length text ≤ length (entry_bytes typ text)
    entry_longer typ text = omega (arith, length-append (word 4 typ) (word 4 (length text) ++ text), length-append (word 4 (length text)) text)

    short_lines : (rows : List (ℕ × Line)) → length (lines rows) ≤ length bytes → ShortLines bytes t c.start rows
    short_lines [] most = tt
    short_lines (row ∷ rows) most = omega (arith, entry_longer 1 (line_table_bytes t c.start (row ∷ rows)))

    short_tree : (calls : Forest Called) → length (tree calls) ≤ length bytes → ShortTree bytes t c calls
    short_tree NoCalls most = tt
    short_tree (Call call within after) most = omega (arith, entry_longer 2 (tree_bytes t c))

    code_reads : In codes c → c.start + c.size ≤ last_address → CodeReads bytes t c
    code_reads there fits =
        let is = member_of IsLayable codes layable c there in
        record {
          root = record { end = fits; name = text_fits codes t small starts_small c.name; some_name = some_name c.name; calls = calls_fit c.calls c.start (is.calls fits) };
          rows = rows_fit c.rows c.start (is.rows fits);
          short_lines = short_lines c.rows (omega (arith, whole_length));
          short_tree = short_tree c.calls (omega (arith, whole_length));
          name = storable c there c.name (0, refl);
          row_sites = row_sites c there;
          call_sites = call_sites c there;
        }

  abbrev pub places : List (ℕ × Code)
  places = placed_from t (data_at codes t) codes

  pub lies : (p : ℕ × Code) → In places p → LiesAt t bytes p.0 p.1
  lies p there = lies_at t bytes codes (data_at codes t) (before_data codes t) (from_data codes t) (to_data codes t) p there

  code_in : (p : ℕ × Code) → In places p → In codes p.1
  code_in p (i, there) =
      (i, ap (λ l. slice_get l i) (sym (codes_are t (data_at codes t) codes)) ∙ slice_get-map (λ (q : ℕ × Code). q.1) places i ∙ ap (option_map (λ (q : ℕ × Code). q.1)) there)

  places_fit : AllByRecursion (λ p. p < 2 ^ 32) (data_places t (data_at codes t) codes)
  places_fit = places_below t codes (data_at codes t) (2 ^ 32) (omega (arith, length_is codes t))

  -- the bytes hold the plan
  pub layout_holds : Holds bytes t codes
  layout_holds = record {
    places = places;
    codes_are = codes_are t (data_at codes t) codes;
    base = ap (λ (h : Header). h.base_address) (head_read codes t small starts_small);
    symbols_are =
        ap (λ l. zip l (gsym.data_places bytes)) (starts_read codes t small starts_small)
        ∙ ap (zip (map (λ (c : Code). c.start) codes)) (places_read codes t small starts_small places_fit)
        ∙ symbols_are t (data_at codes t) codes;
    infos = λ p there.
        let l = lies p there in
        (l.after, info_read t bytes p.0 p.1 l (member_of IsLayable codes layable p.1 (code_in p there)).small (text_fits codes t small starts_small p.1.name));
    sizes = λ p there. (member_of IsLayable codes layable p.1 (code_in p there)).size;
    reads = λ p there fits. code_reads p.1 p.0 (lies p there) (code_in p there) fits;
  }

  -- the plain answer of a laid out plan is what the plan answers
  pub layout_answers : (addr : ℕ) → plain bytes asked.CodeInfoAndInlined addr ≡ planned codes addr
  layout_answers addr = plain_is_planned bytes t codes layout_holds addr

  -- each inline entry has a tree
  pub trees_are : (i : ℕ) (c : Code) → slice_get codes i ≡ Some c → c.start + c.size ≤ last_address → (tree : Nodes) × IsTree (tree_bytes t c) tree
  trees_are i c there fits =
      let is = member_of IsLayable codes layable c (i, there) in (
        tree_of t c,
        tree_written t c (record { end = fits; name = text_fits codes t small starts_small c.name; some_name = some_name c.name; calls = calls_fit c.calls c.start (is.calls fits) }),
      )
