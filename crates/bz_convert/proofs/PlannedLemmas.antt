-- The functions that are collected of a file without a fault are its plan, which is well formed.
use Rattle.std.proofs.Common.{◌≡◌, ℕ, zero, suc, ◌+◌, ◌≤◌, Bool, true, false, cond, List, [], ◌∷◌, ◌++◌, flat_map, length, map, None, Option, Some, refl, sym, ap, subst, ◌∙◌, arith}
use Rattle.std.specs.Prelude.{slice_index_or}
use Rattle.std.specs.List.{AllZip, slice_get}
use Rattle.std.specs.Str.{bytes_eq}
use Rattle.std.proofs.lemmas.List.{length-map}
use Rattle.std.proofs.lemmas.Option.{none-some, same_Some, slice_get_within, slice_get-get_or}
use Rattle.bz_breakpad_function.specs.InOrder.{ordered_functions}
use Rattle.bz_breakpad_function.specs.Locations.{line_at}
use Rattle.bz_breakpad_lines.specs.Table.{Function, Inlinee, SourceLine, Table}
use Rattle.bz_convert.specs.Fault.{fault_in}
use Rattle.bz_convert.specs.Laid.{IsFunctionFor, IsNodeFor, IsRowFor, sources_of_call, sources_used, texts_of_call, texts_used}
use Rattle.bz_gsym_layout.specs.Members.{In}
use Rattle.bz_convert.specs.Numbered.{listed_sources}
use Rattle.bz_gsym_layout.specs.Listing.{listed_texts}
use Rattle.bz_convert.specs.Plan.{called, changes, code_of, is_checked, laid_calls, line_of, plan, row_in, same_line}
use Rattle.bz_convert.specs.Rows.{row_by, rows_from}
use Rattle.bz_convert.specs.declared.conversion.numbering.Numbering.{Numbering}
use Rattle.bz_convert.proofs.FaultLemmas.{IsClean, all_clean}
use Rattle.bz_gsym_layout.proofs.ListingLemmas.{text_found}
use Rattle.bz_convert.proofs.OrderLemmas.{laid_order}
use Rattle.bz_convert.proofs.SoFarLemmas.{SoFar}
use Rattle.bz_convert.proofs.TreeLemmas.{all_calls, trees_alike}
use Rattle.bz_convert.proofs.ZeroLemmas.{calls_seen}
use Rattle.bz_gsym_layout.specs.InOrder.{AreInOrder, NeverBefore, depth_of}
use Rattle.bz_gsym_layout.specs.Indexed as indexed
use Rattle.bz_gsym_layout.specs.Indexed.{IsFunction, IsPlan, call_of, codes_of, row_of, sources_listed, text_at, texts_listed}
use Rattle.bz_gsym_layout.specs.Nesting.{Forest, map_forest, nested}
use Rattle.bz_gsym_layout.specs.Numbering.{call_sources, call_texts, calls_of, firsts, row_sources, row_texts, same_source, sources_of, texts_of}
use Rattle.bz_gsym_layout.specs.Plan.{Called, Line, Source, no_source}
use Rattle.bz_gsym_layout.specs.declared.plan.Function.{Function as Planned}
use Rattle.bz_gsym_layout.specs.declared.plan.Node.{Node}
use Rattle.bz_gsym_layout.specs.declared.plan.Plan.{Plan}
use Rattle.bz_gsym_layout.specs.declared.plan.Row.{Row}

-- Two lists abreast.
zip_at : {X Y : Type 0} (R : X → Y → Type 0) (xs : List X) (ys : List Y) → AllZip R xs ys → (i : ℕ) (y : Y) → slice_get ys i ≡ Some y → (x : X) × (slice_get xs i ≡ Some x) × R x y
zip_at R [] [] all i y at = absurd (none-some y at)
zip_at R [] (b ∷ ys) all i y at = absurd all
zip_at R (a ∷ xs) [] all i y at = absurd all
zip_at R (a ∷ xs) (b ∷ ys) all zero y at = (a, refl, subst (R a) (same_Some b y at) all.0)
zip_at R (a ∷ xs) (b ∷ ys) all (suc i) y at = zip_at R xs ys all.1 i y at

zip_seen : {X Y Z : Type 0} (R : X → Y → Type 0) (f : X → Z) (g : Y → Z) → ((x : X) (y : Y) → R x y → g y ≡ f x) → (xs : List X) (ys : List Y) → AllZip R xs ys → map g ys ≡ map f xs
zip_seen R f g each [] [] all = refl
zip_seen R f g each [] (b ∷ ys) all = absurd all
zip_seen R f g each (a ∷ xs) [] all = absurd all
zip_seen R f g each (a ∷ xs) (b ∷ ys) all = ap (λ z. z ∷ map g ys) (each a b all.0) ∙ ap (λ l. f a ∷ l) (zip_seen R f g each xs ys all.1)

flat_seen : {X Y Z : Type 0} (f : Y → List Z) (g : X → Y) (xs : List X) → flat_map f (map g xs) ≡ flat_map (λ x. f (g x)) xs
flat_seen f g [] = refl
flat_seen f g (x ∷ xs) = ap (λ l. f (g x) ++ l) (flat_seen f g xs)

-- Rows ascend.
abbrev Up : ℕ → List (ℕ × SourceLine) → Type 0
Up addr [] = Unit {0}
Up addr (row ∷ rows) = (addr ≤ row.0) × Up row.0 rows

module _ (line : ℕ → Option SourceLine) (count at : ℕ) (rest : (addr : ℕ) → addr ≤ at + 1 → Up addr (rows_from same_line line (line at) (at + 1) count)) (addr : ℕ) (low : addr ≤ at) where
  own_row : (b : Bool) (l : SourceLine) → Up addr (cond b [] ((at, l) ∷ []) ++ rows_from same_line line (line at) (at + 1) count)
  own_row true l = rest addr (omega arith)
  own_row false l = (low, rest at (omega arith))

  row_up : (before now : Option SourceLine) → Up addr (row_by same_line at before now ++ rows_from same_line line (line at) (at + 1) count)
  row_up before None = rest addr (omega arith)
  row_up None (Some l) = (low, rest at (omega arith))
  row_up (Some former) (Some l) = own_row (same_line former l) l

rows_up : (line : ℕ → Option SourceLine) (count at addr : ℕ) (before : Option SourceLine) → addr ≤ at → Up addr (rows_from same_line line before at count)
rows_up line zero at addr before low = tt
rows_up line (suc count) at addr before low = row_up line count at (λ next below. rows_up line count (at + 1) next (line at) below) addr low before (line at)

changes_up : (f : Function) → Up f.start (changes f)
changes_up f = by (is_checked f) where
  by : (b : Bool) → Up f.start (cond b (rows_from same_line (λ addr. line_at addr f.lines) None f.start f.size) [])
  by true = rows_up (λ addr. line_at addr f.lines) f.size f.start f.start None (omega arith)
  by false = tt

module _ (table : Table) where
  never_before : (sources : List Source) (addr : ℕ) (lines : List (ℕ × SourceLine)) (rows : List Row) → AllZip (IsRowFor table sources) lines rows → Up addr lines → NeverBefore addr rows
  never_before sources addr [] [] all up = tt
  never_before sources addr [] (r ∷ rows) all up = absurd all
  never_before sources addr (l ∷ lines) [] all up = absurd all
  never_before sources addr (l ∷ lines) (r ∷ rows) all up =
      let at = all.0.addr in
      (omega (arith, up.0), subst (λ n. NeverBefore n rows) (sym at) (never_before sources l.0 lines rows all.1 up.1))

  abbrev depth : Inlinee → ℕ
  depth i = i.depth

  -- A function without a fault.
  module _ (f : Function) (clean : IsClean table f) where
    calls_listed : calls_of (code_of table f).calls ≡ map (called table) (laid_calls f)
    calls_listed =
        calls_seen (called table) (nested depth 0 (laid_calls f))
        ∙ ap (map (called table)) (all_calls depth (laid_calls f) (laid_order table f clean).first (laid_order table f clean).down)

    pub texts_are : texts_used table f ≡ texts_of (code_of table f)
    texts_are =
        ap (λ l. f.name ∷ (l ++ flat_map (texts_of_call table) (laid_calls f))) (sym (flat_seen row_texts (row_in table) (changes f)))
        ∙ ap (λ l. f.name ∷ (flat_map row_texts (code_of table f).rows ++ l)) (sym (ap (flat_map call_texts) calls_listed ∙ flat_seen call_texts (called table) (laid_calls f)))

    pub sources_are : sources_used table f ≡ sources_of (code_of table f)
    sources_are =
        ap (λ l. l ++ flat_map (sources_of_call table) (laid_calls f)) (sym (flat_seen row_sources (row_in table) (changes f)))
        ∙ ap (λ l. flat_map row_sources (code_of table f).rows ++ l) (sym (ap (flat_map call_sources) calls_listed ∙ flat_seen call_sources (called table) (laid_calls f)))

    module _ (texts : List (List ℕ)) (sources : List Source) (g : Planned) (says : IsFunctionFor table texts sources f g) where
      source_found : (i : ℕ) (s : Source) → slice_get sources i ≡ Some s → slice_index_or sources i no_source ≡ s
      source_found i s at = same_Some _ s (sym (slice_get-get_or sources i no_source (slice_get_within sources i s at)) ∙ at)

      row_is : (row : ℕ × SourceLine) (r : Row) → IsRowFor table sources row r → row_of texts sources r ≡ row_in table row
      row_is row r is =
          ap (λ (n : ℕ). (n, indexed.line_by texts sources r.source r.line)) is.addr
          ∙ ap (λ (s : Source). (row.0, record { source = s; line = r.line })) (source_found r.source (line_of table row.1).source is.source)
          ∙ ap (λ (n : ℕ). (row.0, record { source = (line_of table row.1).source; line = n })) is.line

      call_is : (i : Inlinee) (node : Node) → IsNodeFor table texts sources i node → call_of texts sources node ≡ called table i
      call_is i node is =
          ap (λ (n : ℕ). record { start = n; size = node.size; name = text_at texts node.name; at = indexed.line_by texts sources node.source node.line }) is.start
          ∙ ap (λ (n : ℕ). record { start = i.start; size = n; name = text_at texts node.name; at = indexed.line_by texts sources node.source node.line }) is.size
          ∙ ap (λ (t : List ℕ). record { start = i.start; size = i.size; name = t; at = indexed.line_by texts sources node.source node.line }) (text_found texts node.name (called table i).name is.name)
          ∙ ap (λ (s : Source). record { start = i.start; size = i.size; name = (called table i).name; at = record { source = s; line = node.line } }) (source_found node.source (called table i).at.source is.source)
          ∙ ap (λ (n : ℕ). record { start = i.start; size = i.size; name = (called table i).name; at = record { source = (called table i).at.source; line = n } }) is.line

      calls_are : map_forest (call_of texts sources) (nested depth_of 0 g.calls.items) ≡ (code_of table f).calls
      calls_are =
          sym (trees_alike (IsNodeFor table texts sources) depth depth_of (called table) (call_of texts sources) (λ i node is. (sym is.depth, sym (call_is i node is))) (laid_calls f) g.calls.items 0 says.calls)

      pub code_is : indexed.code_of texts sources g ≡ code_of table f
      code_is =
          ap (λ (n : ℕ). record { start = n; size = g.size; name = text_at texts g.name; rows = map (row_of texts sources) g.rows.items; calls = map_forest (call_of texts sources) (nested depth_of 0 g.calls.items) }) says.start
          ∙ ap (λ (n : ℕ). record { start = f.start; size = n; name = text_at texts g.name; rows = map (row_of texts sources) g.rows.items; calls = map_forest (call_of texts sources) (nested depth_of 0 g.calls.items) }) says.size
          ∙ ap (λ (t : List ℕ). record { start = f.start; size = f.size; name = t; rows = map (row_of texts sources) g.rows.items; calls = map_forest (call_of texts sources) (nested depth_of 0 g.calls.items) }) (text_found texts g.name f.name says.name)
          ∙ ap (λ (rs : List (ℕ × Line)). record { start = f.start; size = f.size; name = f.name; rows = rs; calls = map_forest (call_of texts sources) (nested depth_of 0 g.calls.items) })
          (zip_seen (IsRowFor table sources) (row_in table) (row_of texts sources) row_is (changes f) g.rows.items says.rows)
          ∙ ap (λ (t : Forest Called). record { start = f.start; size = f.size; name = f.name; rows = (code_of table f).rows; calls = t }) calls_are

      nodes_order : AreInOrder g.start g.calls.items
      nodes_order =
          let order = laid_order table f clean in
          let at = zip_at (IsNodeFor table texts sources) (laid_calls f) g.calls.items says.calls in
          record {
            first = λ x there. let i = at 0 x there in i.2.depth ∙ order.first i.0 i.1;
            down = λ k x y there next. let i = at k x there in let j = at (suc k) y next in omega (arith, order.down k i.0 j.0 i.1 j.1, i.2.depth, j.2.depth);
            from = λ k x there. let i = at k x there in omega (arith, order.from k i.0 i.1, i.2.start, says.start);
            ascend = λ k m x y less there next. let i = at k x there in let j = at m y next in omega (arith, order.ascend k m i.0 j.0 less i.1 j.1, i.2.start, j.2.start);
          }

      pub function_is : IsFunction (length texts) (length sources) g
      function_is = record {
        name = slice_get_within texts g.name f.name says.name;
        rows = λ k row there. let r = zip_at (IsRowFor table sources) (changes f) g.rows.items says.rows k row there in slice_get_within sources row.source (line_of table r.0.1).source r.2.source;
        calls = λ k node there.
            let i = zip_at (IsNodeFor table texts sources) (laid_calls f) g.calls.items says.calls k node there in
            (slice_get_within texts node.name (called table i.0).name i.2.name, slice_get_within sources node.source (called table i.0).at.source i.2.source);
        ascend = subst (λ n. NeverBefore n g.rows.items) (sym says.start) (never_before sources f.start (changes f) g.rows.items says.rows (changes_up f));
        order = nodes_order;
      }

  -- Functions without a fault.
  module _ (texts : List (List ℕ)) (sources : List Source) where
    codes_zip : (fs : List Function) (gs : List Planned) → ((f : Function) → In fs f → IsClean table f) → AllZip (IsFunctionFor table texts sources) fs gs → map (indexed.code_of texts sources) gs ≡ map (code_of table) fs
    codes_zip [] [] clean all = refl
    codes_zip [] (g ∷ gs) clean all = absurd all
    codes_zip (f ∷ fs) [] clean all = absurd all
    codes_zip (f ∷ fs) (g ∷ gs) clean all =
        ap (λ c. c ∷ map (indexed.code_of texts sources) gs) (code_is f (clean f (0, refl)) texts sources g all.0)
        ∙ ap (λ l. code_of table f ∷ l) (codes_zip fs gs (λ h there. clean h (suc there.0, there.1)) all.1)

  all_texts : (fs : List Function) → ((f : Function) → In fs f → IsClean table f) → flat_map (texts_used table) fs ≡ flat_map texts_of (map (code_of table) fs)
  all_texts [] clean = refl
  all_texts (f ∷ fs) clean =
      ap (λ l. l ++ flat_map (texts_used table) fs) (texts_are f (clean f (0, refl))) ∙ ap (λ l. texts_of (code_of table f) ++ l) (all_texts fs (λ h there. clean h (suc there.0, there.1)))

  all_sources : (fs : List Function) → ((f : Function) → In fs f → IsClean table f) → flat_map (sources_used table) fs ≡ flat_map sources_of (map (code_of table) fs)
  all_sources [] clean = refl
  all_sources (f ∷ fs) clean =
      ap (λ l. l ++ flat_map (sources_used table) fs) (sources_are f (clean f (0, refl))) ∙ ap (λ l. sources_of (code_of table f) ++ l) (all_sources fs (λ h there. clean h (suc there.0, there.1)))

  -- The whole file.
  abbrev pub Collected : Numbering → List Function → List Planned → Type 0
  Collected n fs gs = SoFar table (texts_used table) (sources_used table) (λ n. IsFunctionFor table (listed_texts n.texts) (listed_sources n)) [] [] n fs gs

  module _ (none : fault_in table ≡ None) (n : Numbering) (p : Plan) (texts_same : p.texts ≡ n.texts.listed) (sources_same : p.sources ≡ n.sources.listed)
      (collected : Collected n (ordered_functions table.functions) p.functions.items) where
    abbrev fs : List Function
    fs = ordered_functions table.functions

    clean : (f : Function) → In fs f → IsClean table f
    clean f there = all_clean table fs None none f there

    texts_list : texts_listed p ≡ listed_texts n.texts
    texts_list = ap (λ l. map (λ text. text.now) l.items) texts_same

    sources_list : sources_listed p ≡ listed_sources n
    sources_list = ap (λ l. map (indexed.source_of (texts_listed p)) l.items) sources_same ∙ ap (λ l. map (indexed.source_of l) n.sources.listed.items) texts_list

    pub codes_are : codes_of p ≡ plan table
    codes_are =
        ap (λ ts. map (indexed.code_of ts (sources_listed p)) p.functions.items) texts_list ∙ ap (λ ss. map (indexed.code_of (listed_texts n.texts) ss) p.functions.items) sources_list
        ∙ codes_zip (listed_texts n.texts) (listed_sources n) fs p.functions.items clean collected.each

    text_count : length (listed_texts n.texts) ≡ length p.texts.items
    text_count = ap length (sym texts_list) ∙ length-map p.texts.items (λ text. text.now)

    source_count : length (listed_sources n) ≡ length p.sources.items
    source_count = ap length (sym sources_list) ∙ length-map p.sources.items (indexed.source_of (texts_listed p))

    pub is_plan : IsPlan p
    is_plan = record {
      texts = texts_list ∙ collected.numbering.numbered.texts.listed ∙ ap (firsts bytes_eq) (all_texts fs clean) ∙ ap (λ cs. firsts bytes_eq (flat_map texts_of cs)) (sym codes_are);
      sources = sources_list ∙ collected.numbering.numbered.sources ∙ ap (firsts same_source) (all_sources fs clean) ∙ ap (λ cs. firsts same_source (flat_map sources_of cs)) (sym codes_are);
      files = subst (λ l. indexed.AreFiles (length p.texts.items) l.items) (sym sources_same) (subst (λ m. indexed.AreFiles m n.sources.listed.items) text_count collected.numbering.numbered.within);
      functions = λ i g there.
          let f = zip_at (IsFunctionFor table (listed_texts n.texts) (listed_sources n)) fs p.functions.items collected.each i g there in
          let is = function_is f.0 (clean f.0 (i, f.1)) (listed_texts n.texts) (listed_sources n) g f.2 in
          subst (λ m. IsFunction (length p.texts.items) m g) source_count (subst (λ m. IsFunction m (length (listed_sources n)) g) text_count is);
    }
