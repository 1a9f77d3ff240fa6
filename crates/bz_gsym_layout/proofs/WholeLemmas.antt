-- The parts of a file that are written one after another are the layout of its plan.
use Rattle.std.proofs.Common.{◌≡◌, ℕ, suc, ◌+◌, ◌*◌, ◌≤◌, List, [], ◌∷◌, ◌++◌, drop, flat_map, length, map, take, refl, sym, ap, subst, ◌∙◌, arith, append_assoc, append-nil}
use Rattle.std.specs.Str.{bytes_eq}
use Rattle.std.proofs.lemmas.List.{drop_all, drop_at, length-append, length-map, take_all}
use Rattle.bz_gsym.specs.Tables.{data_place_len, file_count_len, file_entry_len, header_len}
use Rattle.bz_gsym_layout.specs.Format.{addr_off_size}
use Rattle.bz_gsym_layout.specs.Indexed.{AreFiles, AreFunctions, IsPlan, code_of, codes_of, source_of, sources_listed, tables_listed, texts_listed}
use Rattle.bz_gsym_layout.specs.Layout as layout
use Rattle.bz_gsym_layout.specs.Layout.{Tables, data_bytes, file_bytes, head_bytes, laid_out, string_bytes, strings_place, tables_of, word, zeros}
use Rattle.bz_gsym_layout.specs.Numbering.{same_source, sources_of, stored, texts_of}
use Rattle.bz_gsym_layout.specs.Pass.{AreCodesOf, source_bytes}
use Rattle.bz_gsym_layout.specs.Places.{text_places}
use Rattle.bz_gsym_layout.specs.Plan.{Code, Source}
use Rattle.bz_gsym_layout.specs.declared.plan.Function.{Function}
use Rattle.bz_gsym_layout.specs.declared.plan.Plan.{Plan}
use Rattle.bz_gsym_layout.specs.declared.plan.SourceFile.{SourceFile}
use Rattle.bz_gsym_layout.proofs.DistinctLemmas.{Differ, firsts_differ}
use Rattle.bz_gsym_layout.proofs.IndexedLemmas.{code_is, files_are, starts_are}
use Rattle.bz_gsym_layout.proofs.LayoutLemmas.{length_is, to_data}
use Rattle.bz_gsym_layout.proofs.PlaceLemmas.{length_text_places}

-- bytes in the place of as many
pub put_whole : (n : ℕ) (xs old : List ℕ) → length xs ≡ length old → length old ≤ n → take n (xs ++ drop (length xs) old) ≡ xs
put_whole n xs old same many = ap (λ l. take n (xs ++ l)) (drop_all (length xs) old (omega arith)) ∙ ap (take n) (append-nil xs) ∙ take_all n xs (omega arith)

module _ (plan : Plan) (is : IsPlan plan) where
  abbrev pub codes : List Code
  codes = codes_of plan

  -- the tables that the plan lists
  abbrev pub listed : Tables
  listed = tables_listed plan

  listed_are : listed ≡ tables_of codes
  listed_are =
      ap (λ (texts : List (List ℕ)). record { texts = texts; sources = sources_listed plan }) is.texts
      ∙ ap (λ (sources : List Source). record { texts = (tables_of codes).texts; sources = sources }) is.sources

  texts_differ : Differ bytes_eq listed.texts
  texts_differ = subst (Differ bytes_eq) (sym is.texts) (firsts_differ bytes_eq (flat_map texts_of codes))

  sources_differ : Differ same_source listed.sources
  sources_differ = subst (Differ same_source) (sym is.sources) (firsts_differ same_source (flat_map sources_of codes))

  abbrev pub view : Function → Code
  view = code_of (texts_listed plan) (sources_listed plan)

  abbrev pub places : List ℕ
  places = text_places 1 (texts_listed plan)

  texts_many : length (texts_listed plan) ≡ length plan.texts.items
  texts_many = length-map plan.texts.items (λ text. text.now)

  sources_many : length (sources_listed plan) ≡ length plan.sources.items
  sources_many = length-map plan.sources.items (source_of (texts_listed plan))

  -- each function has the numbers of what it says
  pub functions_are : AreCodesOf listed places view plan.functions.items
  functions_are i f there =
      let own = is.functions i f there in
      code_is listed texts_differ sources_differ f (record {
        name = omega (arith, own.name, texts_many);
        rows = λ k row at. omega (arith, own.rows k row at, sources_many);
        calls = λ k node at. let both = own.calls k node at in (omega (arith, both.0, texts_many), omega (arith, both.1, sources_many));
        ascend = own.ascend;
        order = own.order;
      })

  pub files_written : flat_map (source_bytes places) plan.sources.items ≡ flat_map (file_bytes listed) listed.sources
  files_written =
      files_are listed texts_differ sources_differ plan.sources.items (λ i s there.
      let both = is.files i s there in
      (omega (arith, both.0, texts_many), omega (arith, both.1, texts_many)))

  pub starts_written : flat_map (λ (f : Function). word addr_off_size f.start) plan.functions.items ≡ flat_map (λ (c : Code). word addr_off_size c.start) codes
  starts_written = starts_are view (λ f. refl) plan.functions.items

  -- the layout of the codes is that by the listed tables
  pub laid_out_is : laid_out codes listed ≡ layout.layout codes
  laid_out_is = ap (laid_out codes) listed_are

  abbrev pub strings_at : ℕ
  strings_at = strings_place codes listed

  abbrev pub data_at : ℕ
  data_at = strings_at + length (string_bytes listed)

  codes_many : length codes ≡ length plan.functions.items
  codes_many = length-map plan.functions.items view

  pub strings_at_is : (place : ℕ) →
      place ≡ header_len + addr_off_size * length plan.functions.items + data_place_len * length plan.functions.items + file_count_len + file_entry_len * suc (length plan.sources.items) →
      place ≡ strings_at
  strings_at_is place same = omega (arith, same, codes_many, sources_many)

  pub data_at_is : (place strings end : ℕ) → strings ≡ strings_at → end ≡ 1 + length (flat_map stored listed.texts) → place ≡ strings + end → place ≡ data_at
  data_at_is place strings end at text_end sum = omega (arith, at, text_end, sum)

  -- the whole has as many bytes as the last function's data ends at
  pub whole_many : (end : ℕ) → end ≡ data_at + length (data_bytes listed data_at codes) → length (layout.layout codes) ≡ end
  whole_many end same = ap length (sym laid_out_is) ∙ omega (arith, same, length_is codes listed)

  -- one part after another
  assoc : (a b c d e f g h : List ℕ) → ((((((a ++ b) ++ c) ++ d) ++ e) ++ f) ++ g) ++ h ≡ a ++ ((b ++ (c ++ (d ++ (e ++ f)))) ++ (g ++ h))
  assoc a b c d e f g h = simp append_assoc

  before : (a b c d e f g : List ℕ) → (((((a ++ b) ++ c) ++ d) ++ e) ++ f) ++ g ≡ (a ++ (b ++ (c ++ (d ++ (e ++ f))))) ++ g
  before a b c d e f g = simp append_assoc

  abbrev pub head : List ℕ
  head = head_bytes (length codes) strings_at (length (string_bytes listed))

  abbrev pub places_written : List ℕ
  places_written = flat_map (word data_place_len) (layout.data_places listed data_at codes)

  abbrev pub front : List ℕ
  front =
      (((((head ++ flat_map (λ (c : Code). word addr_off_size c.start) codes) ++ places_written) ++ word file_count_len (suc (length listed.sources))) ++ zeros file_entry_len)
      ++ flat_map (file_bytes listed) listed.sources) ++ string_bytes listed

  front_many : length front ≡ data_at
  front_many =
      ap length (before head (flat_map (λ (c : Code). word addr_off_size c.start) codes) places_written (word file_count_len (suc (length listed.sources))) (zeros file_entry_len) (flat_map (file_bytes listed) listed.sources) (string_bytes listed))
      ∙ to_data codes listed

  pub whole_is : (out : List ℕ) → out ≡ front ++ data_bytes listed (length front) codes → out ≡ layout.layout codes
  whole_is out wrote =
      wrote ∙ ap (λ n. front ++ data_bytes listed n codes) front_many
      ∙ assoc head (flat_map (λ (c : Code). word addr_off_size c.start) codes) places_written (word file_count_len (suc (length listed.sources))) (zeros file_entry_len)
      (flat_map (file_bytes listed) listed.sources) (string_bytes listed) (data_bytes listed data_at codes)
      ∙ laid_out_is

  steps : (a b c d e f g o1 o2 o3 o4 o5 o6 o7 o8 : List ℕ) → o1 ≡ a → o2 ≡ o1 ++ b → o3 ≡ o2 ++ c → o4 ≡ o3 ++ d → o5 ≡ o4 ++ e → o6 ≡ o5 ++ f →
      o7 ≡ o6 ++ 0 ∷ [] → o8 ≡ o7 ++ g → o8 ≡ (((((a ++ b) ++ c) ++ d) ++ e) ++ f) ++ 0 ∷ g
  steps a b c d e f g o1 o2 o3 o4 o5 o6 o7 o8 e1 e2 e3 e4 e5 e6 e7 e8 =
      let s2 : o2 ≡ a ++ b = e2 ∙ ap (λ l. l ++ b) e1 in
      let s3 : o3 ≡ (a ++ b) ++ c = e3 ∙ ap (λ l. l ++ c) s2 in
      let s4 : o4 ≡ ((a ++ b) ++ c) ++ d = e4 ∙ ap (λ l. l ++ d) s3 in
      let s5 : o5 ≡ (((a ++ b) ++ c) ++ d) ++ e = e5 ∙ ap (λ l. l ++ e) s4 in
      let s6 : o6 ≡ ((((a ++ b) ++ c) ++ d) ++ e) ++ f = e6 ∙ ap (λ l. l ++ f) s5 in
      e8 ∙ ap (λ l. l ++ g) (e7 ∙ ap (λ l. l ++ 0 ∷ []) s6) ∙ append_assoc (((((a ++ b) ++ c) ++ d) ++ e) ++ f) (0 ∷ []) g

  -- what is written before the functions' data
  pub front_is : (count at len sources : ℕ) (found o1 o2 o3 o4 o5 o6 o7 o8 : List ℕ) → count ≡ length plan.functions.items → at ≡ strings_at →
      len ≡ 1 + length (flat_map stored listed.texts) → sources ≡ length plan.sources.items + 1 → found ≡ layout.data_places listed data_at codes →
      o1 ≡ head_bytes count at len → o2 ≡ o1 ++ flat_map (λ (f : Function). word addr_off_size f.start) plan.functions.items → o3 ≡ o2 ++ flat_map (word data_place_len) found →
      o4 ≡ o3 ++ word file_count_len sources → o5 ≡ o4 ++ zeros file_entry_len → o6 ≡ o5 ++ flat_map (source_bytes places) plan.sources.items → o7 ≡ o6 ++ 0 ∷ [] →
      o8 ≡ o7 ++ flat_map stored listed.texts → o8 ≡ front
  front_is count at len sources found o1 o2 o3 o4 o5 o6 o7 o8 count_is at_is len_is sources_is found_is e1 e2 e3 e4 e5 e6 e7 e8 =
      let n : count ≡ length codes = count_is ∙ sym codes_many in
      let l : len ≡ length (string_bytes listed) = omega (arith, len_is) in
      let s : sources ≡ suc (length listed.sources) = omega (arith, sources_is, sources_many) in
      let h : o1 ≡ head = e1 ∙ ap (λ k. head_bytes k at len) n ∙ ap (λ k. head_bytes (length codes) k len) at_is ∙ ap (λ k. head_bytes (length codes) strings_at k) l in
      steps head (flat_map (λ (c : Code). word addr_off_size c.start) codes) places_written (word file_count_len (suc (length listed.sources))) (zeros file_entry_len)
      (flat_map (file_bytes listed) listed.sources) (flat_map stored listed.texts) o1 o2 o3 o4 o5 o6 o7 o8 h
      (e2 ∙ ap (λ k. o1 ++ k) starts_written) (e3 ∙ ap (λ k. o2 ++ flat_map (word data_place_len) k) found_is) (e4 ∙ ap (λ k. o3 ++ word file_count_len k) s) e5
      (e6 ∙ ap (λ k. o5 ++ k) files_written) e7 e8

  pub front_len : (front_part : List ℕ) → front_part ≡ front → length front_part ≡ data_at
  front_len front_part same = ap length same ∙ front_many

  -- with the data behind it, it is the whole
  pub all_is : (front_part : List ℕ) → front_part ≡ front → front_part ++ data_bytes listed (length front_part) codes ≡ layout.layout codes
  all_is front_part same = whole_is _ (ap (λ l. l ++ data_bytes listed (length l) codes) same)

  -- the data behind bytes, in whose place what stands before the data comes
  pub filled_is : (blank front_part out new : List ℕ) → length blank ≡ data_at → length front_part ≡ length blank → out ≡ blank ++ data_bytes listed (length blank) codes →
      front_part ++ data_bytes listed (length front_part) codes ≡ layout.layout codes → new ≡ front_part ++ drop (length front_part) out → new ≡ layout.layout codes
  filled_is blank front_part out new many same wrote whole filled =
      filled ∙ ap (λ l. front_part ++ drop (length front_part) l) wrote ∙ ap (λ n. front_part ++ drop n (blank ++ data_bytes listed (length blank) codes)) same
      ∙ ap (λ l. front_part ++ l) (drop_at blank (data_bytes listed (length blank) codes) (length blank) refl) ∙ ap (λ n. front_part ++ data_bytes listed n codes) (sym same) ∙ whole

  -- what is found of the plan's functions, and written of them
  module _ (functions : List Function) (found : List ℕ) (same_functions : functions ≡ plan.functions.items) (same_places : found ≡ places) where
    many_places : length plan.texts.items ≡ length found
    many_places = sym (ap length same_places ∙ length_text_places 1 (texts_listed plan) ∙ texts_many)

    pub within : AreFunctions (length found) (length plan.sources.items) functions
    within =
        subst (AreFunctions (length found) (length plan.sources.items)) (sym same_functions)
        (subst (λ n. AreFunctions n (length plan.sources.items) plan.functions.items) many_places is.functions)

    pub files_within : (files : List SourceFile) → files ≡ plan.sources.items → AreFiles (length found) files
    files_within files same = subst (AreFiles (length found)) (sym same) (subst (λ n. AreFiles n plan.sources.items) many_places is.files)

    are : AreCodesOf listed found view functions
    are = subst (λ l. AreCodesOf listed l view functions) (sym same_places) (subst (AreCodesOf listed places view) (sym same_functions) functions_are)

    pub data_is : (old new : List ℕ) →
        ((t : Tables) (view : Function → Code) → AreCodesOf t found view functions → new ≡ old ++ data_bytes t (length old) (map view functions)) →
        new ≡ old ++ data_bytes listed (length old) codes
    data_is old new wrote = wrote listed view are ∙ ap (λ l. old ++ data_bytes listed (length old) (map view l)) same_functions

    pub end_is : (old new : List ℕ) → length old ≡ data_at →
        ((t : Tables) (view : Function → Code) → AreCodesOf t found view functions → new ≡ old ++ data_bytes t (length old) (map view functions)) →
        length (layout.layout codes) ≡ length new
    end_is old new at_is wrote =
        let wrote_is : new ≡ old ++ data_bytes listed (length old) codes = data_is old new wrote in
        whole_many (length new)
        (ap length wrote_is ∙ length-append old (data_bytes listed (length old) codes) ∙ ap (λ n. n + length (data_bytes listed n codes)) at_is)

    pub places_are : (at : ℕ) (starts : List ℕ) → at ≡ data_at →
        ((t : Tables) (view : Function → Code) → AreCodesOf t found view functions → starts ≡ layout.data_places t at (map view functions)) →
        starts ≡ layout.data_places listed data_at codes
    places_are at starts at_is places_is =
        places_is listed view are ∙ ap (λ n. layout.data_places listed n (map view functions)) at_is ∙ ap (λ l. layout.data_places listed data_at (map view l)) same_functions
