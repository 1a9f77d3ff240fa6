-- The functions of a well-formed plan have the numbers of what they say.
use Rattle.std.proofs.Common.{◌≡◌, ℕ, suc, ◌+◌, ◌<◌, List, [], ◌∷◌, ◌++◌, flat_map, length, map, refl, sym, ap, ◌∙◌, arith}
use Rattle.std.specs.Prelude.{slice_index_or}
use Rattle.std.specs.Str.{bytes_eq}
use Rattle.std.proofs.lemmas.Option.{slice_get-get_or}
use Rattle.bz_gsym_layout.specs.Indexed.{AreFiles, IsFunction, call_of, code_of, row_of, source_of, text_at}
use Rattle.bz_gsym_layout.specs.Layout.{Tables, file_bytes, source_index, text_place, word}
use Rattle.bz_gsym_layout.specs.Numbering.{same_source}
use Rattle.bz_gsym_layout.specs.Pass.{IsCodeOf, place_at, source_bytes}
use Rattle.bz_gsym_layout.specs.Places.{text_places}
use Rattle.bz_gsym_layout.specs.Plan.{Code, no_source}
use Rattle.bz_gsym_layout.specs.RowPass.{AreRowsOf, AreSourced}
use Rattle.bz_gsym_layout.specs.declared.plan.Function.{Function}
use Rattle.bz_gsym_layout.specs.declared.plan.Row.{Row}
use Rattle.bz_gsym_layout.specs.declared.plan.SourceFile.{SourceFile}
use Rattle.bz_gsym_layout.proofs.DistinctLemmas.{Differ, index_there, place_there}
use Rattle.bz_gsym_layout.proofs.NumberingLemmas.{source_is_same}

module _ (t : Tables) (texts_differ : Differ bytes_eq t.texts) (sources_differ : Differ same_source t.sources) where
  abbrev places : List ℕ
  places = text_places 1 t.texts

  named : (i : ℕ) → i < length t.texts → text_place t (text_at t.texts i) ≡ place_at places i
  named i within = place_there t.texts 1 texts_differ i (text_at t.texts i) (slice_get-get_or t.texts i [] within)

  sourced : (i : ℕ) → i < length t.sources → source_index t (slice_index_or t.sources i no_source) ≡ i + 1
  sourced i within =
      let e : suc i ≡ i + 1 = omega arith in
      ap suc (index_there same_source source_is_same t.sources sources_differ i (slice_index_or t.sources i no_source) (slice_get-get_or t.sources i no_source within)) ∙ e

  rows_are : (rows : List Row) → AreSourced (length t.sources) rows → AreRowsOf t (map (row_of t.texts t.sources) rows) rows
  rows_are [] within = tt
  rows_are (row ∷ rows) within = (
    record { addr = refl; file = sourced row.source (within 0 row refl); line_is = refl },
    rows_are rows (λ i r there. within (suc i) r there),
  )

  -- a function
  pub code_is : (f : Function) → IsFunction (length t.texts) (length t.sources) f → IsCodeOf t places (code_of t.texts t.sources f) f
  code_is f is = record {
    start = refl;
    size = refl;
    name = named f.name is.name;
    rows = rows_are f.rows.items is.rows;
    view = call_of t.texts t.sources;
    calls = refl;
    nodes = λ i x there.
        let within = is.calls i x there in
        record { start = refl; size = refl; name = named x.name within.0; file = sourced x.source within.1; line = refl };
  }

  -- the source files
  pub files_are : (files : List SourceFile) → AreFiles (length t.texts) files → flat_map (source_bytes places) files ≡ flat_map (file_bytes t) (map (source_of t.texts) files)
  files_are [] within = refl
  files_are (s ∷ files) within =
      let own = within 0 s refl in
      ap (λ n. (word 4 n ++ word 4 (place_at places s.name)) ++ flat_map (source_bytes places) files) (sym (named s.dir own.0))
      ∙ ap (λ n. (word 4 (text_place t (text_at t.texts s.dir)) ++ word 4 n) ++ flat_map (source_bytes places) files) (sym (named s.name own.1))
      ∙ ap (λ l. file_bytes t (source_of t.texts s) ++ l) (files_are files (λ i r there. within (suc i) r there))

-- starts of what functions are seen as
pub starts_are : (view : Function → Code) → ((f : Function) → (view f).start ≡ f.start) → (functions : List Function) →
    flat_map (λ (f : Function). word 8 f.start) functions ≡ flat_map (λ (c : Code). word 8 c.start) (map view functions)
starts_are view same [] = refl
starts_are view same (f ∷ functions) =
    ap (λ n. word 8 n ++ flat_map (λ (f : Function). word 8 f.start) functions) (sym (same f)) ∙ ap (λ l. word 8 (view f).start ++ l) (starts_are view same functions)
