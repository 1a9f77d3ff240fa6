-- What rows, nodes and functions of a plan say stays where more is listed.
use Rattle.std.proofs.Common.{◌≡◌, ℕ, List, [], ◌∷◌, ◌++◌, flat_map, Some, ap, subst, ◌∙◌, append_assoc}
use Rattle.std.specs.List.{AllZip, slice_get}
use Rattle.bz_breakpad_lines.specs.Table.{Function, Inlinee, SourceLine, Table}
use Rattle.bz_convert.specs.Laid.{IsFunctionFor, IsNodeFor, IsRowFor, sources_of_call, sources_of_row, sources_used, texts_of_call, texts_of_row, texts_used}
use Rattle.bz_convert.specs.Numbered.{IsNumbering, listed_sources}
use Rattle.bz_gsym_layout.specs.Listing.{listed_texts}
use Rattle.bz_convert.specs.Plan.{called, changes, laid_calls, line_of}
use Rattle.bz_convert.specs.declared.conversion.numbering.Numbering.{Numbering}
use Rattle.bz_gsym_layout.proofs.ListedLemmas.{Grows, grown_at, grows_on}
use Rattle.bz_convert.proofs.NumberingLemmas.{listed_grow, sources_grow}
use Rattle.bz_convert.proofs.SoFarLemmas.{Stays, zip_each}
use Rattle.bz_gsym_layout.specs.Plan.{Source}
use Rattle.bz_gsym_layout.specs.declared.plan.Function.{Function as Planned}

module _ (table : Table) where
  pub rows_stay : Stays table (texts_of_row table) (sources_of_row table) (λ n. IsRowFor table (listed_sources n))
  rows_stay old new texts sources row r says = record {
    addr = says.addr;
    source = grown_at (listed_sources old) (listed_sources new) sources r.source (line_of table row.1).source says.source;
    line = says.line;
  }

  pub nodes_stay : Stays table (texts_of_call table) (sources_of_call table) (λ n. IsNodeFor table (listed_texts n.texts) (listed_sources n))
  nodes_stay old new texts sources i node says = record {
    depth = says.depth;
    start = says.start;
    size = says.size;
    name = grown_at (listed_texts old.texts) (listed_texts new.texts) texts node.name (called table i).name says.name;
    source = grown_at (listed_sources old) (listed_sources new) sources node.source (called table i).at.source says.source;
    line = says.line;
  }

  pub functions_stay : Stays table (texts_used table) (sources_used table) (λ n. IsFunctionFor table (listed_texts n.texts) (listed_sources n))
  functions_stay old new texts sources f g says = record {
    start = says.start;
    size = says.size;
    name = grown_at (listed_texts old.texts) (listed_texts new.texts) texts g.name f.name says.name;
    rows = zip_each (IsRowFor table (listed_sources old)) (IsRowFor table (listed_sources new)) (rows_stay old new texts sources) (changes f) g.rows.items says.rows;
    calls = zip_each (IsNodeFor table (listed_texts old.texts) (listed_sources old)) (IsNodeFor table (listed_texts new.texts) (listed_sources new)) (nodes_stay old new texts sources) (laid_calls f) g.calls.items says.calls;
  }

  -- A function: its name, its rows, and its calls.
  module _ (texts : List (List ℕ)) (sources : List Source) (f : Function) (name : List ℕ) (named : name ≡ f.name) (first second third : Numbering)
      (rows : List (ℕ × SourceLine)) (rows_are : rows ≡ changes f) (calls : List Inlinee) (calls_are : calls ≡ laid_calls f)
      (one : IsNumbering table (texts ++ name ∷ []) sources first)
      (two : IsNumbering table ((texts ++ name ∷ []) ++ flat_map (texts_of_row table) rows) (sources ++ flat_map (sources_of_row table) rows) second)
      (three : IsNumbering table (((texts ++ name ∷ []) ++ flat_map (texts_of_row table) rows) ++ flat_map (texts_of_call table) calls) ((sources ++ flat_map (sources_of_row table) rows) ++ flat_map (sources_of_call table) calls) third) where
    abbrev row_texts : List (List ℕ)
    row_texts = flat_map (texts_of_row table) rows

    abbrev call_texts : List (List ℕ)
    call_texts = flat_map (texts_of_call table) calls

    abbrev row_sources : List Source
    row_sources = flat_map (sources_of_row table) rows

    abbrev call_sources : List Source
    call_sources = flat_map (sources_of_call table) calls

    all_texts : ((texts ++ name ∷ []) ++ row_texts) ++ call_texts ≡ texts ++ texts_used table f
    all_texts =
        append_assoc (texts ++ name ∷ []) row_texts call_texts ∙ append_assoc texts (name ∷ []) (row_texts ++ call_texts)
        ∙ ap (λ (x : List ℕ). texts ++ x ∷ (row_texts ++ call_texts)) named
        ∙ ap (λ rs. texts ++ f.name ∷ (flat_map (texts_of_row table) rs ++ call_texts)) rows_are
        ∙ ap (λ cs. texts ++ f.name ∷ (flat_map (texts_of_row table) (changes f) ++ flat_map (texts_of_call table) cs)) calls_are

    all_sources : (sources ++ row_sources) ++ call_sources ≡ sources ++ sources_used table f
    all_sources =
        append_assoc sources row_sources call_sources
        ∙ ap (λ rs. sources ++ (flat_map (sources_of_row table) rs ++ call_sources)) rows_are
        ∙ ap (λ cs. sources ++ (flat_map (sources_of_row table) (changes f) ++ flat_map (sources_of_call table) cs)) calls_are

    pub function_numbered : IsNumbering table (texts ++ texts_used table f) (sources ++ sources_used table f) third
    function_numbered = subst (λ l. IsNumbering table l (sources ++ sources_used table f) third) all_texts (subst (λ l. IsNumbering table (((texts ++ name ∷ []) ++ row_texts) ++ call_texts) l third) all_sources three)

    second_on : Grows (listed_texts second.texts) (listed_texts third.texts) × Grows (listed_sources second) (listed_sources third)
    second_on = (
      listed_grow ((texts ++ name ∷ []) ++ row_texts) (sources ++ row_sources) second two.numbered call_texts call_sources third three.numbered,
      sources_grow ((texts ++ name ∷ []) ++ row_texts) (sources ++ row_sources) second two.numbered call_texts call_sources third three.numbered,
    )

    first_on : Grows (listed_texts first.texts) (listed_texts third.texts)
    first_on = grows_on (listed_texts first.texts) (listed_texts second.texts) (listed_texts third.texts) (listed_grow (texts ++ name ∷ []) sources first one.numbered row_texts row_sources second two.numbered) second_on.0

    pub function_says : (g : Planned) → g.start ≡ f.start → g.size ≡ f.size → slice_get (listed_texts first.texts) g.name ≡ Some name → AllZip (IsRowFor table (listed_sources second)) rows g.rows.items →
        AllZip (IsNodeFor table (listed_texts third.texts) (listed_sources third)) calls g.calls.items → IsFunctionFor table (listed_texts third.texts) (listed_sources third) f g
    function_says g start size at rows_say calls_say = record {
      start = start;
      size = size;
      name = grown_at (listed_texts first.texts) (listed_texts third.texts) first_on g.name name at ∙ ap Some named;
      rows = zip_each (IsRowFor table (listed_sources second)) (IsRowFor table (listed_sources third)) (rows_stay second third second_on.0 second_on.1) (changes f) g.rows.items
          (subst (λ rs. AllZip (IsRowFor table (listed_sources second)) rs g.rows.items) rows_are rows_say);
      calls = subst (λ cs. AllZip (IsNodeFor table (listed_texts third.texts) (listed_sources third)) cs g.calls.items) calls_are calls_say;
    }
