-- What the rows, inlined calls and functions of a plan say, by the texts and source files that are
-- listed.
use Rattle.std.specs.Prelude.{◌≡◌, ℕ, false, List, ◌∷◌, ◌++◌, flat_map, Some, slice_get}
use Rattle.std.specs.List.{AllZip}
use Rattle.bz_breakpad_lines.specs.Table.{Function, Inlinee, SourceLine, Table}
use Rattle.bz_convert.specs.Fault.{overlaps}
use Rattle.bz_gsym_layout.specs.Members.{In}
use Rattle.bz_convert.specs.Plan.{called, changes, laid_calls, line_of, row_in}
use Rattle.bz_gsym_layout.specs.Numbering.{call_sources, call_texts, row_sources, row_texts}
use Rattle.bz_gsym_layout.specs.Plan.{Source}
use Rattle.bz_gsym_layout.specs.declared.plan.Function.{Function as Planned}
use Rattle.bz_gsym_layout.specs.declared.plan.Node.{Node}
use Rattle.bz_gsym_layout.specs.declared.plan.Row.{Row}

-- no inlined call of a function overlaps another
abbrev pub AreApart : Function → Type 0
AreApart f = (i : Inlinee) → In f.inlinees i → overlaps f i ≡ false

module _ (table : Table) where
  -- the texts of rows, of inlined calls and of a function, in the order of their use
  abbrev pub texts_of_row : ℕ × SourceLine → List (List ℕ)
  texts_of_row row = row_texts (row_in table row)

  abbrev pub texts_of_call : Inlinee → List (List ℕ)
  texts_of_call i = call_texts (called table i)

  abbrev pub texts_used : Function → List (List ℕ)
  texts_used f = f.name ∷ (flat_map texts_of_row (changes f) ++ flat_map texts_of_call (laid_calls f))

  -- and their source files
  abbrev pub sources_of_row : ℕ × SourceLine → List Source
  sources_of_row row = row_sources (row_in table row)

  abbrev pub sources_of_call : Inlinee → List Source
  sources_of_call i = call_sources (called table i)

  abbrev pub sources_used : Function → List Source
  sources_used f = flat_map sources_of_row (changes f) ++ flat_map sources_of_call (laid_calls f)

  -- a row of a plan says what a row of the file says
  pub record IsRowFor (sources : List Source) (row : ℕ × SourceLine) (r : Row) : Type 0 where
    pub addr : r.addr ≡ row.0
    pub source : slice_get sources r.source ≡ Some (line_of table row.1).source
    pub line : r.line ≡ row.1.line

  module _ (texts : List (List ℕ)) (sources : List Source) where
    -- a node says what an inlined call says
    pub record IsNodeFor (i : Inlinee) (node : Node) : Type 0 where
      pub depth : node.depth ≡ i.depth
      pub start : node.start ≡ i.start
      pub size : node.size ≡ i.size
      pub name : slice_get texts node.name ≡ Some (called table i).name
      pub source : slice_get sources node.source ≡ Some (called table i).at.source
      pub line : node.line ≡ i.call_line

    -- a function of a plan says what a function of the file says
    pub record IsFunctionFor (f : Function) (g : Planned) : Type 0 where
      pub start : g.start ≡ f.start
      pub size : g.size ≡ f.size
      pub name : slice_get texts g.name ≡ Some f.name
      pub rows : AllZip (IsRowFor sources) (changes f) g.rows.items
      pub calls : AllZip IsNodeFor (laid_calls f) g.calls.items
