-- What a plan says, whose functions refer to texts and source files by their indexes, and which plans
-- are well formed.
use Rattle.std.specs.Prelude.{◌≡◌, ℕ, ◌<◌, List, [], length, map, Some, slice_get, slice_index_or}
use Rattle.bz_gsym_layout.specs.InOrder.{AreInOrder, NeverBefore, depth_of}
use Rattle.bz_gsym_layout.specs.Layout.{Tables}
use Rattle.bz_gsym_layout.specs.Nesting.{map_forest, nested}
use Rattle.bz_gsym_layout.specs.Numbering.{sources_in, texts_in}
use Rattle.bz_gsym_layout.specs.Pass.{AreWithin}
use Rattle.bz_gsym_layout.specs.Plan.{Called, Code, Line, Source, no_source}
use Rattle.bz_gsym_layout.specs.RowPass.{AreSourced}
use Rattle.bz_gsym_layout.specs.declared.plan.Function.{Function}
use Rattle.bz_gsym_layout.specs.declared.plan.Node.{Node}
use Rattle.bz_gsym_layout.specs.declared.plan.Plan.{Plan}
use Rattle.bz_gsym_layout.specs.declared.plan.Row.{Row}
use Rattle.bz_gsym_layout.specs.declared.plan.SourceFile.{SourceFile}

-- the text of an index
abbrev pub text_at : List (List ℕ) → ℕ → List ℕ
text_at texts i = slice_index_or texts i []

abbrev pub source_of : List (List ℕ) → SourceFile → Source
source_of texts s = record { dir = text_at texts s.dir; file = text_at texts s.name }

module _ (texts : List (List ℕ)) (sources : List Source) where
  -- a line of the source file of an index
  abbrev pub line_by : ℕ → ℕ → Line
  line_by source line = record { source = slice_index_or sources source no_source; line = line }

  abbrev pub row_of : Row → ℕ × Line
  row_of row = (row.addr, line_by row.source row.line)

  abbrev pub call_of : Node → Called
  call_of node = record { start = node.start; size = node.size; name = text_at texts node.name; at = line_by node.source node.line }

  abbrev pub code_of : Function → Code
  code_of f = record {
    start = f.start;
    size = f.size;
    name = text_at texts f.name;
    rows = map row_of f.rows.items;
    calls = map_forest call_of (nested depth_of 0 f.calls.items);
  }

-- the texts and source files that a plan lists
abbrev pub texts_listed : Plan → List (List ℕ)
texts_listed plan = map (λ text. text.now) plan.texts.items

abbrev pub sources_listed : Plan → List Source
sources_listed plan = map (source_of (texts_listed plan)) plan.sources.items

-- and the tables of them
abbrev pub tables_listed : Plan → Tables
tables_listed plan = record { texts = texts_listed plan; sources = sources_listed plan }

-- the functions of a plan, in texts
abbrev pub codes_of : Plan → List Code
codes_of plan = map (code_of (texts_listed plan) (sources_listed plan)) plan.functions.items

-- the indexes of a function are below so many texts and source files. Its rows ascend from its start
-- on, and its calls stand behind those around them
pub record IsFunction (texts sources : ℕ) (f : Function) : Type 0 where
  pub name : f.name < texts
  pub rows : AreSourced sources f.rows.items
  pub calls : AreWithin texts sources f.calls.items
  pub ascend : NeverBefore f.start f.rows.items
  pub order : AreInOrder f.start f.calls.items

-- each function is such a one
abbrev pub AreFunctions : ℕ → ℕ → List Function → Type 0
AreFunctions texts sources functions = (i : ℕ) (f : Function) → slice_get functions i ≡ Some f → IsFunction texts sources f

-- the indexes of each source file are below so many texts
abbrev pub AreFiles : ℕ → List SourceFile → Type 0
AreFiles texts sources = (i : ℕ) (s : SourceFile) → slice_get sources i ≡ Some s → (s.dir < texts) × (s.name < texts)

-- a well-formed plan: it lists the texts and source files that are used, each once, in the order of
-- their first use
pub record IsPlan (plan : Plan) : Type 0 where
  pub texts : texts_listed plan ≡ texts_in (codes_of plan)
  pub sources : sources_listed plan ≡ sources_in (codes_of plan)
  pub files : AreFiles (length plan.texts.items) plan.sources.items
  pub functions : AreFunctions (length plan.texts.items) (length plan.sources.items) plan.functions.items
