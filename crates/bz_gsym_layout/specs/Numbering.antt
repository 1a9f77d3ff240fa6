-- The texts and source files of a plan, each numbered where it is first used.
use Rattle.std.specs.Prelude.{ℕ, suc, ◌+◌, Bool, ◌&&◌, not, List, [], ◌∷◌, ◌++◌, length, flat_map, if◌then◌else◌}
use Rattle.std.specs.List.{filter}
use Rattle.std.specs.Str.{bytes_eq}
use Rattle.bz_base.specs.Byte.{zero_byte}
use Rattle.bz_gsym_layout.specs.Nesting.{Forest}
use Rattle.bz_gsym_layout.specs.Nesting.Forest.{NoCalls, Call}
use Rattle.bz_gsym_layout.specs.Plan.{Called, Code, Line, Source}

-- the calls of a tree, each before those inside it, and these before those after it
abbrev pub calls_of : {X : Type 0} → Forest X → List X
calls_of NoCalls = []
calls_of (Call x within after) = x ∷ (calls_of within ++ calls_of after)

abbrev pub source_texts : Source → List (List ℕ)
source_texts s = s.dir ∷ s.file ∷ []

abbrev pub row_texts : ℕ × Line → List (List ℕ)
row_texts row = source_texts row.1.source

abbrev pub call_texts : Called → List (List ℕ)
call_texts c = c.name ∷ source_texts c.at.source

-- the texts of a function, in the order of their use
abbrev pub texts_of : Code → List (List ℕ)
texts_of c = c.name ∷ (flat_map row_texts c.rows ++ flat_map call_texts (calls_of c.calls))

abbrev pub row_sources : ℕ × Line → List Source
row_sources row = row.1.source ∷ []

abbrev pub call_sources : Called → List Source
call_sources c = c.at.source ∷ []

abbrev pub sources_of : Code → List Source
sources_of c = flat_map row_sources c.rows ++ flat_map call_sources (calls_of c.calls)

abbrev pub same_source : Source → Source → Bool
same_source a b = bytes_eq a.dir b.dir && bytes_eq a.file b.file

module _ {X : Type 0} (same : X → X → Bool) where
  -- each where it first stands
  abbrev pub firsts : List X → List X
  firsts [] = []
  firsts (x ∷ xs) = x ∷ filter (λ y. not (same x y)) (firsts xs)

  -- how many stand before the first that is the same
  abbrev pub index_of : X → List X → ℕ
  index_of x [] = 0
  index_of x (y ∷ ys) = if same y x then 0 else suc (index_of x ys)

abbrev pub texts_in : List Code → List (List ℕ)
texts_in codes = firsts bytes_eq (flat_map texts_of codes)

abbrev pub sources_in : List Code → List Source
sources_in codes = firsts same_source (flat_map sources_of codes)

-- a text in the string table, with its end
abbrev pub stored : List ℕ → List ℕ
stored text = text ++ zero_byte ∷ []

-- where a text stands among texts that lie one behind another from a place on
abbrev pub place_from : ℕ → List ℕ → List (List ℕ) → ℕ
place_from at text [] = at
place_from at text (t ∷ texts) = if bytes_eq t text then at else place_from (at + length (stored t)) text texts
