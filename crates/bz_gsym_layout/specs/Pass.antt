-- What one pass over the calls has still to write, where some lists are open.
use Rattle.std.specs.Prelude.{◌≡◌, ◌≤◌, ◌<◌, ◌+◌, ℕ, List, [], ◌∷◌, ◌++◌, length, Some, slice_get, slice_index_or, Bool, true, false}
use Rattle.bz_gsym_layout.specs.Layout.{Tables, calls_bytes, source_index, text_place, word}
use Rattle.bz_gsym_layout.specs.Nesting.{Forest, map_forest, nested}
use Rattle.bz_gsym_layout.specs.InOrder.{depth_of}
use Rattle.bz_gsym_layout.specs.Plan.{Called, Code}
use Rattle.bz_gsym_layout.specs.RowPass.{AreRowsOf}
use Rattle.bz_gsym_layout.specs.declared.plan.Function.{Function}
use Rattle.bz_gsym_layout.specs.declared.plan.Node.{Node}
use Rattle.bz_gsym_layout.specs.declared.plan.SourceFile.{SourceFile}

module _ {X : Type 0} (t : Tables) (view : X → Called) (depth : X → ℕ) where
  abbrev pub list_bytes : ℕ → Forest X → List ℕ
  list_bytes base calls = calls_bytes t base (map_forest view calls)

  -- what is still to be written of the open lists, the innermost first; each list's offsets count from
  -- its base
  unfoldable pub left_bytes : List ℕ → List X → List ℕ
  left_bytes [] xs = []
  left_bytes (base ∷ bases) xs = list_bytes base (nested depth (length bases) xs) ++ left_bytes bases xs

-- the place of a text of an index
abbrev pub place_at : List ℕ → ℕ → ℕ
place_at places i = slice_index_or places i 0

-- the node has the numbers of the call, where texts have these places
pub record IsNode (t : Tables) (places : List ℕ) (call : Called) (node : Node) : Type 0 where
  pub start : call.start ≡ node.start
  pub size : call.size ≡ node.size
  pub name : text_place t call.name ≡ place_at places node.name
  pub file : source_index t call.at.source ≡ node.source + 1
  pub line : call.at.line ≡ node.line

-- each node has the numbers of its call
abbrev pub AreNodesOf : (t : Tables) (places : List ℕ) (view : Node → Called) → List Node → Type 0
AreNodesOf t places view nodes = (i : ℕ) (x : Node) → slice_get nodes i ≡ Some x → IsNode t places (view x) x

-- the names of nodes are among so many texts, and their source files have indexes below a limit
abbrev pub AreWithin : ℕ → ℕ → List Node → Type 0
AreWithin texts limit nodes = (i : ℕ) (node : Node) → slice_get nodes i ≡ Some node → (node.name < texts) × (node.source < limit)

-- no number passes the limit
abbrev pub AreAtMost : ℕ → List ℕ → Type 0
AreAtMost limit numbers = (k n : ℕ) → slice_get numbers k ≡ Some n → n ≤ limit

-- whether the next node lies inside the one at an index
abbrev pub GoesInside : Bool → List Node → ℕ → Node → Type 0
GoesInside true nodes index x = (y : Node) × (slice_get nodes (index + 1) ≡ Some y) × (y.depth ≡ x.depth + 1)
GoesInside false nodes index x = (y : Node) → slice_get nodes (index + 1) ≡ Some y → y.depth ≤ x.depth

-- the function has the numbers of the code
pub record IsCodeOf (t : Tables) (places : List ℕ) (c : Code) (f : Function) : Type 0 where
  pub start : c.start ≡ f.start
  pub size : c.size ≡ f.size
  pub name : text_place t c.name ≡ place_at places f.name
  pub rows : AreRowsOf t c.rows f.rows.items
  pub view : Node → Called
  pub calls : c.calls ≡ map_forest view (nested depth_of 0 f.calls.items)
  pub nodes : AreNodesOf t places view f.calls.items

-- each function has the numbers of its code
abbrev pub AreCodesOf : (t : Tables) (places : List ℕ) (view : Function → Code) → List Function → Type 0
AreCodesOf t places view functions = (i : ℕ) (f : Function) → slice_get functions i ≡ Some f → IsCodeOf t places (view f) f

-- a source file, where texts have these places
abbrev pub source_bytes : List ℕ → SourceFile → List ℕ
source_bytes places s = word 4 (place_at places s.dir) ++ word 4 (place_at places s.name)
