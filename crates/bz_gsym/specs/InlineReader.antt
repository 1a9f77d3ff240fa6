-- The inline tree of a data entry's bytes, read from their front (llvm::gsym::InlineInfo), and the
-- frames that it gives.
use Rattle.std.specs.Prelude.{ℕ, zero, suc, Bool, true, false, not, ◌==◌, List, [], ◌∷◌, length, Option, Some, None, option_map, if◌then◌else◌}
use Rattle.bz_base.specs.Bind.{◌>>=◌}
use Rattle.bz_base.specs.Cursor.{byte_at, word_at}
use Rattle.bz_base.specs.Leb128.{uleb_at}
use Rattle.bz_gsym.specs.InlineTree.{Head, Nodes, Frame, frames, no_children, no_ranges}
use Rattle.bz_gsym.specs.InlineTree.Nodes.{Ended, Node}

-- a range: offset and size
unfoldable pub range_at : List ℕ → Option ((ℕ × ℕ) × List ℕ)
range_at bytes = do
  offset ← uleb_at bytes
  size ← uleb_at offset.1
  Some ((offset.0, size.0), size.1)

-- one range before others
abbrev pub before : ℕ × ℕ → List (ℕ × ℕ) × List ℕ → List (ℕ × ℕ) × List ℕ
before range more = (range ∷ more.0, more.1)

-- so many ranges
abbrev pub ranges_at : ℕ → List ℕ → Option (List (ℕ × ℕ) × List ℕ)
ranges_at zero bytes = Some ([], bytes)
ranges_at (suc count) bytes = range_at bytes >>= (λ range. option_map (before range.0) (ranges_at count range.1))

-- what stands in a node after its ranges
pub record Tail : Type 0 where
  pub has_children : Bool
  pub name : ℕ
  pub call_file : ℕ
  pub call_line : ℕ

unfoldable pub tail_at : List ℕ → Option (Tail × List ℕ)
tail_at bytes = do
  flag ← byte_at bytes
  name ← word_at 4 flag.1
  call_file ← uleb_at name.1
  call_line ← uleb_at call_file.1
  Some (record { has_children = not (flag.0 == no_children); name = name.0; call_file = call_file.0; call_line = call_line.0 }, call_line.1)

-- a node's head from its two parts
abbrev pub head_of : List (ℕ × ℕ) → Tail → Head
head_of ranges tail = record { ranges = ranges; has_children = tail.has_children; name = tail.name; call_file = tail.call_file; call_line = tail.call_line }

-- the head of a node with so many ranges
unfoldable pub filled_at : ℕ → List ℕ → Option (Head × List ℕ)
filled_at count bytes = do
  ranges ← ranges_at count bytes
  tail ← tail_at ranges.1
  Some (head_of ranges.0 tail.0, tail.1)

-- a head that is there
abbrev pub there : Head × List ℕ → Option Head × List ℕ
there head = (Some head.0, head.1)

-- the head of the next node, or None for the count that ends siblings
unfoldable pub head_at : List ℕ → Option (Option Head × List ℕ)
head_at bytes = do
  count ← uleb_at bytes
  if count.0 == no_ranges then Some (None, count.1) else option_map there (filled_at count.0 count.1)

-- a node before its siblings
abbrev pub node_before : Head → Nodes → Nodes × List ℕ → Nodes × List ℕ
node_before head children later = (Node head children later.0, later.1)

module _ (read : List ℕ → Option (Nodes × List ℕ)) where
  -- the children of a node, where it has some
  abbrev pub children_by : Bool → List ℕ → Option (Nodes × List ℕ)
  children_by true bytes = read bytes
  children_by false bytes = Some (Ended, bytes)

  -- a node and its siblings after its head
  abbrev pub node_by : Option Head × List ℕ → Option (Nodes × List ℕ)
  node_by (None, bytes) = Some (Ended, bytes)
  node_by (Some head, bytes) = children_by head.has_children bytes >>= (λ children. option_map (node_before head children.0) (read children.1))

-- siblings up to their end, and the bytes after it; nodes lie no deeper and no further than so many
-- reach
abbrev pub nodes_within : ℕ → List ℕ → Option (Nodes × List ℕ)
nodes_within zero bytes = None
nodes_within (suc reach) bytes = head_at bytes >>= node_by (nodes_within reach)

-- siblings up to their end, and the bytes after it
unfoldable pub nodes_at : List ℕ → Option (Nodes × List ℕ)
nodes_at bytes = nodes_within (suc (length bytes)) bytes

-- the one root of an entry, with its children
abbrev pub root_by : Option Head × List ℕ → Option Nodes
root_by (None, bytes) = Some Ended
root_by (Some head, bytes) = option_map (λ children. Node head children.0 Ended) (children_by nodes_at head.has_children bytes)

-- the tree of an entry's bytes. None: bytes or numbers are missing
unfoldable pub tree_at : List ℕ → Option Nodes
tree_at bytes = head_at bytes >>= root_by

-- the frames at an address of the bytes' tree, where the offsets of the root count from a base. None:
-- there is no tree, or a node that is read isn't sound
unfoldable pub frames_at : ℕ → ℕ → List ℕ → Option (List Frame)
frames_at addr base bytes = tree_at bytes >>= frames addr base
