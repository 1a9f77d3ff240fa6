-- How an inline tree is spelled in bytes. After LLVM's documentation of the format
-- (llvm::gsym::InlineInfo).
use Rattle.std.specs.Prelude.{◌≡◌, ℕ, true, false, not, ◌<◌, ◌==◌, List, [], ◌∷◌, ◌++◌, length}
use Rattle.bz_base.specs.Cursor.{IsWord}
use Rattle.bz_base.specs.Leb128.{IsUleb}
use Rattle.bz_gsym.specs.InlineTree.{Head, Nodes, no_children, no_ranges}
use Rattle.bz_gsym.specs.InlineTree.Nodes.{Ended, Node}

-- the text is ranges, each an offset and a size
abbrev pub AreRanges : List (ℕ × ℕ) → List ℕ → Type 0
AreRanges [] text = text ≡ []
AreRanges (range ∷ ranges) text =
    (offset size rest : List ℕ) × (text ≡ offset ++ (size ++ rest)) × IsUleb range.0 offset × IsUleb range.1 size × AreRanges ranges rest

-- the text is a node up to its children: how many ranges, which isn't 0, the ranges, its flag, name and
-- call site
pub record IsHead (head : Head) (text : List ℕ) : Type 0 where
  pub count : List ℕ
  pub ranges : List ℕ
  pub flag : ℕ
  pub name : List ℕ
  pub call_file : List ℕ
  pub call_line : List ℕ
  pub whole : text ≡ count ++ (ranges ++ flag ∷ (name ++ (call_file ++ call_line)))
  pub positive : 0 < length head.ranges
  pub count_is : IsUleb (length head.ranges) count
  pub ranges_are : AreRanges head.ranges ranges
  pub flag_is : head.has_children ≡ not (flag == no_children)
  pub name_is : IsWord 4 head.name name
  pub file_is : IsUleb head.call_file call_file
  pub line_is : IsUleb head.call_line call_line

-- the text is siblings: each a node with its children, if it has some; the count of no ranges ends them
abbrev pub AreNodes : Nodes → List ℕ → Type 0
AreNodes Ended text = IsUleb no_ranges text
AreNodes (Node head children siblings) text =
    (own inner after : List ℕ) × (text ≡ own ++ (inner ++ after)) × IsHead head own
    × (head.has_children ≡ true → AreNodes children inner) × (head.has_children ≡ false → (children ≡ Ended) × (inner ≡ []))
    × AreNodes siblings after

-- the text is one root with its children, or the count of no ranges
abbrev pub IsRoot : Nodes → List ℕ → Type 0
IsRoot Ended text = IsUleb no_ranges text
IsRoot (Node head children siblings) text =
    (own inner : List ℕ) × (siblings ≡ Ended) × (text ≡ own ++ inner) × IsHead head own
    × (head.has_children ≡ true → AreNodes children inner) × (head.has_children ≡ false → (children ≡ Ended) × (inner ≡ []))

-- the bytes begin with the tree; what comes after it doesn't matter
pub record IsTree (bytes : List ℕ) (tree : Nodes) : Type 0 where
  pub text : List ℕ
  pub rest : List ℕ
  pub whole : bytes ≡ text ++ rest
  pub root : IsRoot tree text
