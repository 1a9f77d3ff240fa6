-- The orders in which a plan gives rows and calls.
use Rattle.std.specs.Prelude.{◌≡◌, ◌≤◌, ◌+◌, ℕ, suc, List, [], ◌∷◌, Some, slice_get}
use Rattle.bz_gsym_layout.specs.declared.plan.Node.{Node}
use Rattle.bz_gsym_layout.specs.declared.plan.Row.{Row}

abbrev pub depth_of : Node → ℕ
depth_of node = node.depth

-- no row lies before an address, nor before the row in front of it
abbrev pub NeverBefore : ℕ → List Row → Type 0
NeverBefore addr [] = Unit {0}
NeverBefore addr (row ∷ rows) = (addr ≤ row.addr) × NeverBefore row.addr rows

-- the calls of a function stand behind those around them: the first is outermost, and each goes down by
-- one depth at most. None starts before the function or before one in front of it
pub record AreInOrder (start : ℕ) (nodes : List Node) : Type 0 where
  pub first : (x : Node) → slice_get nodes 0 ≡ Some x → x.depth ≡ 0
  pub down : (i : ℕ) (x y : Node) → slice_get nodes i ≡ Some x → slice_get nodes (suc i) ≡ Some y → y.depth ≤ x.depth + 1
  pub from : (i : ℕ) (x : Node) → slice_get nodes i ≡ Some x → start ≤ x.start
  pub ascend : (i j : ℕ) (x y : Node) → i ≤ j → slice_get nodes i ≡ Some x → slice_get nodes j ≡ Some y → x.start ≤ y.start
