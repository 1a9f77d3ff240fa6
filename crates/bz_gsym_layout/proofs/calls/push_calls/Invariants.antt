use Rattle.std.proofs.Common.{◌≡◌, ◌≤◌, ◌∷◌, ◌++◌, length, reverse, drop, Some}
use Rattle.std.specs.List.{slice_get}
use Rattle.bz_gsym_layout.specs.Layout.{Tables, calls_bytes}
use Rattle.bz_gsym_layout.specs.Nesting.{map_forest, nested}
use Rattle.bz_gsym_layout.specs.InOrder.{depth_of}
use Rattle.bz_gsym_layout.specs.Pass.{AreAtMost, AreNodesOf, left_bytes}
use Rattle.bz_gsym_layout.specs.Plan.{Called}
use Rattle.bz_gsym_layout.specs.declared.plan.Node.{Node}
use Rattle.bz_gsym_layout.proofs.calls.push_calls.Given as goal

-- what is written, with what is left of the open lists, is the whole; the next node fits into the open
-- lists
abbrev pub invariant-loop-index : goal.invariant-loop-index
invariant-loop-index l = record {
  deep : (x : Node) → slice_get l.nodes l.index ≡ Some x → x.depth ≤ length l.outer.items;
  low : (x : Node) → slice_get l.nodes l.index ≡ Some x → (l.base ≤ x.start) × AreAtMost x.start l.outer.items;
  left : (t : Tables) (view : Node → Called) → AreNodesOf t l.places view l.nodes →
      l.out.items ++ left_bytes t view depth_of (l.base ∷ reverse l.outer.items) (drop l.index l.nodes) ≡ l.fn.out.items ++ calls_bytes t l.start (map_forest view (nested depth_of 0 l.nodes));
}
