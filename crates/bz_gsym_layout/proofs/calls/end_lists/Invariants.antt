use Rattle.std.proofs.Common.{◌≡◌, ◌≤◌, ◌∷◌, ◌++◌, ℕ, List, length, reverse}
use Rattle.bz_gsym_layout.specs.Layout.{Tables}
use Rattle.bz_gsym_layout.specs.InOrder.{depth_of}
use Rattle.bz_gsym_layout.specs.Pass.{AreAtMost, left_bytes}
use Rattle.bz_gsym_layout.specs.Plan.{Called}
use Rattle.bz_gsym_layout.specs.declared.plan.Node.{Node}
use Rattle.bz_gsym_layout.proofs.calls.end_lists.Given as goal

-- what is written, with what is left of the lists that are still open, is the whole
abbrev pub invariant-loop-out : goal.invariant-loop-out
invariant-loop-out l = record {
  deep : l.depth ≤ length l.outer.items;
  low : (limit : ℕ) → l.innermost ≤ limit → AreAtMost limit l.fn.outer.items → (l.base ≤ limit) × AreAtMost limit l.outer.items;
  left : (t : Tables) (view : Node → Called) (x : Node) (xs : List Node) → x.depth ≡ l.depth →
      l.out.items ++ left_bytes t view depth_of (l.base ∷ reverse l.outer.items) (x ∷ xs) ≡ l.fn.out.items ++ left_bytes t view depth_of (l.innermost ∷ reverse l.fn.outer.items) (x ∷ xs);
}

abbrev pub decreases-loop-out : goal.decreases-loop-out
decreases-loop-out l = length l.outer.items
