-- An inline tree that is read is the one that the bytes begin with, and one that they begin with is
-- read.
use Rattle.std.proofs.Common.{◌≡◌, ℕ, zero, suc, true, false, List, [], ◌++◌, length, Bool, Option, Some, None, option_map, refl, sym, ap, subst, ◌∙◌, append_assoc}
use Rattle.std.proofs.lemmas.Bool.{true≢false, false≢true}
use Rattle.std.proofs.lemmas.Option.{none-some, same_Some}
use Rattle.bz_base.specs.Bind.{◌>>=◌}
use Rattle.bz_base.specs.Cursor.{IsInFront}
use Rattle.bz_base.proofs.PieceOfBytesLemmas.{map_some}
use Rattle.bz_gsym.specs.InlineReader.{head_at, node_before, children_by, node_by, nodes_within, nodes_at, root_by, tree_at, frames_at}
use Rattle.bz_gsym.specs.InlineSpelling.{AreNodes, IsRoot, IsTree}
use Rattle.bz_gsym.specs.InlineTree.{Head, Nodes, Frame, frames}
use Rattle.bz_gsym.specs.InlineTree.Nodes.{Ended, Node}
use Rattle.bz_gsym.proofs.InlineHeadLemmas.{HeadFront, end_again, head_again, head_found}
use Rattle.bz_gsym.proofs.InlineReaderLemmas.{bind_then, nodes_at-step}

-- the children of a node
abbrev pub AreInner : Bool → Nodes → List ℕ → Type 0
AreInner has children inner = (has ≡ true → AreNodes children inner) × (has ≡ false → (children ≡ Ended) × (inner ≡ []))

module _ (read : List ℕ → Option (Nodes × List ℕ)) (found : (b : List ℕ) (x : Nodes × List ℕ) → read b ≡ Some x → IsInFront (AreNodes x.0) b x.1) where
  children_found : (has : Bool) (bytes : List ℕ) (x : Nodes × List ℕ) → children_by read has bytes ≡ Some x → IsInFront (AreInner has x.0) bytes x.1
  children_found true bytes x is =
      let front = found bytes x is in
      record { text = front.text; whole = front.whole; is = (λ _. front.is, λ none. absurd (true≢false none)) }
  children_found false bytes x is =
      let P : Nodes × List ℕ → Type 0 = λ x. IsInFront (AreInner false x.0) bytes x.1 in
      subst P (same_Some (Ended, bytes) x is) (record { text = []; whole = refl; is = (λ some. absurd (false≢true some), λ _. (refl, refl)) })

  node_found : (head : Option Head × List ℕ) (bytes : List ℕ) → HeadFront head.0 bytes head.1 → (x : Nodes × List ℕ) → node_by read head ≡ Some x → IsInFront (AreNodes x.0) bytes x.1
  node_found (None, after) bytes front x is =
      let P : Nodes × List ℕ → Type 0 = λ x. IsInFront (AreNodes x.0) bytes x.1 in
      subst P (same_Some (Ended, after) x is) front
  node_found (Some head, after) bytes own x is =
      bind_then (children_by read head.has_children after) (λ children. option_map (node_before head children.0) (read children.1)) x is (λ children children_is is.
      let inner = children_found head.has_children after children children_is in
      let siblings = map_some (node_before head children.0) (read children.1) x is in
      let later = found children.1 siblings.0 siblings.1 in
      let P : Nodes × List ℕ → Type 0 = λ x. IsInFront (AreNodes x.0) bytes x.1 in
      subst P siblings.2 (record {
        text = own.text ++ (inner.text ++ later.text);
        whole = own.whole ∙ ap (λ r. own.text ++ r) (inner.whole ∙ ap (λ r. inner.text ++ r) later.whole) ∙ sym (simp append_assoc);
        is = (own.text, inner.text, later.text, refl, own.is, inner.is.0, inner.is.1, later.is);
      }))

nodes_within_found : (reach : ℕ) (bytes : List ℕ) (x : Nodes × List ℕ) → nodes_within reach bytes ≡ Some x → IsInFront (AreNodes x.0) bytes x.1
nodes_within_found zero bytes x read = absurd (none-some x read)
nodes_within_found (suc reach) bytes x read =
    bind_then (head_at bytes) (node_by (nodes_within reach)) x read (λ head head_is read.
    node_found (nodes_within reach) (nodes_within_found reach) head bytes (head_found bytes head head_is) x read)

-- siblings that are read are spelled there
nodes_found : (bytes : List ℕ) (x : Nodes × List ℕ) → nodes_at bytes ≡ Some x → IsInFront (AreNodes x.0) bytes x.1
unfolding nodes_at
nodes_found bytes x read = nodes_within_found (suc (length bytes)) bytes x read

children_again : (has : Bool) (children : Nodes) (inner rest : List ℕ) → AreInner has children inner →
    (AreNodes children inner → nodes_at (inner ++ rest) ≡ Some (children, rest)) → children_by nodes_at has (inner ++ rest) ≡ Some (children, rest)
children_again true children inner rest is again = again (is.0 refl)
children_again false children inner rest is again = let none = is.1 refl in rw (none.0, none.1) refl

-- siblings that are spelled are read
nodes_again : (nodes : Nodes) (text rest : List ℕ) → AreNodes nodes text → nodes_at (text ++ rest) ≡ Some (nodes, rest)
nodes_again Ended text rest is = nodes_at-step (text ++ rest) ∙ ap (λ o. o >>= node_by nodes_at) (end_again text rest is)
nodes_again (Node head children siblings) text rest is =
    let own = is.0 in
    let inner = is.1 in
    let after = is.2 in
    let whole : text ++ rest ≡ own ++ (inner ++ (after ++ rest)) = ap (λ t. t ++ rest) is.3 ∙ simp append_assoc in
    rw (
      whole,
      nodes_at-step (own ++ (inner ++ (after ++ rest))),
      head_again head own (inner ++ (after ++ rest)) is.4,
      children_again head.has_children children inner (after ++ rest) (is.5, is.6) (nodes_again children inner (after ++ rest)),
      nodes_again siblings after rest is.7,
    ) refl

-- the root
root_found : (head : Option Head × List ℕ) (bytes : List ℕ) → HeadFront head.0 bytes head.1 → (tree : Nodes) → root_by head ≡ Some tree → IsTree bytes tree
root_found (None, after) bytes front tree is =
    subst (IsTree bytes) (same_Some Ended tree is) (record { text = front.text; rest = after; whole = front.whole; root = front.is })
root_found (Some head, after) bytes own tree is =
    let children = map_some (λ (c : Nodes × List ℕ). Node head c.0 Ended) (children_by nodes_at head.has_children after) tree is in
    let inner = children_found nodes_at nodes_found head.has_children after children.0 children.1 in
    subst (IsTree bytes) children.2 (record {
      text = own.text ++ inner.text;
      rest = children.0.1;
      whole = own.whole ∙ ap (λ r. own.text ++ r) inner.whole ∙ sym (append_assoc own.text inner.text children.0.1);
      root = (own.text, inner.text, refl, refl, own.is, inner.is.0, inner.is.1);
    })

-- a tree that is read is spelled there
pub tree_found : (bytes : List ℕ) (tree : Nodes) → tree_at bytes ≡ Some tree → IsTree bytes tree
unfolding tree_at
tree_found bytes tree read = bind_then (head_at bytes) root_by tree read (λ head head_is read. root_found head bytes (head_found bytes head head_is) tree read)

root_again : (tree : Nodes) (text rest : List ℕ) → IsRoot tree text → tree_at (text ++ rest) ≡ Some tree
unfolding tree_at
root_again Ended text rest is = ap (λ o. o >>= root_by) (end_again text rest is)
root_again (Node head children siblings) text rest is =
    let own = is.0 in
    let inner = is.1 in
    let whole : text ++ rest ≡ own ++ (inner ++ rest) = ap (λ t. t ++ rest) is.3 ∙ append_assoc own inner rest in
    rw (
      whole,
      head_again head own (inner ++ rest) is.4,
      is.2,
      children_again head.has_children children inner rest (is.5, is.6) (nodes_again children inner rest),
    ) refl

-- a tree that is spelled is read
pub tree_again : (bytes : List ℕ) (tree : Nodes) → IsTree bytes tree → tree_at bytes ≡ Some tree
tree_again bytes tree is = ap tree_at is.whole ∙ root_again tree is.text is.rest is.root

-- the frames of the bytes are those of the tree that is spelled there
pub frames_found : (addr base : ℕ) (bytes : List ℕ) (found : List Frame) → frames_at addr base bytes ≡ Some found →
    (tree : Nodes) × IsTree bytes tree × (frames addr base tree ≡ Some found)
unfolding frames_at
frames_found addr base bytes found read =
    bind_then (tree_at bytes) (frames addr base) found read (λ tree tree_is read. (tree, tree_found bytes tree tree_is, read))

pub frames_again : (addr base : ℕ) (bytes : List ℕ) (tree : Nodes) → IsTree bytes tree → frames_at addr base bytes ≡ frames addr base tree
unfolding frames_at
frames_again addr base bytes tree is = ap (λ o. o >>= frames addr base) (tree_again bytes tree is)
