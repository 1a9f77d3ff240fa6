-- The frames of what is left of an inline tree are what the next node gives, and the frames of what is
-- left then.
use Rattle.std.proofs.Common.{◌≡◌, ℕ, true, false, List, [], ◌∷◌, ◌++◌, Bool, cond, Option, Some, None, option_map, refl, sym, ap, ◌∙◌, append_assoc}
use Rattle.std.proofs.lemmas.Bool.{false≢true, not-true, not-false}
use Rattle.std.proofs.lemmas.List.{append-nil}
use Rattle.bz_base.specs.Bind.{◌>>=◌}
use Rattle.bz_gsym.specs.InlineTree.{Head, Nodes, Frame, matches, children_base, frame_of, with_frame, both, frames}
use Rattle.bz_gsym.specs.InlineTree.Nodes.{Ended, Node}
use Rattle.bz_gsym.specs.InlineReader.{head_at, node_before, children_by, node_by, root_by, nodes_at, tree_at, frames_at}
use Rattle.bz_gsym.specs.declared.inline.node.Level.{Level}
use Rattle.bz_gsym.specs.declared.inline.node.Level.TheVariants.{PassedOver, Read}
use Rattle.bz_gsym.specs.InlineWalk.{Visit, is_refused, own_frame, inner_level, visit_next, visit_at, level_frames, open_frames, entered}
use Rattle.bz_gsym.proofs.InlineReaderLemmas.{nodes_at-step}

-- the frames of what is left once the next node gave this
abbrev pub walked : ℕ → Level → List Level → Option Visit × List ℕ → Option (List Frame)
walked addr level levels (None, bytes) = open_frames addr levels bytes
walked addr level levels (Some found, bytes) =
    option_map (with_frame found.frame) (open_frames addr (entered found.inside (level ∷ levels)) bytes)

-- the frames of the whole once the root gave this
abbrev pub walked_root : ℕ → Option Visit × List ℕ → Option (List Frame)
walked_root addr (None, bytes) = Some []
walked_root addr (Some found, bytes) =
    option_map (with_frame found.frame) (open_frames addr (entered found.inside []) bytes)

both_nothing : {A : Type 0} (o : Option (List A)) → both (Some []) o ≡ o
both_nothing None = refl
both_nothing (Some xs) = refl

both_none : {A : Type 0} (o : Option (List A)) → both o None ≡ None
both_none None = refl
both_none (Some xs) = refl

both_ended : {A : Type 0} (o : Option (List A)) → both o (Some []) ≡ o
both_ended None = refl
both_ended (Some xs) = ap Some (append-nil xs)

with_frame-append : (f : Option Frame) (xs ys : List Frame) → with_frame f xs ++ ys ≡ with_frame f (xs ++ ys)
with_frame-append None xs ys = refl
with_frame-append (Some f) xs ys = refl

-- frames of the children, of the siblings after them and of what is further out, grouped from the left
-- or from the right
regroup : (f : Option Frame) (a b c : Option (List Frame)) → both (both (option_map (with_frame f) a) b) c ≡ option_map (with_frame f) (both a (both b c))
regroup f None b c = refl
regroup f (Some a) None c = refl
regroup f (Some a) (Some b) None = refl
regroup f (Some a) (Some b) (Some c) =
    ap (λ xs. Some (xs ++ c)) (with_frame-append f a b) ∙ ap Some (with_frame-append f (a ++ b) c) ∙ ap (λ xs. Some (with_frame f xs)) (append_assoc a b c)

-- siblings that have ended give no frame
level_ended : (addr : ℕ) (level : Level) → level_frames addr level Ended ≡ Some []
level_ended addr PassedOver = refl
level_ended addr (Read base) = refl

-- the frames of a node that is read, whether it matches or not
by_match : (addr : ℕ) (base : ℕ) (head : Head) (children : Nodes) (later : Option (List Frame)) (b : Bool) →
    both (cond b (option_map (with_frame (frame_of head)) (frames addr (children_base base head) children)) (Some [])) later
    ≡ both (option_map (with_frame (cond b (frame_of head) None)) (level_frames addr (cond b (Read (children_base base head)) PassedOver) children)) later
by_match addr base head children later true = refl
by_match addr base head children later false = refl

-- a node that isn't refused gives its own frame, those of its children, and those of its siblings
level_node : (addr : ℕ) (level : Level) (head : Head) (children siblings : Nodes) → is_refused level head ≡ false →
    level_frames addr level (Node head children siblings)
    ≡ both (option_map (with_frame (own_frame addr level head)) (level_frames addr (inner_level addr level head) children)) (level_frames addr level siblings)
level_node addr PassedOver head children siblings sound = refl
level_node addr (Read base) head children siblings sound =
    rw (not-false _ sound) (by_match addr base head children (frames addr base siblings) (matches base addr head))

-- one that is refused refuses all
level_refused : (addr : ℕ) (level : Level) (head : Head) (children siblings : Nodes) → is_refused level head ≡ true →
    level_frames addr level (Node head children siblings) ≡ None
level_refused addr PassedOver head children siblings refused = absurd (false≢true refused)
level_refused addr (Read base) head children siblings refused = rw (not-true _ refused) refl

-- siblings that are taken at this level, with levels around them
module _ (addr : ℕ) (level : Level) (levels : List Level) where
  -- the frames of the siblings and of what is further out
  abbrev rest : Nodes × List ℕ → Option (List Frame)
  rest nodes = both (level_frames addr level nodes.0) (open_frames addr levels nodes.1)

  module _ (head : Head) where
    -- a refused node refuses whatever is read after it
    refused_siblings : is_refused level head ≡ true → (children : Nodes) (later : Option (Nodes × List ℕ)) →
        (option_map (node_before head children) later >>= rest) ≡ None
    refused_siblings refused children None = refl
    refused_siblings refused children (Some nodes) =
        ap (λ o. both o (open_frames addr levels nodes.1)) (level_refused addr level head children nodes.0 refused)

    refused_node : is_refused level head ≡ true → (children : Option (Nodes × List ℕ)) →
        ((children >>= (λ c. option_map (node_before head c.0) (nodes_at c.1))) >>= rest) ≡ None
    refused_node refused None = refl
    refused_node refused (Some children) = refused_siblings refused children.0 (nodes_at children.1)

    -- the frames of a node that isn't refused, of its children and of what comes after them
    sound_siblings : is_refused level head ≡ false → (children : Nodes) (later : Option (Nodes × List ℕ)) →
        (option_map (node_before head children) later >>= rest)
        ≡ option_map (with_frame (own_frame addr level head)) (both (level_frames addr (inner_level addr level head) children) (later >>= rest))
    sound_siblings sound children None = sym (ap (option_map (with_frame (own_frame addr level head))) (both_none (level_frames addr (inner_level addr level head) children)))
    sound_siblings sound children (Some nodes) =
        ap (λ o. both o (open_frames addr levels nodes.1)) (level_node addr level head children nodes.0 sound)
        ∙ regroup (own_frame addr level head) (level_frames addr (inner_level addr level head) children) (level_frames addr level nodes.0) (open_frames addr levels nodes.1)

    sound_parent : is_refused level head ≡ false → (children : Option (Nodes × List ℕ)) →
        ((children >>= (λ c. option_map (node_before head c.0) (nodes_at c.1))) >>= rest)
        ≡ option_map (with_frame (own_frame addr level head)) (children >>= (λ c. both (level_frames addr (inner_level addr level head) c.0) (nodes_at c.1 >>= rest)))
    sound_parent sound None = refl
    sound_parent sound (Some children) = sound_siblings sound children.0 (nodes_at children.1)

    sound_node : is_refused level head ≡ false → (has : Bool) (bytes : List ℕ) →
        ((children_by nodes_at has bytes >>= (λ c. option_map (node_before head c.0) (nodes_at c.1))) >>= rest)
        ≡ option_map (with_frame (own_frame addr level head)) (open_frames addr (entered (cond has (Some (inner_level addr level head)) None) (level ∷ levels)) bytes)
    sound_node sound true bytes = sound_parent sound (nodes_at bytes)
    sound_node sound false bytes =
        sound_siblings sound Ended (nodes_at bytes)
        ∙ ap (option_map (with_frame (own_frame addr level head)))
        (ap (λ o. both o (nodes_at bytes >>= rest)) (level_ended addr (inner_level addr level head)) ∙ both_nothing (nodes_at bytes >>= rest))

    met : (bytes : List ℕ) (refused : Bool) → is_refused level head ≡ refused →
        (node_by nodes_at (Some head, bytes) >>= rest)
        ≡ (option_map (λ found. (Some found, bytes)) (cond {A = Option Visit} refused None (Some (record { frame = own_frame addr level head; inside = cond head.has_children (Some (inner_level addr level head)) None })))
        >>= walked addr level levels)
    met bytes true is = refused_node is (children_by nodes_at head.has_children bytes)
    met bytes false is = sound_node is head.has_children bytes

  found_next : (found : Option (Option Head × List ℕ)) →
      ((found >>= node_by nodes_at) >>= rest) ≡ ((found >>= visit_next addr level) >>= walked addr level levels)
  found_next None = refl
  found_next (Some (None, bytes)) = ap (λ o. both o (open_frames addr levels bytes)) (level_ended addr level) ∙ both_nothing (open_frames addr levels bytes)
  found_next (Some (Some head, bytes)) = met head bytes (is_refused level head) refl

  -- the frames of what is left are what the next node gives, and those of what is then left
  pub open_frames-step : (bytes : List ℕ) → open_frames addr (level ∷ levels) bytes ≡ (visit_at addr level bytes >>= walked addr level levels)
  unfolding visit_at
  open_frames-step bytes = ap (λ o. o >>= rest) (nodes_at-step bytes) ∙ found_next (head_at bytes)

-- the frames of an entry are what the root gives, and those of what is then left
module _ (addr base : ℕ) where
  module _ (head : Head) where
    sound_root : is_refused (Read base) head ≡ false → (children : Nodes) →
        frames addr base (Node head children Ended)
        ≡ option_map (with_frame (own_frame addr (Read base) head)) (both (level_frames addr (inner_level addr (Read base) head) children) (Some []))
    sound_root sound children =
        level_node addr (Read base) head children Ended sound
        ∙ both_ended (option_map (with_frame (own_frame addr (Read base) head)) (level_frames addr (inner_level addr (Read base) head) children))
        ∙ ap (option_map (with_frame (own_frame addr (Read base) head))) (sym (both_ended (level_frames addr (inner_level addr (Read base) head) children)))

    sound_root_parent : is_refused (Read base) head ≡ false → (children : Option (Nodes × List ℕ)) →
        (option_map (λ (c : Nodes × List ℕ). Node head c.0 Ended) children >>= frames addr base)
        ≡ option_map (with_frame (own_frame addr (Read base) head)) (children >>= (λ c. both (level_frames addr (inner_level addr (Read base) head) c.0) (Some [])))
    sound_root_parent sound None = refl
    sound_root_parent sound (Some children) = sound_root sound children.0

    refused_root : is_refused (Read base) head ≡ true → (children : Option (Nodes × List ℕ)) →
        (option_map (λ (c : Nodes × List ℕ). Node head c.0 Ended) children >>= frames addr base) ≡ None
    refused_root refused None = refl
    refused_root refused (Some children) = level_refused addr (Read base) head children.0 Ended refused

    sound_root_by : is_refused (Read base) head ≡ false → (has : Bool) (bytes : List ℕ) →
        (option_map (λ (c : Nodes × List ℕ). Node head c.0 Ended) (children_by nodes_at has bytes) >>= frames addr base)
        ≡ option_map (with_frame (own_frame addr (Read base) head)) (open_frames addr (entered (cond has (Some (inner_level addr (Read base) head)) None) []) bytes)
    sound_root_by sound true bytes = sound_root_parent sound (nodes_at bytes)
    sound_root_by sound false bytes =
        sound_root sound Ended
        ∙ ap (λ o. option_map (with_frame (own_frame addr (Read base) head)) (both o (Some []))) (level_ended addr (inner_level addr (Read base) head))

    met_root : (bytes : List ℕ) (refused : Bool) → is_refused (Read base) head ≡ refused →
        (root_by (Some head, bytes) >>= frames addr base)
        ≡ (option_map (λ found. (Some found, bytes)) (cond {A = Option Visit} refused None (Some (record { frame = own_frame addr (Read base) head; inside = cond head.has_children (Some (inner_level addr (Read base) head)) None })))
        >>= walked_root addr)
    met_root bytes true is = refused_root is (children_by nodes_at head.has_children bytes)
    met_root bytes false is = sound_root_by is head.has_children bytes

  found_root : (found : Option (Option Head × List ℕ)) →
      ((found >>= root_by) >>= frames addr base) ≡ ((found >>= visit_next addr (Read base)) >>= walked_root addr)
  found_root None = refl
  found_root (Some (None, bytes)) = refl
  found_root (Some (Some head, bytes)) = met_root head bytes (is_refused (Read base) head) refl

  pub frames_at-step : (bytes : List ℕ) → frames_at addr base bytes ≡ (visit_at addr (Read base) bytes >>= walked_root addr)
  unfolding frames_at tree_at visit_at
  frames_at-step bytes = found_root (head_at bytes)
