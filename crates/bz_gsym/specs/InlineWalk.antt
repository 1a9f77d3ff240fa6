-- The frames of an inline tree as a walk over the bytes meets them, with a list of the nodes that are
-- open. Of each it is held how its siblings are taken.
use Rattle.std.specs.Prelude.{ℕ, Bool, false, not, List, [], ◌∷◌, ◌++◌, Option, Some, None, option_map, if◌then◌else◌}
use Rattle.bz_base.specs.Bind.{◌>>=◌}
use Rattle.bz_gsym.specs.InlineTree.{Head, Nodes, Frame, is_sound, matches, children_base, frame_of, both, frames}
use Rattle.bz_gsym.specs.declared.inline.node.Level.{Level}
use Rattle.bz_gsym.specs.declared.inline.node.Level.TheVariants.{PassedOver, Read}
use Rattle.bz_gsym.specs.InlineReader.{filled_at, head_at, nodes_at}

-- what a node gives: its frame, if it has one, and how its children are taken, if it has some
pub record Visit : Type 0 where
  pub frame : Option Frame
  pub inside : Option Level

-- a node that is read is refused where it isn't sound
abbrev pub is_refused : Level → Head → Bool
is_refused PassedOver head = false
is_refused (Read base) head = not (is_sound base head)

-- a node that is read and matches has its frame
abbrev pub own_frame : ℕ → Level → Head → Option Frame
own_frame addr PassedOver head = None
own_frame addr (Read base) head = if matches base addr head then frame_of head else None

-- a node that is read and matches has children that are read
abbrev pub inner_level : ℕ → Level → Head → Level
inner_level addr PassedOver head = PassedOver
inner_level addr (Read base) head = if matches base addr head then Read (children_base base head) else PassedOver

-- what a node gives. None: it is read, and refused
abbrev pub visit : ℕ → Level → Head → Option Visit
visit addr level head =
    if is_refused level head then None
    else Some (record {
      frame = own_frame addr level head;
      inside = if head.has_children then Some (inner_level addr level head) else None;
    })

-- what the next node gives, or None at the end of siblings
abbrev pub visit_next : ℕ → Level → Option Head × List ℕ → Option (Option Visit × List ℕ)
visit_next addr level (None, bytes) = Some (None, bytes)
visit_next addr level (Some head, bytes) = option_map (λ found. (Some found, bytes)) (visit addr level head)

unfoldable pub visit_at : ℕ → Level → List ℕ → Option (Option Visit × List ℕ)
visit_at addr level bytes = head_at bytes >>= visit_next addr level

-- what a node with so many ranges gives, where it is passed over
unfoldable pub passed_at : ℕ → List ℕ → Option (Visit × List ℕ)
passed_at count bytes = option_map (λ head. (record { frame = None; inside = if head.0.has_children then Some PassedOver else None }, head.1)) (filled_at count bytes)

-- the frames of siblings
abbrev pub level_frames : ℕ → Level → Nodes → Option (List Frame)
level_frames addr PassedOver nodes = Some []
level_frames addr (Read base) nodes = frames addr base nodes

-- the frames of what is left: the rest of the innermost open siblings, then that of those around them
abbrev pub open_frames : ℕ → List Level → List ℕ → Option (List Frame)
open_frames addr [] bytes = Some []
open_frames addr (level ∷ levels) bytes =
    nodes_at bytes >>= (λ nodes. both (level_frames addr level nodes.0) (open_frames addr levels nodes.1))

-- the open siblings inside a node
abbrev pub entered : Option Level → List Level → List Level
entered None levels = levels
entered (Some level) levels = level ∷ levels

-- the frames so far, and those of what is left
abbrev pub after_front : List Frame → Option (List Frame) → Option (List Frame)
after_front front left = option_map (λ frames. front ++ frames) left
