-- What a walk over an inline tree does with the frames so far.
use Rattle.std.proofs.Common.{◌≡◌, ℕ, List, [], ◌∷◌, ◌++◌, Option, Some, None, option_map, refl, sym, ap, ◌∙◌, append_assoc, reverse, length, ◌<◌, arith}
use Rattle.std.proofs.lemmas.List.{append-nil, reverse-append}
use Rattle.std.proofs.lemmas.Option.{same_Some}
use Rattle.bz_base.specs.Bind.{◌>>=◌}
use Rattle.bz_base.proofs.PieceOfBytesLemmas.{map_some}
use Rattle.bz_gsym.specs.InlineReader.{head_at, frames_at}
use Rattle.bz_gsym.specs.InlineTree.{Head, Frame, with_frame}
use Rattle.bz_gsym.specs.InlineWalk.{Visit, visit, visit_next, visit_at, open_frames, entered, after_front}
use Rattle.bz_gsym.specs.declared.inline.node.Level.{Level}
use Rattle.bz_gsym.specs.declared.inline.node.Level.TheVariants.{Read}
use Rattle.bz_gsym.proofs.InlineReaderLemmas.{bind_then, head_at-shorter}
use Rattle.bz_gsym.proofs.InlineStepLemmas.{frames_at-step, open_frames-step, walked, walked_root}

after_front-with : (front : List Frame) (f : Option Frame) (left : Option (List Frame)) →
    after_front front (option_map (with_frame f) left) ≡ after_front (front ++ with_frame f []) left
after_front-with front f None = refl
after_front-with front None (Some xs) = ap (λ ys. Some (ys ++ xs)) (sym (append-nil front))
after_front-with front (Some f) (Some xs) = ap Some (sym (append_assoc front (f ∷ []) xs))

with_in_front : (f : Option Frame) (left : Option (List Frame)) → option_map (with_frame f) left ≡ after_front (with_frame f []) left
with_in_front f None = refl
with_in_front None (Some xs) = refl
with_in_front (Some f) (Some xs) = refl

-- what a walk does with the frames so far
module _ (addr : ℕ) (level : Level) (levels : List Level) (front : List Frame) (bytes after : List ℕ) where
  pub walk-node : (found : Visit) → visit_at addr level bytes ≡ Some (Some found, after) →
      after_front front (open_frames addr (level ∷ levels) bytes)
      ≡ after_front (front ++ with_frame found.frame []) (open_frames addr (entered found.inside (level ∷ levels)) after)
  walk-node found is =
      ap (after_front front) (open_frames-step addr level levels bytes ∙ ap (λ o. o >>= walked addr level levels) is)
      ∙ after_front-with front found.frame (open_frames addr (entered found.inside (level ∷ levels)) after)

  pub walk-end : visit_at addr level bytes ≡ Some (None, after) →
      after_front front (open_frames addr (level ∷ levels) bytes) ≡ after_front front (open_frames addr levels after)
  walk-end is = ap (after_front front) (open_frames-step addr level levels bytes ∙ ap (λ o. o >>= walked addr level levels) is)

pub walk-missing : (addr : ℕ) (level : Level) (levels : List Level) (front : List Frame) (bytes : List ℕ) → visit_at addr level bytes ≡ None →
    after_front front (open_frames addr (level ∷ levels) bytes) ≡ None
walk-missing addr level levels front bytes is = ap (after_front front) (open_frames-step addr level levels bytes ∙ ap (λ o. o >>= walked addr level levels) is)

-- how a walk begins
module _ (addr base : ℕ) (bytes after : List ℕ) where
  root-node : (found : Visit) → visit_at addr (Read base) bytes ≡ Some (Some found, after) →
      frames_at addr base bytes ≡ after_front (with_frame found.frame []) (open_frames addr (entered found.inside []) after)
  root-node found is =
      frames_at-step addr base bytes ∙ ap (λ o. o >>= walked_root addr) is ∙ with_in_front found.frame (open_frames addr (entered found.inside []) after)

  pub root-end : visit_at addr (Read base) bytes ≡ Some (None, after) → frames_at addr base bytes ≡ Some []
  root-end is = frames_at-step addr base bytes ∙ ap (λ o. o >>= walked_root addr) is

pub root-missing : (addr base : ℕ) (bytes : List ℕ) → visit_at addr (Read base) bytes ≡ None → frames_at addr base bytes ≡ None
root-missing addr base bytes is = frames_at-step addr base bytes ∙ ap (λ o. o >>= walked_root addr) is

-- where the root has no children, its frame is the whole
pub root-alone : (addr base : ℕ) (bytes after : List ℕ) (found : Visit) → visit_at addr (Read base) bytes ≡ Some (Some found, after) → found.inside ≡ None →
    frames_at addr base bytes ≡ Some (with_frame found.frame [])
root-alone addr base bytes after found is alone =
    root-node addr base bytes after found is ∙ ap (λ inside. after_front (with_frame found.frame []) (open_frames addr (entered inside []) after)) alone
    ∙ ap (λ frames. Some frames) (append-nil (with_frame found.frame []))

-- where it has some, they are walked behind its frame
pub root-inside : (addr base : ℕ) (bytes after : List ℕ) (found : Visit) → visit_at addr (Read base) bytes ≡ Some (Some found, after) → (children : Level) → found.inside ≡ Some children →
    (front : List Frame) → front ≡ with_frame found.frame [] → frames_at addr base bytes ≡ after_front front (open_frames addr (children ∷ []) after)
root-inside addr base bytes after found is children inside front same =
    root-node addr base bytes after found is ∙ ap (λ inside. after_front (with_frame found.frame []) (open_frames addr (entered inside []) after)) inside
    ∙ ap (λ frames. after_front frames (open_frames addr (children ∷ []) after)) (sym same)

-- the innermost of the outer siblings stand last in the list of the code
pub innermost : (xs : List Level) (x : Level) → reverse (xs ++ x ∷ []) ≡ x ∷ reverse xs
innermost xs x = reverse-append xs (x ∷ [])

pub no_outer : (xs : List Level) → length xs ≡ 0 → reverse xs ≡ []
no_outer [] none = refl
no_outer (x ∷ xs) none = absurd (omega arith)

-- a turn of the loop
module _ (addr : ℕ) (level : Level) (outer : List Level) (front : List Frame) (bytes : List ℕ) (whole : Option (List Frame))
    (kept : after_front front (open_frames addr (level ∷ outer) bytes) ≡ whole) where
  pub turn-missing : visit_at addr level bytes ≡ None → whole ≡ None
  turn-missing is = sym kept ∙ walk-missing addr level outer front bytes is

  module _ (after : List ℕ) where
    pub turn-node : (found : Visit) (next : Level) (around : List Level) (more : List Frame) → visit_at addr level bytes ≡ Some (Some found, after) →
        next ∷ around ≡ entered found.inside (level ∷ outer) → more ≡ front ++ with_frame found.frame [] →
        after_front more (open_frames addr (next ∷ around) after) ≡ whole
    turn-node found next around more is inside grown =
        ap (λ levels. after_front more (open_frames addr levels after)) inside
        ∙ rw grown (sym (walk-node addr level outer front bytes after found is) ∙ kept)

    -- after the end of siblings those around them go on
    pub turn-end : visit_at addr level bytes ≡ Some (None, after) → (levels : List Level) → outer ≡ levels → after_front front (open_frames addr levels after) ≡ whole
    turn-end is levels same = ap (λ levels. after_front front (open_frames addr levels after)) (sym same) ∙ sym (walk-end addr level outer front bytes after is) ∙ kept

    -- if there are none, the frames so far are the whole
    pub turn-over : visit_at addr level bytes ≡ Some (None, after) → outer ≡ [] → whole ≡ Some front
    turn-over is none = sym (turn-end is [] none) ∙ ap (λ frames. Some frames) (append-nil front)

-- a node or an end takes at least one byte
visit_next-rest : (addr : ℕ) (level : Level) (head : Option Head × List ℕ) (x : Option Visit × List ℕ) → visit_next addr level head ≡ Some x → length head.1 ≡ length x.1
visit_next-rest addr level (None, bytes) x is = ap (λ (p : Option Visit × List ℕ). length p.1) (same_Some (None, bytes) x is)
visit_next-rest addr level (Some head, bytes) x is =
    let found = map_some (λ (found : Visit). (Some found, bytes)) (visit addr level head) x is in
    ap (λ (p : Option Visit × List ℕ). length p.1) found.2

pub visit_at-shorter : (addr : ℕ) (level : Level) (bytes : List ℕ) (x : Option Visit × List ℕ) → visit_at addr level bytes ≡ Some x → length x.1 < length bytes
unfolding visit_at
visit_at-shorter addr level bytes x is =
    bind_then (head_at bytes) (visit_next addr level) x is (λ head head_is is.
    omega (arith, head_at-shorter bytes head head_is, visit_next-rest addr level head x is))
