use Rattle.std.proofs.Common.{◌≡◌, [], ◌∷◌, length, reverse}
use Rattle.bz_gsym.specs.Seen.{frames_seen}
use Rattle.bz_gsym.specs.InlineWalk.{open_frames, after_front}
use Rattle.bz_gsym.proofs.inline.keep_inside.Given as goal

-- the frames so far, and those of what is left, are those of the whole
abbrev pub invariant-loop-next : goal.invariant-loop-next
invariant-loop-next l =
    after_front (frames_seen l.frames.items) (open_frames l.addr (l.level ∷ reverse l.outer.items) l.cursor.left)
    ≡ after_front (frames_seen l.fn.frames.items) (open_frames l.addr (l.fn.siblings ∷ []) l.fn.cursor.left)

abbrev pub decreases-loop-next : goal.decreases-loop-next
decreases-loop-next l = length l.cursor.left
