use Rattle.std.proofs.Common.{◌≡◌, ◌++◌, drop, length, map, string_bytes}
use Rattle.bz_store.specs.Frames.{frame_of, reading_of}
use Rattle.bz_serve.specs.FrameText.{frame_texts}
use Rattle.bz_serve.proofs.frames.writing.frame_texts.Given as goal

-- the texts so far, and those of the answers that are left, are all
abbrev pub invariant-loop-frame : goal.invariant-loop-frame
invariant-loop-frame l =
    string_bytes l.text ++ frame_texts (map frame_of (drop (length l.yielded) l.frames)) (map reading_of (drop (length l.yielded) l.answers)) ≡ frame_texts (map frame_of l.frames) (map reading_of l.answers)
