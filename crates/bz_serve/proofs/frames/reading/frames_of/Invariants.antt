use Rattle.std.proofs.Common.{◌≡◌, map}
use Rattle.bz_store.specs.Frames.{frame_of}
use Rattle.bz_serve.specs.FrameLines.{frame_of_line}
use Rattle.bz_serve.proofs.frames.reading.frames_of.Given as goal

-- the frames so far are those of the lines so far
abbrev pub invariant-loop-line : goal.invariant-loop-line
invariant-loop-line l = map frame_of l.frames.items ≡ map frame_of_line l.yielded
