use Rattle.std.proofs.Common.{◌≡◌, map, take}
use Rattle.bz_store.specs.declared.frame.CrashFrame.{CrashFrame}
use Rattle.bz_store.proofs.frame.offsets.Given as goal

-- the offsets so far are those of the first frames
abbrev pub invariant-loop-frame : goal.invariant-loop-frame
invariant-loop-frame l = l.offsets.items ≡ map (λ (frame : CrashFrame). frame.offset) (take l.frame-index l.frames)
