use Rattle.std.proofs.Common.{◌≡◌, ◌++◌, map, take}
use Rattle.bz_base.specs.Answer.{call_of}
use Rattle.bz_stacks.specs.Led.{led_frames}
use Rattle.bz_stacks.specs.Path.{frame}
use Rattle.bz_stacks.proofs.path.push_calls.Given as goal

-- the frames so far are those of the first calls
abbrev pub invariant-loop-call : goal.invariant-loop-call
invariant-loop-call l = l.path.items ≡ l.fn.path.items ++ led_frames (map (λ call. frame call.name) (map call_of (take l.call-index l.calls)))
