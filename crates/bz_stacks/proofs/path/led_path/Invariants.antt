use Rattle.std.proofs.Common.{◌≡◌, map, take}
use Rattle.bz_base.specs.Answer.{reading}
use Rattle.bz_stacks.specs.Led.{led_by}
use Rattle.bz_stacks.proofs.path.led_path.Given as goal

-- the frames so far are those of the first answers
abbrev pub invariant-loop-answer : goal.invariant-loop-answer
invariant-loop-answer l = l.path.items ≡ led_by (map reading (take l.answer-index l.answers))
