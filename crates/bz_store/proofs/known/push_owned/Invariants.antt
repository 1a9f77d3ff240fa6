use Rattle.std.proofs.Common.{◌≡◌, ◌++◌, map}
use Rattle.bz_base.specs.Answer.{reading}
use Rattle.bz_store.specs.Frames.{Known, reading_of}
use Rattle.bz_store.proofs.known.push_owned.Given as goal

-- the answers so far are behind the earlier ones
abbrev pub invariant-loop-answer : goal.invariant-loop-answer
invariant-loop-answer l = map reading_of l.answers.items ≡ map reading_of l.fn.answers.items ++ map Known (map reading l.yielded)
