use Rattle.std.proofs.Common.{Ok, [], ◌-◌, length, map}
use Rattle.bz_store.specs.Calls.{Visits}
use Rattle.bz_store.specs.Frames.{frame_of, reading_of}
use Rattle.bz_store.proofs.store.Store.answer.Given as goal

-- the answers so far are those to the first frames
abbrev pub invariant-loop-alloc : goal.invariant-loop-alloc
invariant-loop-alloc g l = Visits {A = Unit {0}} g.F.Files l.opts (map frame_of l.frames) (Ok tt) [] (map reading_of l.answers.items) l.fn.self l.self l.fn.files l.files

-- fewer are left
abbrev pub decreases-loop-alloc : goal.decreases-loop-alloc
decreases-loop-alloc g l = length l.frames - length l.answers.items
