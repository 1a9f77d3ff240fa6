use Rattle.std.proofs.Common.{◌≡◌, ◌-◌, length}
use Rattle.bz_symq.specs.Texts.{AreTexts}
use Rattle.bz_symq.proofs.texts.Texts.make_in.Given as goal

-- the texts so far are those of their answers, of the same ones
abbrev pub invariant-loop-from : goal.invariant-loop-from
invariant-loop-from l = record {
  texts : AreTexts l.lookups l.self;
  first : l.self.first ≡ l.fn.self.first;
  count : length l.self.parts.items ≡ length l.fn.self.parts.items;
}

-- fewer are left
abbrev pub decreases-loop-from : goal.decreases-loop-from
decreases-loop-from l = length l.order - l.from
