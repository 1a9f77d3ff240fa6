use Rattle.std.proofs.Common.{◌++◌, drop, string_bytes}
use Rattle.bz_canon.specs.AnswerText.{answer_texts}
use Rattle.bz_symq.specs.Texts.{AreTexts}
use Rattle.bz_symq.proofs.OutputLemmas.{HasWritten}
use Rattle.bz_symq.proofs.output.write_answers.Given as goal

-- a front of all texts is written, the rest is the piece and the texts of the answers left,
-- and those made are right
abbrev pub invariant-loop-index : goal.invariant-loop-index
invariant-loop-index g l = record {
  written :
      HasWritten g.W.TextOut (answer_texts l.lookups.addrs l.lookups.answers)
      (string_bytes l.piece ++ answer_texts (drop l.index l.lookups.addrs) (drop l.index l.lookups.answers))
      l.initial.output l.output;
  texts : AreTexts l.lookups l.texts;
}
