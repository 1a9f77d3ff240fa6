use Rattle.std.proofs.Common.{◌++◌, drop, map, string_bytes}
use Rattle.bz_base.specs.Answer.{reading}
use Rattle.bz_canon.specs.AnswerText.{answer_texts}
use Rattle.bz_symq.proofs.OutputLemmas.{HasWritten}
use Rattle.bz_symq.proofs.output.write_owned.Given as goal

-- of the texts of all a front is written; the piece, and the texts of the answers
-- that are left, are the rest
abbrev pub invariant-loop-index : goal.invariant-loop-index
invariant-loop-index g l =
    HasWritten g.W.TextOut (answer_texts l.owned.addrs.items (map reading l.owned.answers.items))
    (string_bytes l.piece ++ answer_texts (drop l.index l.owned.addrs.items) (drop l.index (map reading l.owned.answers.items)))
    l.initial.output l.output
