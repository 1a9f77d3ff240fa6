use Rattle.bz_symq.proofs.TextsLemmas.{answered}
use Rattle.bz_symq.proofs.output.push_next.Goals.{then-end_before+in_ok-make, else-end_before}
use Rattle.bz_symq.proofs.output.push_next.Goals as goal

pub push_text-requires-clause-texts : goal.push_text-requires-clause-texts
push_text-requires-clause-texts c = elim c.if-end_before.branch [
  | then-end_before+in_ok-make w ↦ rw w.texts-is w.in_ok-make.ensures.ok
  | else-end_before w ↦ rw w.texts-is c.requires.texts
]

pub returns-clause-texts : goal.returns-clause-texts
returns-clause-texts c = answered c.push_text.result (elim c.if-end_before.branch [
  | then-end_before+in_ok-make w ↦ rw w.texts-is w.in_ok-make.ensures.ok
  | else-end_before w ↦ rw w.texts-is c.requires.texts
])
