use Rattle.std.proofs.Common.{sym, arith}
use Rattle.std.proofs.lemmas.Bool.{eqb-false}
use Rattle.bz_gsym.proofs.LineTableLemmas.{special_row}
use Rattle.bz_gsym.proofs.linetab.next_row.Goals as goal

pub returns-clause-row : goal.returns-clause-row
returns-clause-row c =
    rw (sym c.rest-operators.ensures)
    (special_row c.args.header.now c.args.row c.rest-operators.result.now c.special.result (omega (arith, eqb-false _ _ (sym c.if-is_empty.ensures))) c.if-operators-lt-FIRST_SPECIAL.false c.special.ensures)
