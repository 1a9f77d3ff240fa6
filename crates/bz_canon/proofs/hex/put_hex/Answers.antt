use Rattle.std.proofs.Common.{arith}
use Rattle.bz_canon.proofs.HexLemmas.{hex_length, hex_written}
use Rattle.bz_canon.proofs.hex.put_hex.Goals as goal
use Rattle.bz_canon.proofs.hex.put_hex.Goals.{then-number, else-number+then-number-2, else-number+else-number-2}

pub returns-clause-short : goal.returns-clause-short
returns-clause-short c =
    let count = c.digit_count.ensures in
    omega (arith, hex_length c.digit_count.result c.args.number count.positive (omega arith) count.enough count.needed)

-- the digits that count are the last ones of those that are written
pub returns-clause-text : goal.returns-clause-text
returns-clause-text c =
    let a = c.args in
    let count = c.digit_count.ensures in
    elim c.if-number.branch [
      | then-number w ↦ rw w.room-is (hex_written c.digit_count.result 4 a.end a.number _ _ w.put_low_digits.ensures count.positive (count.shorter (omega arith)) (omega arith) (omega arith) count.enough count.needed)
      | else-number+then-number-2 w ↦ rw w.room-is (hex_written c.digit_count.result 8 a.end a.number _ _ w.put_low_digits-then-number-2.ensures count.positive (count.short (omega arith)) (omega arith) (omega arith) count.enough count.needed)
      | else-number+else-number-2 w ↦ rw w.room-is (hex_written c.digit_count.result 16 a.end a.number _ _ w.put_low_digits-else-number-2.ensures count.positive count.most (omega arith) (omega arith) count.enough count.needed)
    ]
