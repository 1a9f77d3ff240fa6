use Rattle.std.proofs.Common.{ℕ, ap, length, arith}
use Rattle.std.proofs.lemmas.Fmt.{length-decimal-le}
use Rattle.std.proofs.lemmas.List.{length-append, length-drop}
use Rattle.bz_canon.proofs.piece.Piece.put_decimal.Goals as goal

-- a number of 32 bits has at most ten digits
pub write_digits-self-inside-requires : goal.write_digits-self-inside-requires
write_digits-self-inside-requires c =
    let short = length-decimal-le 10 c.args.number (omega arith) (omega arith) (omega arith) in
    (omega (arith, short, length-drop {A = ℕ}, ap length c.self.view_is), omega arith)

-- the text is longer by the digits
pub returns-clause-short : goal.returns-clause-short
returns-clause-short c =
    let short = length-decimal-le 10 c.args.number (omega arith) (omega arith) (omega arith) in
    omega (arith, short, ap length c.write_digits-self-inside.ensures.written, length-append {A = ℕ}, ap length c.self.view_is)
