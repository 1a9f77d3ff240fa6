use Rattle.std.proofs.Common.{ℕ, ap, length, arith}
use Rattle.std.proofs.lemmas.List.{length-append}
use Rattle.bz_canon.proofs.piece.Piece.put_hex.Goals as goal

-- the text is longer by the digits
pub returns-clause-short : goal.returns-clause-short
returns-clause-short c =
    let put = c.put_hex-self-inside.ensures in
    omega (arith, put.short, ap length put.text, length-append {A = ℕ}, ap length c.self.view_is)
