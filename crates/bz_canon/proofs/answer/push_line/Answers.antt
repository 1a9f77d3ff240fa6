use Rattle.std.proofs.Common.{sym, subst, arith}
use Rattle.std.proofs.lemmas.Fmt.{IsAscii-decimal}
use Rattle.std.proofs.lemmas.Str.{IsUtf8-append, IsUtf8-from_ascii, IsUtf8-nil}
use Rattle.std.specs.Str.{IsUtf8}
use Rattle.bz_canon.proofs.answer.push_line.Goals as goal

-- each of the three is text before text
pub push_piece-requires : goal.push_piece-requires
push_piece-requires c =
    let end = c.put_str.ensures.utf8 (subst IsUtf8 (sym c.new-piece.ensures) IsUtf8-nil) in
    let digits = IsUtf8-from_ascii _ (IsAscii-decimal c.in-Some.line (omega arith)) in
    c.put_str-in-Some.ensures.utf8 (subst IsUtf8 (sym c.put_decimal.ensures.text) (IsUtf8-append _ _ digits end))
