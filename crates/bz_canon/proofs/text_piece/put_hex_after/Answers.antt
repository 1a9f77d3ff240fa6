use Rattle.std.proofs.Common.{sym, subst}
use Rattle.std.specs.Str.{IsUtf8}
use Rattle.bz_canon.proofs.HexLemmas.{hex_utf8}
use Rattle.bz_canon.proofs.text_piece.put_hex_after.Goals as goal

-- digits are text
pub returns-clause-utf8 : goal.returns-clause-utf8
returns-clause-utf8 c behind =
    c.put_str.ensures.utf8 (subst IsUtf8 (sym c.put_hex.ensures.text) (hex_utf8 c.args.number _ behind))
