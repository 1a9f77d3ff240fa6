use Rattle.std.proofs.Common.{◌∙◌, arith}
use Rattle.std.proofs.Math.ListN.{length-set}
use Rattle.bz_canon.proofs.HexLemmas.{low_turn, low_done}
use Rattle.bz_canon.proofs.hex.put_low_digits.Goals as goal

-- a turn writes the next digit before those that are written
pub loop-turn-preserved : goal.loop-turn-preserved
loop-turn-preserved g c =
    let l = c.loop-turn in
    record {
      long = length-set _ _ _ ∙ l.invariant.long;
      written = low_turn g.row.TURNS l.turn c.args.end c.args.number l.rest _ l.room _ c.loop-turn-test.true c.requires.fits (omega (arith, l.invariant.long)) c.glyph.ensures l.invariant.written;
    }

-- no digit is left
pub returns : goal.returns
returns g c =
    let l = c.loop-turn in
    low_done g.row.TURNS l.turn c.args.end c.args.number l.rest l.room _ (omega arith) l.invariant.written
