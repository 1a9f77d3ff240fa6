use Rattle.std.proofs.Common.{arith}
use Rattle.bz_breakpad_lines.proofs.ShortValueLemmas.{dec_at_front}
use Rattle.bz_breakpad_lines.proofs.values.short_dec_front.Goals as goal

pub returns : goal.returns
returns c =
    dec_at_front c.args.text.now (omega (arith, c.requires.room)) c.args.digits (omega arith) c.requires.digits c.four_bytes_front-values.result c.four_bytes_front-values.ensures
