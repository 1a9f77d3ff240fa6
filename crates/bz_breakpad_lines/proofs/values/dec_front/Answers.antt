use Rattle.bz_breakpad_lines.proofs.LongValueLemmas.{dec_at_front}
use Rattle.bz_breakpad_lines.proofs.values.dec_front.Goals as goal

pub returns : goal.returns
returns c =
    dec_at_front c.args.text.now c.requires.room c.args.digits c.requires.few c.requires.digits c.bytes_front-values.result c.bytes_front-values.ensures
