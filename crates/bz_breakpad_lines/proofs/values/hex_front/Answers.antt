use Rattle.bz_breakpad_lines.proofs.LongValueLemmas.{hex_at_front}
use Rattle.bz_breakpad_lines.proofs.values.hex_front.Goals as goal

pub returns : goal.returns
returns c =
    hex_at_front c.args.text.now c.requires.room c.args.digits c.requires.few c.requires.digits c.bytes_front-bytes.result c.bytes_front-bytes.ensures
