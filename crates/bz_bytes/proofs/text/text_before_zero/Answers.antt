use Rattle.std.proofs.Common.{ap, ◌∙◌}
use Rattle.bz_bytes.specs.Cursor.{cstr_at}
use Rattle.bz_bytes.proofs.ZeroEndedLemmas.{text_read}
use Rattle.bz_bytes.proofs.text.text_before_zero.Goals as goal

pub returns : goal.returns
returns c = text_read c.args.bytes.now _ _ (c.read_cstr.ensures.reads ∙ ap cstr_at c.new-cursor.ensures.left)
