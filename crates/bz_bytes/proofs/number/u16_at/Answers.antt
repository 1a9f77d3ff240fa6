use Rattle.std.proofs.Common.{sym, ◌∙◌}
use Rattle.std.proofs.lemmas.Option.{same_Some}
use Rattle.bz_bytes.proofs.LittleLemmas.{is_some, word_read}
use Rattle.bz_bytes.proofs.number.u16_at.Goals as goal

pub unwrap-requires : goal.unwrap-requires
unwrap-requires c =
    is_some _ _ (word_read c.args.bytes.now c.args.place _ _ _ c.new-cursor.ensures.left 2 c.requires c.read_u16.ensures.reads)

pub returns : goal.returns
returns c =
    same_Some _ _ (sym c.unwrap.ensures ∙ word_read c.args.bytes.now c.args.place _ _ _ c.new-cursor.ensures.left 2 c.requires c.read_u16.ensures.reads)
