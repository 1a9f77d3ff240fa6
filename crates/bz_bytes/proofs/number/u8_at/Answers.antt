use Rattle.std.proofs.Common.{sym, ◌∙◌}
use Rattle.std.proofs.lemmas.Option.{same_Some}
use Rattle.bz_bytes.proofs.LittleLemmas.{is_some, byte_read}
use Rattle.bz_bytes.proofs.number.u8_at.Goals as goal

pub unwrap-requires : goal.unwrap-requires
unwrap-requires c =
    is_some _ _ (byte_read c.args.bytes.now c.args.place _ _ _ c.new-cursor.ensures.left c.requires c.read_u8.ensures.reads)

pub returns : goal.returns
returns c =
    same_Some _ _ (sym c.unwrap.ensures ∙ byte_read c.args.bytes.now c.args.place _ _ _ c.new-cursor.ensures.left c.requires c.read_u8.ensures.reads)
