use Rattle.bz_elf.proofs.TextLemmas.{name_is_text}
use Rattle.bz_elf.proofs.parser.names.text_of.Goals as goal

pub from_utf8_unchecked-requires : goal.from_utf8_unchecked-requires
from_utf8_unchecked-requires c = name_is_text c.args.bytes.now c.in-Some.text.now c.in-Some.ensures c.requires
