use Rattle.std.proofs.Common.{sym}
use Rattle.bz_proc.specs.Maps.{line_of}
use Rattle.bz_proc.proofs.Utf8Lemmas.{text_utf8}
use Rattle.bz_proc.proofs.maps.said.Goals as goal

pub from_utf8_unchecked-text-requires : goal.from_utf8_unchecked-text-requires
from_utf8_unchecked-text-requires c = text_utf8 c.args.line.now (line_of c.in-Some.told) (sym c.in-Some.ensures) c.requires
