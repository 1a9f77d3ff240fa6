use Rattle.bz_gsym.proofs.TextLaws.{string_found, string_spelled}
use Rattle.bz_gsym.proofs.laws.strings_are_exact.Goals as goal

pub returns : goal.returns
returns c table place text = (string_found table place text, string_spelled table place text)
