use Rattle.bz_base.proofs.SeenLaws.{calls_rotated}
use Rattle.bz_gsym.proofs.laws.calls_are_rotated.Goals as goal

pub returns : goal.returns
returns c bytes row calls seen = calls_rotated _ _ _ calls seen
