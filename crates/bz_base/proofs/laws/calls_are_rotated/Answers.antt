use Rattle.bz_base.proofs.SeenLaws.{calls_rotated}
use Rattle.bz_base.proofs.laws.calls_are_rotated.Goals as goal

pub returns : goal.returns
returns g c site name line calls seen = calls_rotated site name line calls seen
