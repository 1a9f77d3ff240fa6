use Rattle.bz_base.proofs.SeenLaws.{calls_rotated}
use Rattle.bz_breakpad.proofs.laws.calls_are_rotated.Goals as goal

pub returns : goal.returns
returns c table calls line seen = calls_rotated _ _ _ calls seen
