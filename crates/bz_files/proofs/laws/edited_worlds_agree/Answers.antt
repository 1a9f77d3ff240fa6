use Rattle.bz_files.proofs.FreshStamps.{worlds_seen_agree}
use Rattle.bz_files.proofs.laws.edited_worlds_agree.Goals as goal

pub returns : goal.returns
returns c = worlds_seen_agree
