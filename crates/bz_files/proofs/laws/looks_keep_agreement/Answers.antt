use Rattle.bz_files.proofs.FreshStamps.{agreeing_begin}
use Rattle.bz_files.proofs.laws.looks_keep_agreement.Goals as goal

pub returns-clause-begin : goal.returns-clause-begin
returns-clause-begin g c = agreeing_begin
