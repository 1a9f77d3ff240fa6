use Rattle.bz_files.proofs.FreshStamps.{agreeing_agree, agreeing_edit, agreeing_new}
use Rattle.bz_files.proofs.laws.edits_keep_agreement.Goals as goal

pub returns-clause-new : goal.returns-clause-new
returns-clause-new c = agreeing_new

pub returns-clause-edit : goal.returns-clause-edit
returns-clause-edit c = λ seen files edit was. agreeing_edit seen files was edit

pub returns-clause-agree : goal.returns-clause-agree
returns-clause-agree c = agreeing_agree
