use Rattle.bz_convert.proofs.BoundsLemmas.{table_bounded}
use Rattle.bz_convert.proofs.ConversionLemmas.{all_layable, codes_up}
use Rattle.bz_convert.proofs.PlanLemmas.{plan_answers}
use Rattle.bz_convert.proofs.laws.plans_answer_alike.Goals as goal

pub returns-clause-layable : goal.returns-clause-layable
returns-clause-layable c bytes table read none = all_layable table none (table_bounded bytes table read)

pub returns-clause-ascend : goal.returns-clause-ascend
returns-clause-ascend c table = codes_up table

pub returns-clause-answers : goal.returns-clause-answers
returns-clause-answers c bytes table read none addr = plan_answers table none (table_bounded bytes table read) addr
