use Rattle.std.proofs.Common.{sym, subst}
use Rattle.bz_base.specs.declared.types.FindSymOpts.TheVariants as asked
use Rattle.bz_breakpad.specs.Plain as breakpad
use Rattle.bz_convert.specs.Alike.{AnswersAlike}
use Rattle.bz_convert.specs.Plan.{plan}
use Rattle.bz_convert.proofs.BoundsLemmas.{table_bounded}
use Rattle.bz_convert.proofs.ConversionLemmas.{all_layable, codes_up, with_calls_fits}
use Rattle.bz_convert.proofs.PlanLemmas.{plan_answers}
use Rattle.bz_convert.proofs.laws.conversions_answer_alike.Goals as goal

pub returns-clause-format : goal.returns-clause-format
returns-clause-format c bytes table read none small =
    let good = table_bounded bytes table read in c.layouts_answer_as_planned.ensures.format (plan table) (all_layable table none good) (codes_up table) small

pub returns-clause-answers : goal.returns-clause-answers
returns-clause-answers c bytes table read none small addr =
    let good = table_bounded bytes table read in
    subst (AnswersAlike (breakpad.function_at addr table.functions) (breakpad.plain table asked.CodeInfoAndInlined addr))
    (sym (c.layouts_answer_as_planned.ensures.answers (plan table) (all_layable table none good) small addr)) (plan_answers table none good addr)

pub returns-clause-trees : goal.returns-clause-trees
returns-clause-trees c bytes table read none small i code there some =
    let good = table_bounded bytes table read in
    c.layouts_answer_as_planned.ensures.trees (plan table) (all_layable table none good) small i code there (with_calls_fits table i code there some)
