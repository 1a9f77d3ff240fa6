use Rattle.std.proofs.Common.{ℕ, ◌<◌, ◌^◌, List, length, ap, subst, sym, ◌∙◌}
use Rattle.std.proofs.lemmas.Option.{same_Some}
use Rattle.std.proofs.lemmas.Result.{err_from_is_err_and}
use Rattle.bz_base.specs.declared.types.FindSymOpts.TheVariants as asked
use Rattle.bz_breakpad.specs.Plain as breakpad
use Rattle.bz_convert.specs.Alike.{AnswersAlike}
use Rattle.bz_convert.specs.FilePlan.{IsPlanOf}
use Rattle.bz_convert.specs.Plan.{plan}
use Rattle.bz_convert.proofs.RefusedLemmas.{fault_refuses}
use Rattle.bz_gsym.specs.Plain as gsym
use Rattle.bz_gsym_layout.specs.Layout.{layout}
use Rattle.bz_convert.proofs.conversion.convert.Goals as goal

pub returns-in_err-plan-clause-refusal : goal.returns-in_err-plan-clause-refusal
returns-in_err-plan-clause-refusal c =
    let same = err_from_is_err_and c.from_residual.result c.from_residual.ensures.1 in
    rw (same.1, same.2) (λ table read. fault_refuses table c.in_err-plan.field-0.0 (length (layout (plan table))) (λ other. c.in_err-plan.ensures.fault other table read))

pub write-requires : goal.write-requires
write-requires c = c.in_ok-plan.ensures.plan.2.formed

pub returns-in-Ok-clause-answers : goal.returns-in-Ok-clause-answers
returns-in-Ok-clause-answers c table read addr =
    let told = c.in_ok-plan.ensures.plan in
    let is = subst (λ t. IsPlanOf t c.in_ok-plan.plan) (same_Some told.0 table (sym told.1 ∙ read)) told.2 in
    let laid_out = c.in-Ok.ensures.ok.0 ∙ ap layout is.codes in
    let small = subst (λ (bytes : List ℕ). length bytes < 2 ^ 32) laid_out c.in-Ok.ensures.ok.1 in
    subst (λ (bytes : List ℕ). AnswersAlike (breakpad.function_at addr table.functions) (breakpad.plain table asked.CodeInfoAndInlined addr) (gsym.plain bytes asked.CodeInfoAndInlined addr)) (sym laid_out)
    (c.conversions_answer_alike.ensures.answers c.args.file.now table read is.clean small addr)
