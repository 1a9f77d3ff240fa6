use Rattle.std.proofs.Common.{◌++◌, ap, ◌∙◌, arith}
use Rattle.bz_canon.specs.Parts.{functions_text}
use Rattle.bz_canon.proofs.TextLaws.{function_more, functions_all}
use Rattle.bz_canon.proofs.text.push_functions_blank.Goals as goal

pub loop-index-preserved : goal.loop-index-preserved
loop-index-preserved g c =
    function_more c.args.file.now c.loop-index.index c.function-function.result c.args.text.now.items c.loop-index.text.items c.push_function.new.text.items
    c.function-function.ensures.function c.loop-index.invariant c.in_ok-push_function.ensures.ok

pub returns-clause-ok : goal.returns-clause-ok
returns-clause-ok g c =
    c.loop-index.invariant
    ∙ ap (λ fs. c.args.text.now.items ++ functions_text fs) (functions_all c.args.file.now c.loop-index.index (omega (arith, c.loop-index-test.false, c.function_count-index-end.ensures.count)))
