use Rattle.std.proofs.Common.{ap, subst, ◌∙◌}
use Rattle.std.specs.Prelude.{IfSome}
use Rattle.bz_breakpad_function.specs.InOrder.{IsTextOfLines, lines_in_order}
use Rattle.bz_breakpad_function.proofs.InOrderLemmas.{lines_kept}
use Rattle.bz_breakpad_function.proofs.function.Function.line_text.Goals as goal

pub returns : goal.returns
returns c =
    subst (λ lines. IfSome c.line_text.result (λ text. IsTextOfLines text.now lines))
    (lines_kept _ _ c.self.invariant.nested ∙ ap lines_in_order c.self.view_is)
    c.line_text.ensures
