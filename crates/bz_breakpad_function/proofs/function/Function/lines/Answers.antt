use Rattle.std.proofs.Common.{ap, ◌∙◌}
use Rattle.bz_breakpad_function.specs.InOrder.{lines_in_order}
use Rattle.bz_breakpad_function.proofs.InOrderLemmas.{lines_kept}
use Rattle.bz_breakpad_function.proofs.function.Function.lines.Goals as goal

pub returns-clause-lines : goal.returns-clause-lines
returns-clause-lines c = c.in_ok-lines.ensures ∙ lines_kept _ _ c.self.invariant.nested ∙ ap lines_in_order c.self.view_is
