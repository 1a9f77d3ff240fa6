use Rattle.std.proofs.Common.{ap, ◌∙◌}
use Rattle.bz_breakpad_function.specs.InOrder.{lines_in_order}
use Rattle.bz_breakpad_function.proofs.InOrderLemmas.{lines_kept}
use Rattle.bz_breakpad_function.proofs.function.Function.iter_lines.Goals as goal

pub returns : goal.returns
returns c = c.line_iter.ensures ∙ lines_kept _ _ c.self.invariant.nested ∙ ap lines_in_order c.self.view_is
