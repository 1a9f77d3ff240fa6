use Rattle.std.proofs.Common.{length, ap, ◌∙◌}
use Rattle.bz_breakpad_lines.specs.Table.{Function}
use Rattle.bz_breakpad_function.proofs.InOrderLemmas.{lines_count}
use Rattle.bz_breakpad_function.proofs.function.Function.line_count.Goals as goal

pub returns : goal.returns
returns c = c.line_count.ensures ∙ lines_count _ _ c.self.invariant.nested ∙ ap (λ (f : Function). length f.lines) c.self.view_is
