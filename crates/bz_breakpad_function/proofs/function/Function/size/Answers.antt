use Rattle.std.proofs.Common.{ap, ◌∙◌}
use Rattle.bz_breakpad_lines.specs.Table.{Function}
use Rattle.bz_breakpad_function.proofs.function.Function.size.Goals as goal

pub returns : goal.returns
returns c = ap (λ (f : Function). f.size) c.self.invariant.nested.same ∙ ap (λ (f : Function). f.size) c.self.view_is
