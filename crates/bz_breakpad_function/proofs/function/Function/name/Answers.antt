use Rattle.std.proofs.Common.{ap, ◌∙◌}
use Rattle.bz_breakpad_lines.specs.Table.{Function}
use Rattle.bz_breakpad_function.proofs.function.Function.name.Goals as goal

pub returns : goal.returns
returns c =
    c.text_of.ensures
    ∙ ap (λ (f : Function). f.name) c.self.invariant.nested.same ∙ ap (λ (f : Function). f.name) c.self.view_is
