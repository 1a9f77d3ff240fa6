use Rattle.std.proofs.Common.{ap, ◌∙◌}
use Rattle.bz_breakpad_function.specs.Locations.{line_at}
use Rattle.bz_breakpad_lines.specs.Table.{Function}
use Rattle.bz_breakpad_function.proofs.AsKept.{line_same}
use Rattle.bz_breakpad_function.proofs.function.Function.find_line.Goals as goal

pub returns : goal.returns
returns c =
    c.line_of.ensures
    ∙ line_same _ _ c.self.invariant.nested c.args.addr
    ∙ ap (λ (f : Function). line_at c.args.addr f.lines) c.self.view_is
