use Rattle.std.proofs.Common.{List, length, ap, arith, sym, ◌∙◌}
use Rattle.std.specs.List.{slice_get}
use Rattle.bz_breakpad_function.specs.InOrder.{lines_in_order}
use Rattle.bz_breakpad_lines.specs.Table.{Function, SourceLine}
use Rattle.bz_breakpad_function.proofs.InOrderLemmas.{lines_count, lines_kept}
use Rattle.bz_breakpad_function.proofs.function.Function.line.Goals as goal

pub line_at_index-requires-clause-within : goal.line_at_index-requires-clause-within
line_at_index-requires-clause-within c =
    omega (arith, c.requires, lines_count _ _ c.self.invariant.nested, ap (λ (f : Function). length f.lines) c.self.view_is)

pub returns : goal.returns
returns c =
    ap (λ (f : Function). slice_get (lines_in_order f) c.args.index) (sym c.self.view_is)
    ∙ ap (λ (lines : List SourceLine). slice_get lines c.args.index) (sym (lines_kept _ _ c.self.invariant.nested))
    ∙ c.line_at_index.ensures
