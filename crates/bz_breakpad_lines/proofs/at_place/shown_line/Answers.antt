use Rattle.std.proofs.Common.{◌+◌, Some, drop, sym, ap, ◌∙◌}
use Rattle.bz_breakpad_lines.specs.Line.{line_in}
use Rattle.bz_breakpad_lines.specs.QuickLine.{line_between}
use Rattle.bz_breakpad_lines.proofs.QuickLemmas.{form_line_in, line_found}
use Rattle.bz_breakpad_lines.proofs.at_place.shown_line.Goals as goal

pub returns : goal.returns
returns c =
    let text = c.in_ok-shown.shown.text.now in
    let ends = c.in_ok-ends.ends in
    let rest = drop (ends.file + 1) text in
    let value = line_between text c.in_ok-start.start ends in
    ap line_in (sym c.in_ok-shown.ensures.text)
    ∙ form_line_in text rest value (line_found text rest value c.in_ok-ends.ensures.reads)
    ∙ ap Some (sym c.line_by.ensures)
