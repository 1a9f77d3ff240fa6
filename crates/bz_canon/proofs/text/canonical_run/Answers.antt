use Rattle.std.proofs.Common.{sym, ap, ◌∙◌}
use Rattle.bz_breakpad_lines.specs.Printed.{line_one}
use Rattle.bz_breakpad_lines.specs.Contexts.Record.{OfFunc}
use Rattle.bz_canon.specs.Parts.{lines_of}
use Rattle.bz_canon.proofs.CanonicalRunLaws.{run_again}
use Rattle.bz_canon.proofs.text.canonical_run.Goals as goal

pub returns-then-is_canonical_run : goal.returns-then-is_canonical_run
returns-then-is_canonical_run c =
    let text = c.in_ok-text.ensures in
    sym (run_again c.in_ok-text.text.now (c.is_canonical_run.ensures c.if-is_canonical_run.true) text.run.read) ∙ ap (lines_of (λ l. OfFunc (line_one l))) text.says
