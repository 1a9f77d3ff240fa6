use Rattle.std.proofs.Common.{Some, ap, ◌∙◌}
use Rattle.bz_breakpad_lines.proofs.QuickLemmas.{call_read}
use Rattle.bz_breakpad_lines.proofs.inline.call_line.Goals as goal

pub returns-clause-reads : goal.returns-clause-reads
returns-clause-reads c =
    let shown = c.in_ok-shown in
    let line = c.in_ok-line in
    let file = c.in_ok-file in
    let origin = c.in_ok-origin in
    rw (c.dec.ensures, c.dec-2.ensures, c.dec-3.ensures, c.dec-4.ensures, c.after.ensures.text)
    (call_read c.args.text.now shown.shown.text.now c.in_ok-depth.depth line.line file.file origin.origin (ap (λ t. Some (tt, t)) shown.ensures.text ∙ c.in_ok-fields.ensures)
    c.in_ok-depth.ensures line.ensures.space line.ensures.digits file.ensures.space file.ensures.digits origin.ensures.space origin.ensures.digits)
