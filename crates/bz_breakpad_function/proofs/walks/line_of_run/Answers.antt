use Rattle.std.proofs.Common.{Some, ap, sym, ◌∙◌}
use Rattle.bz_breakpad_function.proofs.InOrderLemmas.{run_at}
use Rattle.bz_breakpad_function.proofs.walks.line_of_run.Goals as goal

pub returns : goal.returns
returns c =
    run_at c.args.text.now c.after_lines.result.now c.args.index c.requires.read c.after_lines.ensures c.requires.within
    ∙ ap Some (sym c.line_or_zeros.ensures)
