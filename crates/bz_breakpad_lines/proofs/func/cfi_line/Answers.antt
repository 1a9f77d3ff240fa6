use Rattle.bz_breakpad_lines.proofs.QuickLemmas.{cfi_found}
use Rattle.bz_breakpad_lines.proofs.func.cfi_line.Goals as goal

pub returns : goal.returns
returns c = cfi_found c.args.text.now c.in_ok-more.more.now c.in_ok-_line._line.now c.in_ok-_line.rest.now c.in_ok-more.ensures c.in_ok-_line.ensures
