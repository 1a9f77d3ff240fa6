use Rattle.std.proofs.Common.{arith}
use Rattle.bz_breakpad_function.proofs.RunFrontLemmas.{cut_first, few_lines}
use Rattle.bz_breakpad_function.proofs.line_run.first_cut.Goals as goal

pub returns-then-cut-len-clause-cut : goal.returns-then-cut-len-clause-cut
returns-then-cut-len-clause-cut c = cut_first c.args.len c.args.text.now c.requires c.line_len-cut.result c.line_len-cut.ensures.value (omega arith)

pub returns-else-cut-len-clause-none : goal.returns-else-cut-len-clause-none
returns-else-cut-len-clause-none c = few_lines c.args.len c.args.text.now (omega (arith, c.line_len-cut.ensures.value))
