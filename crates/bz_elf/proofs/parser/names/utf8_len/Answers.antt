use Rattle.std.proofs.Common.{arith}
use Rattle.bz_elf.proofs.parser.names.utf8_len.Goals as goal

pub returns-in-Err-clause-longest : goal.returns-in-Err-clause-longest
returns-in-Err-clause-longest c len more within = c.in-Err.ensures.cases.1.longest len (omega (arith, more, c.valid_up_to.ensures))
