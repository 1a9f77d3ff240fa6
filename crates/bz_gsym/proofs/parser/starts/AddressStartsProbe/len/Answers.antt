use Rattle.std.proofs.Common.{sym}
use Rattle.bz_gsym.proofs.StartLemmas.{length_starts}
use Rattle.bz_gsym.proofs.parser.starts.AddressStartsProbe.len.Goals as goal

pub returns-clause-value : goal.returns-clause-value
returns-clause-value c = rw (← c.self.view_is) (sym (length_starts c.self.inside.bytes.now c.self.inside.size c.self.inside.count))
