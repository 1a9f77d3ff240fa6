use Rattle.std.proofs.Common.{arith}
use Rattle.bz_bytes.proofs.LebByteLemmas.{unsigned_byte}
use Rattle.bz_bytes.proofs.leb128.unsigned.Goals as goal

pub returns-then-bytes-lt128-clause-reads : goal.returns-then-bytes-lt128-clause-reads
returns-then-bytes-lt128-clause-reads c = rw c.from.ensures (unsigned_byte c.args.bytes.now (omega arith) c.if-bytes-lt128.true)
