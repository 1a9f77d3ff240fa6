use Rattle.bz_gsym.proofs.ShortLemmas.{unsigned_short}
use Rattle.bz_gsym.proofs.short.short_unsigned.Goals as goal

pub returns-clause-reads : goal.returns-clause-reads
returns-clause-reads c =
    rw (c.from.ensures, c.from-2.ensures) (unsigned_short c.args.bytes.now c.in_ok-short.short.bits c.in_ok-short.short.marked c.in_ok-short.ensures)
