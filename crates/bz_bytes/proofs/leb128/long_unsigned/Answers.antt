use Rattle.std.proofs.Common.{sym, arith}
use Rattle.bz_bytes.proofs.LebValueLemmas.{unsigned_fits, unsigned_read, unsigned_refused, at_most}
use Rattle.bz_bytes.proofs.leb128.long_unsigned.Goals as goal

pub returns-in_err-parts-clause-reads : goal.returns-in_err-parts-clause-reads
returns-in_err-parts-clause-reads c = rw c.from_residual.ensures (sym c.in_err-parts.ensures.none.unsigned)

pub returns-then-parts-gt1-clause-reads : goal.returns-then-parts-gt1-clause-reads
returns-then-parts-gt1-clause-reads c =
    let p = c.in_ok-parts.parts in
    unsigned_refused c.args.bytes.now p.low p.weight p.last p.len c.in_ok-parts.ensures.parts c.if-parts-eq10.true c.if-parts-gt1.true

pub overflow_mul-result : goal.overflow_mul-result
overflow_mul-result c =
    let p = c.in_ok-parts.parts in
    let fits = unsigned_fits c.args.bytes.now p.low p.weight p.last p.len c.in_ok-parts.ensures.parts (at_most p.len p.last 1 c.else-parts-eq10.either) in
    rw c.from.ensures (omega (arith, fits))

pub overflow_add-result : goal.overflow_add-result
overflow_add-result c =
    let p = c.in_ok-parts.parts in
    let fits = unsigned_fits c.args.bytes.now p.low p.weight p.last p.len c.in_ok-parts.ensures.parts (at_most p.len p.last 1 c.else-parts-eq10.either) in
    rw c.from.ensures (omega (arith, fits))

pub returns-clause-reads : goal.returns-clause-reads
returns-clause-reads c =
    let p = c.in_ok-parts.parts in
    rw c.from.ensures (unsigned_read c.args.bytes.now p.low p.weight p.last p.len c.in_ok-parts.ensures.parts (at_most p.len p.last 1 c.else-parts-eq10.either))
