use Rattle.std.proofs.Common.{◌+◌, ◌*◌, Some, drop, sym, ap, ◌∙◌, arith}
use Rattle.bz_gsym.proofs.ShortLemmas.{bits_small, positive_short, negative_short, same_signed, less_signed}
use Rattle.bz_gsym.proofs.short.short_signed.Goals as goal

pub returns-then-short-half-clause-reads : goal.returns-then-short-half-clause-reads
returns-then-short-half-clause-reads c =
    let bytes = c.args.bytes.now in
    let short = c.in_ok-short.short in
    let is = c.in_ok-short.ensures in
    rw c.from-len.ensures
    (positive_short bytes short.bits short.marked is (omega (arith, c.from.ensures, c.if-short-half.true))
    ∙ ap (λ n. Some (n, drop (1 + short.marked) bytes))
    (sym (same_signed c.from-then-short-half.result short.bits c.from-then-short-half.ensures (omega (arith, bits_small bytes short.bits short.marked is)))))

pub returns-else-short-half-clause-reads : goal.returns-else-short-half-clause-reads
returns-else-short-half-clause-reads c =
    let bytes = c.args.bytes.now in
    let short = c.in_ok-short.short in
    let is = c.in_ok-short.ensures in
    let half = 64 + 8128 * short.marked in
    rw c.from-len.ensures
    (negative_short bytes short.bits short.marked is (omega (arith, c.from.ensures, c.if-short-half.false))
    ∙ ap (λ n. Some (n, drop (1 + short.marked) bytes))
    (sym (less_signed c.from-else-short-half.result c.from-else-short-half-2.result short.bits half c.from-else-short-half.ensures (omega (arith, bits_small bytes short.bits short.marked is))
    (rw c.from.ensures at c.from-else-short-half-2.ensures) (omega (arith, is.few)))))
