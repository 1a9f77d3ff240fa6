use Rattle.std.proofs.Common.{◌∙◌, Some, drop, ap, arith}
use Rattle.std.specs.List.{slice_index}
use Rattle.std.proofs.lemmas.Int.{ints}
use Rattle.bz_bytes.proofs.LebByteLemmas.{positive_byte, negative_byte, same_signed, less_signed}
use Rattle.bz_bytes.proofs.leb128.signed.Goals as goal

pub returns-then-bits-lt64-clause-reads : goal.returns-then-bits-lt64-clause-reads
returns-then-bits-lt64-clause-reads c =
    let bytes = c.args.bytes.now in
    let is = c.from-bits.ensures in
    ap (λ n. Some (n, drop 1 bytes)) (same_signed c.from-bits.result (slice_index bytes 0) is c.if-bytes-lt128.true)
    ∙ positive_byte bytes c.if-bytes-gt0.true (omega (arith, ints, is, c.if-bits-lt64.true))

pub returns-then-bytes-lt128-clause-reads : goal.returns-then-bytes-lt128-clause-reads
returns-then-bytes-lt128-clause-reads c =
    let bytes = c.args.bytes.now in
    let is = c.from-bits.ensures in
    ap (λ n. Some (n, drop 1 bytes)) (less_signed c.from-bits.result (slice_index bytes 0) is c.if-bytes-lt128.true)
    ∙ negative_byte bytes c.if-bytes-gt0.true c.if-bytes-lt128.true (omega (arith, ints, is, c.if-bits-lt64.false))
