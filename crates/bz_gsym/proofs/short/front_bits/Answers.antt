use Rattle.std.proofs.Common.{refl, arith}
use Rattle.bz_gsym.proofs.ShortLemmas.{short_is}
use Rattle.bz_gsym.proofs.short.front_bits.Goals as goal

pub returns : goal.returns
returns c =
    let bytes = c.args.bytes.now in
    short_is bytes _ _ c.if-bytes-lt2.false (c.type_inv.bytes 0).fits (omega (arith, c.min.ensures, c.if-min-ge128.false)) refl
    (rw (c.from.ensures, c.from-2.ensures, c.from-3.ensures) refl)
