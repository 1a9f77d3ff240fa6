use Rattle.std.proofs.Common.{◌∙◌, ◌+◌, ◌*◌, ◌-◌, Some, drop, ap, sym, arith}
use Rattle.std.proofs.lemmas.Int.{ints, to_z_pos}
use Rattle.std.specs.Int.{w64}
use Rattle.bz_bytes.specs.Leb128.{IsInParts}
use Rattle.bz_bytes.proofs.LebValueLemmas.{exactly, weight_fits, positive_fits, positive_read, positive_refused, negative_read, negative_refused, has_below, below_is, below_fits, below_zero}
use Rattle.bz_bytes.proofs.leb128.long_signed.Goals as goal

pub returns-in_err-parts-clause-reads : goal.returns-in_err-parts-clause-reads
returns-in_err-parts-clause-reads c = rw c.from_residual.ensures (sym c.in_err-parts.ensures.none.signed)

pub returns-then-last-ne0-clause-reads : goal.returns-then-last-ne0-clause-reads
returns-then-last-ne0-clause-reads c =
    let p = c.in_ok-parts.parts in
    let last = c.from-last.result in
    let parts : IsInParts c.args.bytes.now p.low p.weight last p.len = rw c.from-last.ensures c.in_ok-parts.ensures.parts in
    positive_refused c.args.bytes.now p.low p.weight last p.len parts c.if-last-lt64.true c.if-parts-eq10.true c.if-last-ne0.true

pub overflow_mul-result : goal.overflow_mul-result
overflow_mul-result c =
    let p = c.in_ok-parts.parts in
    let last = c.from-last.result in
    let parts : IsInParts c.args.bytes.now p.low p.weight last p.len = rw c.from-last.ensures c.in_ok-parts.ensures.parts in
    let none = exactly p.len last 0 c.else-parts-eq10.either in
    omega (arith, positive_fits c.args.bytes.now p.low p.weight last p.len parts c.if-last-lt64.true none)

pub overflow_add-result : goal.overflow_add-result
overflow_add-result c =
    let p = c.in_ok-parts.parts in
    let last = c.from-last.result in
    let parts : IsInParts c.args.bytes.now p.low p.weight last p.len = rw c.from-last.ensures c.in_ok-parts.ensures.parts in
    let none = exactly p.len last 0 c.else-parts-eq10.either in
    omega (arith, positive_fits c.args.bytes.now p.low p.weight last p.len parts c.if-last-lt64.true none)

pub overflow_cast-result : goal.overflow_cast-result
overflow_cast-result c =
    let p = c.in_ok-parts.parts in
    let last = c.from-last.result in
    let parts : IsInParts c.args.bytes.now p.low p.weight last p.len = rw c.from-last.ensures c.in_ok-parts.ensures.parts in
    let none = exactly p.len last 0 c.else-parts-eq10.either in
    omega (arith, ints, positive_fits c.args.bytes.now p.low p.weight last p.len parts c.if-last-lt64.true none)

pub returns-then-last-lt64-clause-reads : goal.returns-then-last-lt64-clause-reads
returns-then-last-lt64-clause-reads c =
    let p = c.in_ok-parts.parts in
    let last = c.from-last.result in
    let parts : IsInParts c.args.bytes.now p.low p.weight last p.len = rw c.from-last.ensures c.in_ok-parts.ensures.parts in
    let none = exactly p.len last 0 c.else-parts-eq10.either in
    ap (λ n. Some (n, drop p.len c.args.bytes.now)) (to_z_pos w64 (p.low + p.weight * last) (positive_fits c.args.bytes.now p.low p.weight last p.len parts c.if-last-lt64.true none))
    ∙ positive_read c.args.bytes.now p.low p.weight last p.len parts c.if-last-lt64.true none

pub returns-then-last-ne127-clause-reads : goal.returns-then-last-ne127-clause-reads
returns-then-last-ne127-clause-reads c =
    let p = c.in_ok-parts.parts in
    let last = c.from-last.result in
    let parts : IsInParts c.args.bytes.now p.low p.weight last p.len = rw c.from-last.ensures c.in_ok-parts.ensures.parts in
    negative_refused c.args.bytes.now p.low p.weight last p.len parts c.if-last-lt64.false c.if-parts-eq10-2.true c.if-last-ne127.true

pub overflow_mul-below : goal.overflow_mul-below
overflow_mul-below c =
    let p = c.in_ok-parts.parts in
    let last = c.from-last.result in
    let parts : IsInParts c.args.bytes.now p.low p.weight last p.len = rw c.from-last.ensures c.in_ok-parts.ensures.parts in
    let ones = exactly p.len last 127 c.else-parts-eq10-2.either in
    omega (arith, parts.small, weight_fits c.args.bytes.now p.low p.weight last p.len parts, below_fits c.args.bytes.now p.low p.weight last p.len parts c.if-last-lt64.false ones)

pub overflow_cast-result-2 : goal.overflow_cast-result-2
overflow_cast-result-2 c =
    let p = c.in_ok-parts.parts in
    let last = c.from-last.result in
    let parts : IsInParts c.args.bytes.now p.low p.weight last p.len = rw c.from-last.ensures c.in_ok-parts.ensures.parts in
    let ones = exactly p.len last 127 c.else-parts-eq10-2.either in
    omega (arith, ints, below_fits c.args.bytes.now p.low p.weight last p.len parts c.if-last-lt64.false ones)

pub returns-clause-reads : goal.returns-clause-reads
returns-clause-reads c =
    let p = c.in_ok-parts.parts in
    let last = c.from-last.result in
    let parts : IsInParts c.args.bytes.now p.low p.weight last p.len = rw c.from-last.ensures c.in_ok-parts.ensures.parts in
    let ones = exactly p.len last 127 c.else-parts-eq10-2.either in
    let less = p.weight * (128 - last) - p.low in
    ap (λ n. Some (n, drop p.len c.args.bytes.now)) (below_zero (p.low + p.weight * last) less _ (below_is c.args.bytes.now p.low p.weight last p.len parts) (omega (arith, has_below c.args.bytes.now p.low p.weight last p.len parts)) (below_fits c.args.bytes.now p.low p.weight last p.len parts c.if-last-lt64.false ones))
    ∙ negative_read c.args.bytes.now p.low p.weight last p.len parts c.if-last-lt64.false ones
