use Rattle.std.proofs.Common.{◌+◌, arith}
use Rattle.bz_requests.proofs.FieldLemmas.{field_first, one_field, past_place}
use Rattle.bz_requests.proofs.field.cut.Goals as goal

pub returns-then-at-text-clause-none : goal.returns-then-at-text-clause-none
returns-then-at-text-clause-none c = one_field c.args.text.now (omega (arith, c.field_len-at.ensures.value, c.if-at-text.true))

pub returns-else-at-text-clause-some : goal.returns-else-at-text-clause-some
returns-else-at-text-clause-some c =
    let first = field_first c.args.text.now (omega (arith, c.field_len-at.ensures.value, c.field_len-at.ensures.bound, c.if-at-text.false)) in
    rw (past_place (c.field_len-at.result + 1) c.args.text.now, c.field_len-at.ensures.value) first
