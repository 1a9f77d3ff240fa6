use Rattle.std.proofs.Common.{ap, ◌∙◌}
use Rattle.bz_base.specs.Cursor.{Reading}
use Rattle.bz_gsym.proofs.LineTableLemmas.{byte_passed, if_none}
use Rattle.bz_gsym.proofs.linetab.run_op.Goals as goal

pub returns-in_err-operator-clause-stands : goal.returns-in_err-operator-clause-stands
returns-in_err-operator-clause-stands c =
    if_none c.from_residual.result (byte_passed c.read_u8.result c.read_u8.new.self c.args.ops.now c.read_u8.ensures.none c.read_u8.ensures.reads)

pub returns-in_err-came-clause-stands : goal.returns-in_err-came-clause-stands
returns-in_err-came-clause-stands c =
    if_none c.from_residual-in_err-came.result
    (ap (λ (r : Reading). r.left) c.in_err-came.ensures.none
    ∙ byte_passed c.read_u8.result c.read_u8.new.self c.args.ops.now c.read_u8.ensures.none c.read_u8.ensures.reads)
