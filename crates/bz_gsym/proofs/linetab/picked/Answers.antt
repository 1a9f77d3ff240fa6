use Rattle.std.proofs.Common.{◌∙◌}
use Rattle.bz_gsym.specs.LineTable.{states}
use Rattle.bz_gsym.proofs.LineTableLaws.{picked_early}
use Rattle.bz_gsym.proofs.LineTableLemmas.{and_there, at_end, at_none, at_row, past_row, past_state}
use Rattle.bz_gsym.proofs.linetab.picked.Goals as goal
use Rattle.bz_gsym.proofs.linetab.picked.Goals.{in-Some+in-End, in_default}

pub loop-came-preserved-in-Ok : goal.loop-came-preserved-in-Ok
loop-came-preserved-in-Ok c =
    past_state c.args.header.now c.args.addr c.loop-came.last c.loop-came.row c.run_op.new.row c.loop-came.ops.left c.run_op.new.ops.left (rw c.in-Ok.is at c.in-Some.ensures.runs)
    ∙ c.loop-came.invariant

pub loop-came-preserved : goal.loop-came-preserved
loop-came-preserved c =
    c.run_rows.ensures.goes_on c.if-run_rows.false
    ∙ past_row c.args.header.now c.args.addr c.loop-came.last c.loop-came.row c.run_op.new.row c.loop-came.ops.left c.run_op.new.ops.left (rw c.in-NewRow.is at c.in-Some.ensures.runs) c.if-addr-row.false
    ∙ c.loop-came.invariant

pub returns-then-run_rows : goal.returns-then-run_rows
returns-then-run_rows c =
    c.run_rows.ensures.ends c.if-run_rows.true
    ∙ past_row c.args.header.now c.args.addr c.loop-came.last c.loop-came.row c.run_op.new.row c.loop-came.ops.left c.run_op.new.ops.left (rw c.in-NewRow.is at c.in-Some.ensures.runs) c.if-addr-row.false
    ∙ c.loop-came.invariant
    ∙ picked_early c.args.addr c.args.first (states c.args.header.now c.args.first c.args.ops.now.left)

pub returns-then-addr-row : goal.returns-then-addr-row
returns-then-addr-row c =
    at_row c.args.header.now c.args.addr c.loop-came.last c.loop-came.row c.run_op.new.row c.loop-came.ops.left c.run_op.new.ops.left (rw c.in-NewRow.is at c.in-Some.ensures.runs) c.if-addr-row.true
    ∙ c.loop-came.invariant
    ∙ picked_early c.args.addr c.args.first (states c.args.header.now c.args.first c.args.ops.now.left)

pub returns : goal.returns
returns c =
    c.and.ensures
    ∙ and_there c.loop-came.last _
    ∙ elim c.match-run_op.branch [
      | in-Some+in-End w ↦ at_end c.args.header.now c.args.addr c.loop-came.last c.loop-came.row c.run_op.new.row c.loop-came.ops.left c.run_op.new.ops.left (rw w.in-End.is at w.in-Some.ensures.runs)
      | in_default w ↦ at_none c.args.header.now c.args.addr c.loop-came.last c.loop-came.row c.run_op.new.row c.loop-came.ops.left c.run_op.new.ops.left w.in_default.ensures.runs w.in_default.ensures.none
    ]
    ∙ c.loop-came.invariant
    ∙ picked_early c.args.addr c.args.first (states c.args.header.now c.args.first c.args.ops.now.left)
