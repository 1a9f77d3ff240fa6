use Rattle.std.proofs.Common.{arith, ◌∙◌}
use Rattle.bz_convert.proofs.ApartLemmas.{changes_are, gap_out, rows_out}
use Rattle.bz_convert.proofs.rows.walk_apart.Goals as goal

pub returns-clause-rows : goal.returns-clause-rows
returns-clause-rows c =
    let s = c.loop-line in
    rows_out c.args.function.now c.args.lines.now c.requires.lines c.requires.apart s.line-index (omega (arith, c.loop-line-test.false)) c.addr-start.result _ c.addr-start.ensures (omega (arith, c.addr-start.ensures, c.from.ensures, c.size.ensures)) s.rows.items
    s.invariant.rows
    ∙ changes_are c.args.function.now c.args.lines.now c.requires.lines c.requires.apart c.requires.checked

pub returns-clause-gap : goal.returns-clause-gap
returns-clause-gap c =
    let s = c.loop-line in
    c.gap_before-gap-2.ensures
    ∙ gap_out c.args.function.now c.args.lines.now c.requires.lines c.requires.apart s.line-index (omega (arith, c.loop-line-test.false)) c.addr-start.result _ c.addr-start.ensures (omega (arith, c.addr-start.ensures, c.from.ensures, c.size.ensures)) s.gap s.reached
    s.invariant.gap
