use Rattle.std.proofs.Common.{◌∙◌, arith, sym}
use Rattle.bz_breakpad_table.proofs.RunGrowLemmas.{run_begins, run_goes_on}
use Rattle.bz_breakpad_table.proofs.standing.LinesSoFar.run_with.Goals as goal

pub returns-in-Empty : goal.returns-in-Empty
returns-in-Empty c bytes keys rest line is stands ends start_is fits =
    rw c.in-Empty.is (run_begins bytes keys rest c.args.part line c.in_ok-start.start is stands ends (sym c.in_ok-start.was ∙ start_is) (rw c.in-Empty.is at fits))

pub returns-in-Run : goal.returns-in-Run
returns-in-Run c bytes keys rest line is stands ends start_is fits =
    let fit = rw c.in-Run.is at fits in
    rw c.in-Run.is (run_goes_on bytes keys rest c.args.part line c.in_ok-start.start is stands ends (sym c.in_ok-start.was ∙ start_is)
    c.in-Run.run' c.in-Run.last fit.0 (omega (arith, c.if-run-part.true)) (c.is_below.ensures c.if-is_below.true) fit.1)
