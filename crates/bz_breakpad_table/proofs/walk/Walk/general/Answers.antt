use Rattle.bz_breakpad_table.proofs.MidwayLemmas.{line_stands, midway_on}
use Rattle.bz_breakpad_table.proofs.walk.Walk.general.Goals as goal

pub line-requires-clause-fits : goal.line-requires-clause-fits
line-requires-clause-fits c = c.requires.midway.walked.so_far.functions.lines_fit

pub returns-clause-ok : goal.returns-clause-ok
returns-clause-ok c =
    let m = c.requires.midway in
    let bytes = c.args.text.now in
    let rest = c.args.rest.now in
    let line = c.in-Some.line.now in
    let after = c.in-Some.after.now in
    let at = line_stands bytes rest line after c.in-Some.ensures.whole c.in-Some.ensures.no_line_feed m.within m.rest_is in
    midway_on bytes rest line after c.args.self.now c.line.new.self m c.in-Some.ensures.whole c.in-Some.ensures.some
    (c.in_ok-line.ensures.ok m.reading at m.walked) c.in_ok-line.ensures.few
