use Rattle.std.proofs.Common.{◌≡◌, refl, ap}
use Rattle.std.proofs.lemmas.List.{take_rest}
use Rattle.bz_breakpad_lines.specs.Told.{context_told}
use Rattle.bz_breakpad_lines.specs.Contexts.Context.{InFunc}
use Rattle.bz_breakpad_table.proofs.KeptLemmas.{with_functions}
use Rattle.bz_breakpad_table.proofs.LineRecordLemmas.{line_on}
use Rattle.bz_breakpad_table.proofs.walk.Walk.lines.Goals as goal

pub line-requires-clause-fits : goal.line-requires-clause-fits
line-requires-clause-fits c = c.requires.midway.walked.so_far.functions.lines_fit

pub run_on-requires-clause-midway : goal.run_on-requires-clause-midway
run_on-requires-clause-midway c =
    let m = c.requires.midway in
    let bytes = c.args.text.now in
    let rest = c.args.rest.now in
    let old = c.args.self.now in
    let line = c.in-Some.line in
    let p = c.in-Some.ensures.quick in
    let in_func : context_told old.context ≡ InFunc = ap context_told c.in-InFunc.is in
    let so_far = m.walked.so_far in
    rw (take_rest rest line.len) (line_on rest line p bytes old _ m in_func in_func refl refl (with_functions so_far (c.in_ok-line.ensures m.reading.closed m.reading.current rest p m.rest_is so_far.functions)))

pub run_on-requires-clause-stops : goal.run_on-requires-clause-stops
run_on-requires-clause-stops c =
    rw (take_rest c.args.rest.now c.in-Some.line.len) (c.after.ensures c.args.rest.now c.at_front-stops.ensures)
