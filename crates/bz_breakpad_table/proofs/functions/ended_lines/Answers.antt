use Rattle.std.proofs.Common.{arith, ap, ◌∙◌, ◌++◌}
use Rattle.bz_breakpad_table.specs.LineKeys.{places_of}
use Rattle.bz_breakpad_table.proofs.LineKeyLemmas.{keys_sorted, listed_ended, run_ended}
use Rattle.bz_breakpad_table.proofs.functions.ended_lines.Goals as goal

pub returns-in-Run-clause-ended : goal.returns-in-Run-clause-ended
returns-in-Run-clause-ended c bytes fits =
    let fit = rw c.in-Run.is at fits in
    rw c.in-Run.is (run_ended bytes c.args.places.now.items c.args.keys.now.items c.in-Run.run' c.in-Run.field-1 fit.0)

pub returns-in_ok-new-in-Listed-clause-fit : goal.returns-in_ok-new-in-Listed-clause-fit
returns-in_ok-new-in-Listed-clause-fit c bytes fits =
    rw c.in-Listed.is (keys_sorted bytes c.args.keys.now.items c.sort_table.new.records.items c.in_ok-sort_table-in-Listed.ensures.table (rw c.in-Listed.is at fits))

pub returns-in_ok-new-in-Listed-clause-ended : goal.returns-in_ok-new-in-Listed-clause-ended
returns-in_ok-new-in-Listed-clause-ended c bytes fits =
    let places = c.args.places.now in
    let part = c.in_ok-new-in-Listed.ensures in
    rw c.in-Listed.is
    (listed_ended bytes places.items c.keep_places.new.places.items c.args.keys.now.items c.sort_table.new.records.items c.in_ok-new-in-Listed.field-0
    c.in_ok-sort_table-in-Listed.ensures.table c.in_ok-sort_table-in-Listed.ensures.ascending
    (c.in_ok-keep_places-in-Listed.ensures ∙ ap (λ keys. places.items ++ places_of keys) c.deref.ensures.value)
    (omega (arith, part.from, c.len-from.ensures, places.ok.0)) (omega (arith, part.to, c.len.ensures, c.keep_places.new.places.ok.0)) (rw c.in-Listed.is at fits))
