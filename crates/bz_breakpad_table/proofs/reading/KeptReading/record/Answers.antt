use Rattle.std.proofs.lemmas.Result.{on_ok_weaker}
use Rattle.bz_breakpad_table.proofs.NameEnds.{inner_stands, top_named}
use Rattle.bz_breakpad_table.proofs.reading.KeptReading.record.Goals as goal

pub returns-in-Top : goal.returns-in-Top
returns-in-Top c =
    on_ok_weaker c.top.result
    (λ kept body context reading stands end is so_far.
    let named = top_named context body c.in-Top.top (rw c.in-Top.is at is) in
    rw c.in-Top.is (kept c.args.bytes.now body c.args.start reading stands end named so_far))
    c.top.ensures

pub returns-in-OfFunc : goal.returns-in-OfFunc
returns-in-OfFunc c =
    on_ok_weaker c.inner.result
    (λ kept body context reading stands end is so_far.
    let at = inner_stands c.args.bytes.now c.args.start body context c.in-OfFunc.inner c.args.ranges.now stands (rw c.in-OfFunc.is at is) in
    rw c.in-OfFunc.is (kept body reading stands end at so_far))
    c.inner.ensures
