use Rattle.std.proofs.Common.{◌≡◌, ◌-◌, length, refl, ap}
use Rattle.bz_breakpad_lines.specs.Told.{context_told, inner_told}
use Rattle.bz_breakpad_lines.specs.Contexts.Context.{InFunc}
use Rattle.bz_breakpad_lines.specs.Contexts.Record.{OfFunc}
use Rattle.bz_breakpad_lines.specs.declared.record.InnerLine.TheVariants as inners
use Rattle.bz_breakpad_table.proofs.KeptLemmas.{with_functions}
use Rattle.bz_breakpad_table.proofs.FunctionLemmas.{told_said}
use Rattle.bz_breakpad_table.proofs.NameEnds.{inner_stands}
use Rattle.bz_breakpad_table.proofs.QuickStep.{quick_on, quick_stands}
use Rattle.bz_breakpad_lines.proofs.QuickLemmas.{quick_shorter}
use Rattle.bz_breakpad_table.proofs.walk.Walk.inline.Goals as goal

pub returns-clause-ok : goal.returns-clause-ok
returns-clause-ok c =
    let m = c.requires.midway in
    let bytes = c.args.text.now in
    let rest = c.args.rest.now in
    let old = c.args.self.now in
    let call = c.in-Some.call in
    let ranges = c.inline_line.new.ranges.items in
    let in_func : context_told old.context ≡ InFunc = ap context_told c.in-InFunc.is in
    let so_far = m.walked.so_far in
    let p = rw c.in-Some.is at c.in_ok-call.ensures in
    let record_is = OfFunc (inner_told (inners.Inline call) ranges) in
    let after = c.in-Some.after.now in
    let stands = quick_stands InFunc rest record_is after p bytes m.within m.rest_is in
    let reads = inner_stands bytes (length bytes - length rest) p.line InFunc (inners.Inline call) ranges stands p.reads in
    quick_on InFunc rest record_is after p bytes old _ m refl in_func in_func refl refl
    (rw (told_said call ranges) (with_functions so_far (rw c.as_slice.ensures.value at (c.in_ok-inline.ensures bytes m.reading.closed m.reading.current reads so_far.functions))))

pub returns-clause-shorter : goal.returns-clause-shorter
returns-clause-shorter c =
    quick_shorter InFunc c.args.rest.now (OfFunc (inner_told (inners.Inline c.in-Some.call) c.inline_line.new.ranges.items)) c.in-Some.after.now (rw c.in-Some.is at c.in_ok-call.ensures)
