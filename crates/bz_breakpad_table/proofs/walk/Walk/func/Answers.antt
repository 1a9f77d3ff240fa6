use Rattle.std.proofs.Common.{◌-◌, length, refl, arith}
use Rattle.bz_breakpad_lines.specs.Told.{context_told, top_told}
use Rattle.bz_breakpad_lines.specs.Contexts.Record.{Top}
use Rattle.bz_breakpad_lines.specs.declared.record.TopLine.TheVariants as tops
use Rattle.bz_breakpad_table.proofs.KeptLemmas.{with_functions}
use Rattle.bz_breakpad_table.proofs.NameEnds.{top_named}
use Rattle.bz_breakpad_table.proofs.QuickStep.{quick_on, quick_stands}
use Rattle.bz_breakpad_lines.proofs.QuickLemmas.{quick_length}
use Rattle.bz_breakpad_table.proofs.walk.Walk.func.Goals as goal

pub returns-clause-ok : goal.returns-clause-ok
returns-clause-ok c =
    let m = c.requires.midway in
    let bytes = c.args.text.now in
    let rest = c.args.rest.now in
    let after = c.in-Some.after.now in
    let context = context_told c.args.self.now.context in
    let func = tops.Func c.in-Some.func in
    let p = c.in-Some.ensures.quick context in
    let so_far = m.walked.so_far in
    let stands = quick_stands context rest (Top (top_told func)) after p bytes m.within m.rest_is in
    let long = quick_length context rest (Top (top_told func)) after p in
    let named =
    c.in_ok-name.ensures bytes p.line (length bytes - length rest) stands (omega (arith, m.within, long)) (top_named context p.line func p.reads) in
    let closed = c.in_ok-close.ensures bytes m.reading.closed m.reading.current so_far.functions in
    quick_on context rest (Top (top_told func)) after p bytes c.args.self.now _ m refl refl refl refl refl (with_functions so_far (c.begin.ensures bytes _ named closed))
