use Rattle.std.proofs.Common.{◌≡◌, refl, ap}
use Rattle.bz_breakpad_lines.specs.Told.{context_told}
use Rattle.bz_breakpad_lines.specs.Contexts.Context.{InCfi}
use Rattle.bz_breakpad_lines.specs.Contexts.Record.{OfCfi}
use Rattle.bz_breakpad_table.proofs.KeptLemmas.{with_functions}
use Rattle.bz_breakpad_table.proofs.QuickStep.{quick_on}
use Rattle.bz_breakpad_lines.proofs.QuickLemmas.{quick_shorter}
use Rattle.bz_breakpad_table.proofs.walk.Walk.cfi.Goals as goal

pub returns-clause-ok : goal.returns-clause-ok
returns-clause-ok c =
    let m = c.requires.midway in
    let old = c.args.self.now in
    let in_cfi : context_told old.context ≡ InCfi = ap context_told c.in-InCfi.is in
    quick_on InCfi c.args.rest.now OfCfi c.in_ok-after.after.now c.in_ok-after.ensures c.args.text.now old _ m refl in_cfi in_cfi refl refl (with_functions m.walked.so_far m.walked.so_far.functions)

pub returns-clause-shorter : goal.returns-clause-shorter
returns-clause-shorter c = quick_shorter InCfi c.args.rest.now OfCfi c.in_ok-after.after.now c.in_ok-after.ensures
