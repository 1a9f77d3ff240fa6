use Rattle.std.proofs.Common.{◌≡◌, ◌+◌, Some, sym, ap, ◌∙◌, arith}
use Rattle.std.proofs.lemmas.List.{take_rest}
use Rattle.bz_breakpad_lines.specs.Stops.{number_between}
use Rattle.bz_breakpad_lines.specs.Contexts.Context.{Outside}
use Rattle.bz_breakpad_lines.proofs.AsciiLemmas.{plain_utf8}
use Rattle.bz_breakpad_lines.proofs.QuickLemmas.{func_found, quick_shorter}
use Rattle.bz_breakpad_lines.proofs.func.func_line.Goals as goal

pub from_utf8_unchecked-name-requires : goal.from_utf8_unchecked-name-requires
from_utf8_unchecked-name-requires c = plain_utf8 c.in_ok-line.line.now c.in_ok-line.ensures.bytes

pub returns-clause-quick : goal.returns-clause-quick
returns-clause-quick c context =
    let shown = c.in_ok-shown in
    let fields = shown.shown.text.now in
    let start = c.in_ok-start in
    let size = c.in_ok-size in
    let parameter = c.in_ok-parameter_size in
    let line = c.in_ok-line in
    let name_is = c.from_utf8_unchecked-name.ensures in
    let func_start : c.from.result ≡ number_between 16 fields 0 start.start = omega (arith, c.hex.ensures) in
    func_found context c.args.text.now fields line.rest.now (record { start = c.from.result; size = c.hex-2.result; parameter_size = c.hex-3.result; name = c.from_utf8_unchecked-name.result })
    start.start size.size parameter.parameter_size (ap (λ t. Some (tt, t)) shown.ensures.text ∙ c.in_ok-fields.ensures)
    start.ensures size.ensures.space size.ensures.digits parameter.ensures.space parameter.ensures.digits (omega arith)
    (rw name_is (sym c.begins_blank.ensures ∙ c.if-begins_blank.false)) (rw name_is (rw (take_rest fields (parameter.parameter_size + 1)) at line.ensures))
    func_start c.hex-2.ensures c.hex-3.ensures

pub returns-clause-shorter : goal.returns-clause-shorter
returns-clause-shorter c = quick_shorter Outside c.args.text.now _ _ (returns-clause-quick c Outside)
