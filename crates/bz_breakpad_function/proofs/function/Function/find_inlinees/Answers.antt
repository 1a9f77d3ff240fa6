use Rattle.std.proofs.Common.{List, map, sym, ap, ◌∙◌}
use Rattle.std.specs.Borrow.{Bor}
use Rattle.std.proofs.lemmas.Result.{IfOk-weaker}
use Rattle.bz_breakpad_table.specs.Kept.{kept_call}
use Rattle.bz_breakpad_function.specs.Locations.{calls_around}
use Rattle.bz_breakpad_lines.specs.Table.{Function}
use Rattle.bz_breakpad_table.specs.declared.types.CallRange.{CallRange}
use Rattle.bz_breakpad_function.proofs.AsKept.{calls_same}
use Rattle.bz_breakpad_function.proofs.function.Function.find_inlinees.Goals as goal

pub returns-clause-calls : goal.returns-clause-calls
returns-clause-calls c =
    let bytes = c.self.inside.bytes.now in
    IfOk-weaker c.inlinees_at.result _ _
    (λ calls are.
    are
    ∙ ap (λ (lent : List (Bor CallRange)). map (λ call. kept_call bytes call.now) lent) c.deref.ensures.value
    ∙ c.in_ok-ranges.ensures
    ∙ sym (calls_same _ _ c.self.invariant.nested.calls c.args.addr)
    ∙ ap (λ (f : Function). calls_around c.args.addr f.inlinees) c.self.view_is)
    c.inlinees_at.ensures.calls
