use Rattle.std.proofs.Common.{List, map, ap, ◌∙◌}
use Rattle.bz_breakpad_function.specs.InOrder.{calls_in_order}
use Rattle.bz_breakpad_table.specs.Kept.{kept_call}
use Rattle.bz_breakpad_table.specs.declared.types.CallRange.{CallRange}
use Rattle.bz_breakpad_function.proofs.InOrderLemmas.{calls_kept}
use Rattle.bz_breakpad_function.proofs.function.Function.inlinees.Goals as goal

pub returns-clause-calls : goal.returns-clause-calls
returns-clause-calls c =
    c.in_ok-calls.ensures
    ∙ ap (λ (ranges : List CallRange). map (kept_call c.self.inside.bytes.now) ranges) c.inlinees_of.ensures
    ∙ calls_kept _ _ c.self.invariant.nested
    ∙ ap calls_in_order c.self.view_is
