use Rattle.std.proofs.Common.{[], ap, arith, map, if◌then◌else◌, ◌∙◌}
use Rattle.bz_breakpad.specs.Lent.{inlinee_seen}
use Rattle.bz_breakpad_function.specs.InOrder.{calls_in_order}
use Rattle.bz_convert.proofs.LaidLemmas.{laid_checked, laid_some, some_rows}
use Rattle.bz_gsym_layout.proofs.ListingLemmas.{if_ok}
use Rattle.bz_convert.proofs.conversion.calls.calls_of.Goals as goal

pub returns : goal.returns
returns c =
    if_ok c.sized_calls.result _ _
    (λ calls is f apart are.
    let some = some_rows f c.args.found.now are (λ none. grind (arith, none, c.is_empty.ensures, c.if-is_empty.false)) in
    let checked = laid_checked f some in
    is f (apart checked) (ap (map inlinee_seen) c.deref.ensures.value ∙ (are.calls ∙ ap (λ b. if b then calls_in_order f else []) checked)) ∙ laid_some f some)
    c.sized_calls.ensures
