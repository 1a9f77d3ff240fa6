use Rattle.std.proofs.Common.{map, refl, ap, ◌∙◌}
use Rattle.bz_breakpad.specs.InOrder.{lines_in_order}
use Rattle.bz_breakpad.specs.Lent.{inlinee_seen}
use Rattle.bz_canon.proofs.TextLaws.{function_written}
use Rattle.bz_canon.proofs.text.push_function.Goals as goal

pub returns-clause-ok : goal.returns-clause-ok
returns-clause-ok c =
    let calls = ap (map inlinee_seen) c.deref.ensures.value ∙ c.in_ok-inlinees.ensures.calls in
    function_written c.args.function.now c.args.text.now.items c.push_func.new.text.items c.push_inlinees.new.text.items c.push_lines_of.new.text.items
    (map inlinee_seen c.deref.result.now) (lines_in_order c.args.function.now) calls refl
    c.in_ok-push_func.ensures.ok c.in_ok-push_inlinees.ensures.ok c.in_ok-push_lines_of.ensures.ok
