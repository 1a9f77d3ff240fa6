use Rattle.std.proofs.Common.{ap, subst, sym, ◌∙◌}
use Rattle.std.specs.List.{slice_range}
use Rattle.bz_base.specs.Nearest.{IsTable}
use Rattle.bz_breakpad_table.specs.CallRanges.{call_start}
use Rattle.bz_breakpad_function.specs.Locations.{inlinee_at}
use Rattle.bz_breakpad_lines.specs.Table.{Function}
use Rattle.bz_breakpad_table.specs.declared.types.CallRange.{CallRange}
use Rattle.bz_breakpad_function.proofs.AsKept.{inlinee_same}
use Rattle.bz_breakpad_function.proofs.LocationLemmas.{inlinee_through}
use Rattle.bz_breakpad_function.proofs.function.Function.find_inlinee_at_depth.Goals as goal

pub returns : goal.returns
returns c =
    let function = c.self.inside.kept.now in
    let standing = slice_range c.self.inside.code.now.inlinees.items function.inlinees.from function.inlinees.to in
    let table = subst (λ items. IsTable (λ (r : CallRange). r.depth) call_start standing items) (sym c.inlinees_of.ensures) c.self.invariant.kept_as.inlinees.table in
    inlinee_through c.self.inside.bytes.now standing c.inlinees_of.result.now table c.args.depth c.args.addr c.inlinee_at.result c.inlinee_at.ensures
    ∙ inlinee_same _ _ c.self.invariant.nested.calls c.args.addr c.args.depth
    ∙ ap (λ (f : Function). inlinee_at c.args.depth c.args.addr f.inlinees) c.self.view_is
