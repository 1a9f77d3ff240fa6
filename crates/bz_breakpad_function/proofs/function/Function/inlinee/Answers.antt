use Rattle.std.proofs.Common.{List, length, refl, ap, arith, sym, ◌∙◌}
use Rattle.std.specs.List.{slice_get, slice_range}
use Rattle.bz_breakpad_function.specs.InOrder.{calls_in_order}
use Rattle.bz_breakpad_lines.specs.Table.{Function, Inlinee}
use Rattle.bz_breakpad_function.proofs.InOrderLemmas.{calls_kept, range_length, ranges_count}
use Rattle.bz_breakpad_function.proofs.function.Function.inlinee.Goals as goal

pub inlinee_at_index-requires-clause-within : goal.inlinee_at_index-requires-clause-within
inlinee_at_index-requires-clause-within c =
    let part = c.self.inside.kept.now.inlinees in
    let all = c.self.inside.code.now.inlinees.items in
    omega (
      arith,
      c.requires,
      range_length all part.from part.to c.self.invariant.kept_as.inlinees.within.within,
      ranges_count c.self.inside.bytes.now (slice_range all part.from part.to) _ _ c.self.invariant.nested refl,
      ap (λ (f : Function). length f.inlinees) c.self.view_is,
    )

pub returns : goal.returns
returns c =
    ap (λ (f : Function). slice_get (calls_in_order f) c.args.index) (sym c.self.view_is)
    ∙ ap (λ (calls : List Inlinee). slice_get calls c.args.index) (sym (calls_kept _ _ c.self.invariant.nested))
    ∙ c.inlinee_at_index.ensures
