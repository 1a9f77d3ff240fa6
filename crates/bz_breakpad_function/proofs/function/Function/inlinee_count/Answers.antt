use Rattle.std.proofs.Common.{length, refl, ap, ◌∙◌}
use Rattle.std.specs.List.{slice_range}
use Rattle.bz_breakpad_lines.specs.Table.{Function}
use Rattle.bz_breakpad_function.proofs.InOrderLemmas.{ranges_count}
use Rattle.bz_breakpad_function.proofs.function.Function.inlinee_count.Goals as goal

pub returns : goal.returns
returns c =
    let part = c.self.inside.kept.now.inlinees in
    ap length c.inlinees_of.ensures
    ∙ ranges_count c.self.inside.bytes.now (slice_range c.self.inside.code.now.inlinees.items part.from part.to) _ _ c.self.invariant.nested refl
    ∙ ap (λ (f : Function). length f.inlinees) c.self.view_is
