use Rattle.std.proofs.Common.{sym, ap, subst, ◌∙◌}
use Rattle.bz_breakpad_lines.specs.Reader.{table_in}
use Rattle.bz_breakpad_table.specs.Sorted.{StandsFor}
use Rattle.bz_breakpad.specs.Inspect.{CalledInTurn}
use Rattle.bz_breakpad.proofs.InspectLemmas.{infos_are}
use Rattle.bz_breakpad.proofs.file.SymbolFile.each_info.Goals as goal

pub returns : goal.returns
returns g c =
    let kept = c.self.invariant in
    let called = c.each_info.ensures kept.table (subst (λ text. StandsFor text kept.table c.self.inside.table) (sym c.as_slice.ensures.value) kept.stands) in
    (called.0, subst (λ is. CalledInTurn g.F.FnMut c.args.f is called.0) (infos_are c.args.self.now kept.table (ap table_in (sym c.self.view_is) ∙ kept.read)) called.1)
