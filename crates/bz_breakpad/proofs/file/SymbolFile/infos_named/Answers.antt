use Rattle.std.proofs.Common.{Ok, map, sym, ap, subst, ◌∙◌}
use Rattle.bz_base.specs.Answer.{Gives}
use Rattle.bz_breakpad_lines.specs.Reader.{table_in}
use Rattle.bz_breakpad_table.specs.Sorted.{StandsFor}
use Rattle.bz_breakpad.specs.Inspect.{info_of, named}
use Rattle.bz_breakpad.proofs.InspectLemmas.{infos_are}
use Rattle.bz_breakpad.proofs.file.SymbolFile.infos_named.Goals as goal

pub returns-clause-infos : goal.returns-clause-infos
returns-clause-infos c =
    let kept = c.self.invariant in
    subst (λ is. Gives (λ infos. map info_of infos.items) (Ok (named c.args.name.now is)) c.infos_named.result)
    (infos_are c.args.self.now kept.table (ap table_in (sym c.self.view_is) ∙ kept.read))
    (c.infos_named.ensures.infos kept.table (subst (λ text. StandsFor text kept.table c.self.inside.table) (sym c.as_slice.ensures.value) kept.stands))
