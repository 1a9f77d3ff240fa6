use Rattle.std.proofs.Common.{◌∷◌, [], Ok, map, sym, ap, ◌∙◌, arith, take_all}
use Rattle.std.proofs.lemmas.List.{map-append}
use Rattle.bz_breakpad.specs.Inspect.{info_of, infos_of, named}
use Rattle.bz_breakpad.proofs.InspectLemmas.{infos_count, named_kept, named_pushed}
use Rattle.bz_breakpad.proofs.inspect.infos_named.Goals.{then-eq+in_ok-push, else-eq}
use Rattle.bz_breakpad.proofs.inspect.infos_named.Goals as goal

pub loop-index-preserved : goal.loop-index-preserved
loop-index-preserved c table stands =
    let at = c.loop-index in
    let given = c.info_at-info.result in
    let infos = infos_of table.functions in
    elim c.if-eq.branch [
      | then-eq+in_ok-push w ↦
          rw w.infos-is
          (ap (map info_of) w.in_ok-push.ensures.items
          ∙ map-append info_of at.infos.items (given ∷ [])
          ∙ named_pushed infos at.index (info_of given) (c.info_at-info.ensures table stands) c.args.name.now (map info_of at.infos.items) (at.invariant table stands) (sym c.eq.ensures ∙ w.if-eq.true))
      | else-eq w ↦
          rw w.infos-is
          (named_kept infos at.index (info_of given) (c.info_at-info.ensures table stands) c.args.name.now (map info_of at.infos.items) (at.invariant table stands) (sym c.eq.ensures ∙ w.if-eq.false))
    ]

pub returns-clause-infos : goal.returns-clause-infos
returns-clause-infos c table stands =
    let at = c.loop-index in
    ap Ok (sym (at.invariant table stands ∙ ap (named c.args.name.now) (take_all at.index (infos_of table.functions) (omega (arith, infos_count c.args.bytes.now table c.args.kept.now stands, c.args.kept.now.code.keys.ok.0, c.len-index-end.ensures, c.loop-index-test.false)))))
