use Rattle.std.proofs.Common.{◌-◌, sym, ◌∙◌, arith}
use Rattle.std.proofs.lemmas.Bool.{eqb-false}
use Rattle.bz_base.specs.Starts.{AreFew}
use Rattle.bz_breakpad.proofs.ProbeLemmas.{functions_alone, with_publics}
use Rattle.bz_breakpad.proofs.find.Searched.record_at.Goals as goal

pub returns-in-Some-clause-probes : goal.returns-in-Some-clause-probes
returns-in-Some-clause-probes g c bytes table stands =
    functions_alone bytes table c.args.self.now.kept.now stands c.args.self.now.starts.now c.requires.searched.starts c.args.self.now.publics.now c.requires.searched.publics AreFew _ c.nearest.ensures.few (omega arith)

pub returns-clause-probes : goal.returns-clause-probes
returns-clause-probes g c bytes table stands =
    let kept = c.args.self.now.kept.now in
    let first = c.nearest.new.steps in
    let last = c.nearest-2.new.steps in
    with_publics bytes table kept stands c.args.self.now.starts.now c.requires.searched.starts c.args.self.now.publics.now c.requires.searched.publics AreFew _
    (first - c.args.steps.now) (last - first) (omega (arith, c.nearest.ensures.more, c.nearest-2.ensures.more))
    (omega (arith, kept.publics.ok.0, eqb-false _ 0 (sym c.is_empty.ensures ∙ c.if-is_empty.false)))
    c.nearest.ensures.few c.nearest-2.ensures.few
