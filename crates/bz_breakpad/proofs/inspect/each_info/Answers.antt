use Rattle.std.proofs.Common.{refl, subst, of_calls, arith}
use Rattle.std.specs.Fn.{CalledAt}
use Rattle.std.proofs.lemmas.Fn.{called_at}
use Rattle.bz_breakpad.specs.Inspect.{infos_of}
use Rattle.bz_breakpad.proofs.InspectLemmas.{goes_on, infos_count, none_left, stops}
use Rattle.bz_breakpad.proofs.inspect.each_info.Goals as goal

pub loop-index-preserved : goal.loop-index-preserved
loop-index-preserved g c = (
  search of_calls,
  λ table stands last rest.
      let at = c.loop-index in
      let given = c.info_at-info.result in
      at.invariant.1 table stands last
      (goes_on (infos_of table.functions) at.index _ (c.info_at-info.ensures table stands) g.F.FnMut at.f c.f.new.self
      (given, refl, subst (λ b. CalledAt g.F.FnMut at.f given b c.f.new.self) c.if-not-f.false (called_at g.F.FnMut c.f.ensures refl)) last rest),
)

pub returns-then-not-f : goal.returns-then-not-f
returns-then-not-f g c table stands =
    let at = c.loop-index in
    let given = c.info_at-info.result in (
      c.f.new.self,
      at.invariant.1 table stands c.f.new.self
          (stops (infos_of table.functions) at.index _ (c.info_at-info.ensures table stands) g.F.FnMut at.f c.f.new.self
          (given, refl, subst (λ b. CalledAt g.F.FnMut at.f given b c.f.new.self) c.if-not-f.true (called_at g.F.FnMut c.f.ensures refl))),
    )

pub returns : goal.returns
returns g c table stands =
    let at = c.loop-index in
    (at.f, at.invariant.1 table stands at.f (none_left g.F.FnMut at.f (infos_of table.functions) at.index (omega (arith, infos_count c.args.bytes.now table c.args.kept.now stands, c.args.kept.now.code.keys.ok.0, c.len-index-end.ensures, c.loop-index-test.false))))
