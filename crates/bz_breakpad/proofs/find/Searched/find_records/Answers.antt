use Rattle.std.proofs.Common.{◌≤◌, ◌<◌, ◌-◌, ℕ, List, length, ap, sym, ◌∙◌, arith}
use Rattle.std.proofs.lemmas.Bool.{eqb-false, eqb-true}
use Rattle.bz_breakpad.specs.Probes.{AreFewSteps, AreProbes}
use Rattle.bz_breakpad.specs.Searched.{IsSearched}
use Rattle.bz_breakpad.specs.declared.find.Searched.{Searched}
use Rattle.bz_breakpad_lines.specs.Table.{Table}
use Rattle.bz_breakpad_table.specs.Sorted.{StandsFor}
use Rattle.bz_breakpad.proofs.FoundLemmas.{no_publics_for, none_for_left}
use Rattle.bz_breakpad.proofs.ProbeLemmas.{functions_alone, more_addresses, none_few, with_publics}
use Rattle.bz_breakpad.proofs.find.Searched.find_records.Goals as goal

module _ (s : Searched) (is : IsSearched s) (bytes : List ℕ) (table : Table) (stands : StandsFor bytes table s.kept.now) (addrs : ℕ) where
  -- functions alone were searched
  functions_probed : (probes : ℕ) → AreProbes probes addrs (length s.starts.now) → AreFewSteps table addrs probes
  functions_probed probes few =
      functions_alone bytes table s.kept.now stands s.starts.now is.starts s.publics.now is.publics (λ probes starts. AreProbes probes addrs starts) probes few
      (none_few addrs (length s.publics.now.starts))

  -- PUBLIC records were searched too, for the addresses that were left
  both_probed : (old first last left : ℕ) → old ≤ first → first ≤ last → 0 < length s.kept.now.publics.items → left ≤ addrs →
      AreProbes (first - old) addrs (length s.starts.now) → AreProbes (last - first) left (length s.publics.now.starts) → AreFewSteps table addrs (last - old)
  both_probed old first last left more more_yet some fewer few few_left =
      with_publics bytes table s.kept.now stands s.starts.now is.starts s.publics.now is.publics (λ probes starts. AreProbes probes addrs starts) (last - old)
      (first - old) (last - first) (omega (arith, more, more_yet)) some few (more_addresses (last - first) left addrs (length s.publics.now.starts) fewer few_left)

pub returns-in_err-places-clause-probes : goal.returns-in_err-places-clause-probes
returns-in_err-places-clause-probes g c bytes table stands =
    functions_probed c.args.self.now c.requires.searched bytes table stands (length c.args.addrs.now) _
    (record { swept = c.nearest_each.ensures.swept; searched = c.nearest_each.ensures.searched })

pub returns-in_err-found-clause-probes : goal.returns-in_err-found-clause-probes
returns-in_err-found-clause-probes g c bytes table stands =
    functions_probed c.args.self.now c.requires.searched bytes table stands (length c.args.addrs.now) _
    (record { swept = c.nearest_each.ensures.swept; searched = c.nearest_each.ensures.searched })

pub returns-then-is_empty-clause-records : goal.returns-then-is_empty-clause-records
returns-then-is_empty-clause-records g c bytes table stands =
    let found = c.in_ok-found in
    none_for_left table c.args.addrs.now found.found.records.items found.found.left.items (found.ensures.uncovered bytes table stands)
    (λ addr no_function. no_publics_for bytes table c.args.self.now.kept.now stands addr no_function
    (omega (arith, c.args.self.now.kept.now.publics.ok.0, eqb-true _ 0 (sym c.is_empty.ensures ∙ c.if-is_empty.true))))
    found.ensures.count (found.ensures.functions bytes table stands)

pub returns-then-is_empty-clause-probes : goal.returns-then-is_empty-clause-probes
returns-then-is_empty-clause-probes g c bytes table stands =
    functions_probed c.args.self.now c.requires.searched bytes table stands (length c.args.addrs.now) _
    (record { swept = c.nearest_each.ensures.swept; searched = c.nearest_each.ensures.searched })

pub returns-in_err-public_places-clause-probes : goal.returns-in_err-public_places-clause-probes
returns-in_err-public_places-clause-probes g c bytes table stands =
    both_probed c.args.self.now c.requires.searched bytes table stands (length c.args.addrs.now) _ _ _ _ c.nearest_each.ensures.more c.nearest_each-2.ensures.more
    (omega (arith, c.args.self.now.kept.now.publics.ok.0, eqb-false _ 0 (sym c.is_empty.ensures ∙ c.if-is_empty.false)))
    (omega (arith, ap length c.deref-2.ensures.value, c.in_ok-found.ensures.fewer))
    (record { swept = c.nearest_each.ensures.swept; searched = c.nearest_each.ensures.searched })
    (record { swept = c.nearest_each-2.ensures.swept; searched = c.nearest_each-2.ensures.searched })

pub returns-clause-probes : goal.returns-clause-probes
returns-clause-probes g c bytes table stands =
    both_probed c.args.self.now c.requires.searched bytes table stands (length c.args.addrs.now) _ _ _ _ c.nearest_each.ensures.more c.nearest_each-2.ensures.more
    (omega (arith, c.args.self.now.kept.now.publics.ok.0, eqb-false _ 0 (sym c.is_empty.ensures ∙ c.if-is_empty.false)))
    (omega (arith, ap length c.deref-2.ensures.value, c.in_ok-found.ensures.fewer))
    (record { swept = c.nearest_each.ensures.swept; searched = c.nearest_each.ensures.searched })
    (record { swept = c.nearest_each-2.ensures.swept; searched = c.nearest_each-2.ensures.searched })
