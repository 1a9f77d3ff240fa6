use Rattle.std.proofs.Common.{ap, is_some, sym, ◌∙◌, arith}
use Rattle.std.specs.Option.{option_copied_mut}
use Rattle.std.proofs.lemmas.Bool.{false≢true}
use Rattle.std.proofs.lemmas.Bool.Decides.{nat_tests}
use Rattle.bz_cache.specs.Counts.{one_fewer}
use Rattle.bz_cache.specs.declared.file_cache.versions.KeptVersion.{KeptVersion}
use Rattle.bz_cache.proofs.Stored.{counted_found, counted_absent, counted_changed}
use Rattle.bz_cache.proofs.file_cache.versions.lower.Goals as goal

pub returns-clause-last : goal.returns-clause-last
returns-clause-last g c =
    let found = sym c.get_mut.ensures.value ∙ ap option_copied_mut c.in-Some.is in
    rw (c.saturating_sub-kept.ensures, counted_found g.T.Version.bytes_of c.args.versions.now c.args.stamp.now _ found) (grind (arith, nat_tests))

pub returns-clause-counted : goal.returns-clause-counted
returns-clause-counted g c =
    let found = sym c.get_mut.ensures.value ∙ ap option_copied_mut c.in-Some.is in
    let lowered : KeptVersion _ = record c.in-Some.kept.now { paths = c.saturating_sub-kept.result } in
    let updates = (c.get_mut.follows.holds lowered).3 (ap is_some found) in
    counted_changed g.T.Version.bytes_of c.args.versions.now (c.get_mut.follows.lender lowered) c.args.stamp.now _ lowered found updates one_fewer
    (λ i. record { bytes = g.T.Version.bytes_of c.in-Some.kept.now.version.value; paths = c.saturating_sub-kept.ensures i })

pub unreachable-requires : goal.unreachable-requires
unreachable-requires g c =
    let absent = counted_absent g.T.Version.bytes_of c.args.versions.now c.args.stamp.now (sym c.get_mut.ensures.value ∙ ap option_copied_mut c.in-None.is) in
    false≢true (sym (ap is_some absent) ∙ c.requires)
