use Rattle.std.proofs.Common.{◌+◌, ap, is_some, sym, refl, ◌∙◌, arith}
use Rattle.std.specs.Option.{option_copied_mut}
use Rattle.std.proofs.lemmas.Bool.{false≢true}
use Rattle.bz_cache.specs.Counts.{one_more}
use Rattle.bz_cache.specs.declared.file_cache.versions.KeptVersion.{KeptVersion}
use Rattle.bz_cache.proofs.Stored.{kept_absent, kept_recounted, counted_found, counted_changed}
use Rattle.bz_cache.proofs.file_cache.versions.raise.Goals as goal

pub overflow_add-kept : goal.overflow_add-kept
overflow_add-kept g c =
    let found = sym c.get_mut.ensures.value ∙ ap option_copied_mut c.in-Some.is in
    let fits = rw (counted_found g.T.Version.bytes_of c.args.versions.now c.args.stamp.now _ found) at c.requires.few in
    omega arith

pub returns-clause-counted : goal.returns-clause-counted
returns-clause-counted g c =
    let found = sym c.get_mut.ensures.value ∙ ap option_copied_mut c.in-Some.is in
    let raised : KeptVersion _ = record c.in-Some.kept.now { paths = c.in-Some.kept.now.paths + 1 } in
    let updates = (c.get_mut.follows.holds raised).3 (ap is_some found) in
    counted_changed g.T.Version.bytes_of c.args.versions.now (c.get_mut.follows.lender raised) c.args.stamp.now _ raised found updates one_more refl

pub returns-clause-kept : goal.returns-clause-kept
returns-clause-kept g c =
    let found = sym c.get_mut.ensures.value ∙ ap option_copied_mut c.in-Some.is in
    let raised : KeptVersion _ = record c.in-Some.kept.now { paths = c.in-Some.kept.now.paths + 1 } in
    let updates = (c.get_mut.follows.holds raised).3 (ap is_some found) in
    kept_recounted g.T.Version.bytes_of c.args.versions.now (c.get_mut.follows.lender raised) c.args.stamp.now _ raised found updates refl

pub unreachable-requires : goal.unreachable-requires
unreachable-requires g c =
    let absent = kept_absent g.T.Version.bytes_of c.args.versions.now c.args.stamp.now (sym c.get_mut.ensures.value ∙ ap option_copied_mut c.in-None.is) in
    false≢true (sym (ap is_some absent) ∙ c.requires.kept)
