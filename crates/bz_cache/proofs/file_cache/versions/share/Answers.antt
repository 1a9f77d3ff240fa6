use Rattle.std.proofs.Common.{sym, ap, is_some, ◌∙◌}
use Rattle.std.specs.Option.{option_copied}
use Rattle.std.proofs.lemmas.Bool.{false≢true}
use Rattle.bz_cache.proofs.Stored.{kept_found, kept_absent}
use Rattle.bz_cache.proofs.file_cache.versions.share.Goals as goal

pub unreachable-requires : goal.unreachable-requires
unreachable-requires g c =
    let absent = kept_absent g.T.Version.bytes_of c.args.versions.now c.args.stamp.now (sym c.get.ensures.value ∙ ap option_copied c.in-None.is) in
    false≢true (sym (ap is_some absent) ∙ c.requires)

pub returns-clause-ok : goal.returns-clause-ok
returns-clause-ok g c =
    rw c.in_ok-clone-in-Some.ensures.cases (kept_found g.T.Version.bytes_of c.args.versions.now c.args.stamp.now _ (sym c.get.ensures.value ∙ ap option_copied c.in-Some.is))
