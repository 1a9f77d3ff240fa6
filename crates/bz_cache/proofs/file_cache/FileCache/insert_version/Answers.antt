use Rattle.std.proofs.Common.{◌≡◌, None, sym, ap, subst, refl}
use Rattle.std.specs.FinMap as map
use Rattle.bz_cache.specs.Cache.{Cache}
use Rattle.bz_cache.specs.Store.{kept_of, counted_of, paths_of}
use Rattle.bz_cache.proofs.Counted.{uncounted, never_named, counts_taken}
use Rattle.bz_cache.proofs.FiniteMaps.{remove_inserted}
use Rattle.bz_cache.proofs.Naming.{consistent_taken}
use Rattle.bz_cache.proofs.Stamps.{stamp_total, stamps_apart}
use Rattle.bz_cache.proofs.Stored.{kept_counted}
use Rattle.bz_cache.proofs.file_cache.FileCache.insert_version.Goals as goal

pub invariant_of-self-in-Err : goal.invariant_of-self-in-Err
invariant_of-self-in-Err g c =
    let old : Cache = record { reload = c.self.inside.reload; kept = kept_of g.T.Version.bytes_of c.self.inside.versions; paths = paths_of c.self.inside.paths } in
    let absent = subst (λ (v : Cache). map.get v.kept c.args.stamp ≡ None) (sym c.self.view_is) c.requires.absent in
    let uncounted_stamp = uncounted old.kept (counted_of g.T.Version.bytes_of c.self.inside.versions) (kept_counted g.T.Version.bytes_of c.self.inside.versions) c.args.stamp absent in
    rw (c.remove.ensures.kept, c.in_ok-insert.ensures.ok, c.remove.ensures.counted, c.in_ok-insert.ensures.counted, c.in-Err.ensures.err, remove_inserted stamp_total stamps_apart old.kept c.args.stamp _ absent, remove_inserted stamp_total stamps_apart (counted_of g.T.Version.bytes_of c.self.inside.versions) c.args.stamp _ uncounted_stamp) c.self.invariant

pub returns-in-Err-clause-err : goal.returns-in-Err-clause-err
returns-in-Err-clause-err g c =
    let old : Cache = record { reload = c.self.inside.reload; kept = kept_of g.T.Version.bytes_of c.self.inside.versions; paths = paths_of c.self.inside.paths } in
    let absent = subst (λ (v : Cache). map.get v.kept c.args.stamp ≡ None) (sym c.self.view_is) c.requires.absent in
    rw (← c.self.view_is, c.remove.ensures.kept, c.in_ok-insert.ensures.ok, c.in-Err.ensures.err) (
    ap (λ (k : _). record { reload = c.self.inside.reload; kept = k; paths = paths_of c.self.inside.paths }) (remove_inserted stamp_total stamps_apart old.kept c.args.stamp _ absent)
    )

pub invariant_of-self-in_default : goal.invariant_of-self-in_default
invariant_of-self-in_default g c =
    let old : Cache = record { reload = c.self.inside.reload; kept = kept_of g.T.Version.bytes_of c.self.inside.versions; paths = paths_of c.self.inside.paths } in
    let absent = subst (λ (v : Cache). map.get v.kept c.args.stamp ≡ None) (sym c.self.view_is) c.requires.absent in (
      consistent_taken g.T.Version.test old c.args.path.now c.args.stamp c.self.invariant.0 (paths_of c.update.new.paths) c.in_default.ensures.ok (g.T.Version.bytes_of c.args.version.value) c.requires.formed (kept_of g.T.Version.bytes_of c.insert.new.versions) c.in_ok-insert.ensures.ok,
      rw c.in_ok-insert.ensures.counted (counts_taken old.paths (counted_of g.T.Version.bytes_of c.self.inside.versions) c.self.invariant.1 c.args.path.now c.args.stamp (paths_of c.update.new.paths) c.in_default.ensures.ok (never_named g.T.Version.test old c.self.invariant.0 c.args.stamp absent) _ refl),
    )

pub returns-clause-consistent : goal.returns-clause-consistent
returns-clause-consistent g c =
    let old : Cache = record { reload = c.self.inside.reload; kept = kept_of g.T.Version.bytes_of c.self.inside.versions; paths = paths_of c.self.inside.paths } in
    consistent_taken g.T.Version.test old c.args.path.now c.args.stamp c.self.invariant.0 (paths_of c.update.new.paths) c.in_default.ensures.ok (g.T.Version.bytes_of c.args.version.value) c.requires.formed (kept_of g.T.Version.bytes_of c.insert.new.versions) c.in_ok-insert.ensures.ok
