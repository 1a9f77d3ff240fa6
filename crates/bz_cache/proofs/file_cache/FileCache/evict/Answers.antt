use Rattle.std.proofs.Common.{is_some, sym, ap, ◌∙◌, refl}
use Rattle.std.specs.Cmp.Lexicographic.{nat_list_cmp_total}
use Rattle.std.specs.FinMap as map
use Rattle.bz_cache.specs.Cache.{Cache}
use Rattle.bz_cache.specs.Counts.{Counted}
use Rattle.bz_cache.specs.Store.{kept_of, counted_of, paths_of, path_state}
use Rattle.bz_cache.proofs.Counted.{invariant_left, left_evicted, fewer_left}
use Rattle.bz_cache.proofs.Evicting.{stays_unheld, evicted_unheld, evicts_unheld}
use Rattle.bz_cache.proofs.FiniteMaps.{remove_absent}
use Rattle.bz_cache.proofs.Naming.{paths_apart}
use Rattle.bz_cache.proofs.Stored.{is_some-map, kept_counted}
use Rattle.bz_cache.proofs.file_cache.FileCache.evict.Goals as goal

-- what the path names is kept
pub release-requires : goal.release-requires
release-requires g c = λ s named.
    sym (is_some-map (λ (v : Counted). v.bytes) (map.get (counted_of g.T.Version.bytes_of c.self.inside.versions) s))
    ∙ sym (ap is_some (kept_counted g.T.Version.bytes_of c.self.inside.versions s))
    ∙ c.self.invariant.0.held c.args.path.now (path_state c.in-Some.held) s (sym c.in-Some.ensures.value) named

-- the path that is forgotten isn't counted any more
pub invariant_of-self : goal.invariant_of-self
invariant_of-self g c =
    let old : Cache = record { reload = c.self.inside.reload; kept = kept_of g.T.Version.bytes_of c.self.inside.versions; paths = paths_of c.self.inside.paths } in
    let left = c.release.new.versions in
    invariant_left g.T.Version.test old (counted_of g.T.Version.bytes_of c.self.inside.versions) (kept_counted g.T.Version.bytes_of c.self.inside.versions) c.self.invariant.0 c.self.invariant.1
    c.args.path.now (path_state c.in-Some.held) (sym c.in-Some.ensures.value) (counted_of g.T.Version.bytes_of left) c.release.ensures.counted (kept_of g.T.Version.bytes_of left) (kept_counted g.T.Version.bytes_of left) (paths_of c.remove.new.paths) c.remove.ensures.paths

pub returns-in-Some-clause-dropped : goal.returns-in-Some-clause-dropped
returns-in-Some-clause-dropped g c =
    let old : Cache = record { reload = c.self.inside.reload; kept = kept_of g.T.Version.bytes_of c.self.inside.versions; paths = paths_of c.self.inside.paths } in
    let left = c.release.new.versions in
    rw (← c.self.view_is, c.release.ensures.dropped) (
    fewer_left g.T.Version.test old (counted_of g.T.Version.bytes_of c.self.inside.versions) (kept_counted g.T.Version.bytes_of c.self.inside.versions) c.self.invariant.0 c.self.invariant.1
    c.args.path.now (path_state c.in-Some.held) (sym c.in-Some.ensures.value) (counted_of g.T.Version.bytes_of left) c.release.ensures.counted (kept_of g.T.Version.bytes_of left) (kept_counted g.T.Version.bytes_of left) (paths_of c.remove.new.paths) c.remove.ensures.paths
    )

pub returns-in-Some-clause-state : goal.returns-in-Some-clause-state
returns-in-Some-clause-state g c =
    let old : Cache = record { reload = c.self.inside.reload; kept = kept_of g.T.Version.bytes_of c.self.inside.versions; paths = paths_of c.self.inside.paths } in
    let left = c.release.new.versions in
    rw (← c.self.view_is) (
    left_evicted g.T.Version.test old (counted_of g.T.Version.bytes_of c.self.inside.versions) (kept_counted g.T.Version.bytes_of c.self.inside.versions) c.self.invariant.0 c.self.invariant.1
    c.args.path.now (path_state c.in-Some.held) (sym c.in-Some.ensures.value) (counted_of g.T.Version.bytes_of left) c.release.ensures.counted (kept_of g.T.Version.bytes_of left) (kept_counted g.T.Version.bytes_of left) (paths_of c.remove.new.paths) c.remove.ensures.paths
    )

-- a path that isn't held
pub invariant_of-self-in-None : goal.invariant_of-self-in-None
invariant_of-self-in-None g c =
    rw (c.remove.ensures.paths, remove_absent nat_list_cmp_total paths_apart (paths_of c.self.inside.paths) c.args.path.now (sym c.in-None.ensures.value)) c.self.invariant

pub returns-in-None-clause-dropped : goal.returns-in-None-clause-dropped
returns-in-None-clause-dropped g c =
    let old : Cache = record { reload = c.self.inside.reload; kept = kept_of g.T.Version.bytes_of c.self.inside.versions; paths = paths_of c.self.inside.paths } in
    rw (← c.self.view_is) (sym (evicts_unheld g.T.Version.test old c.args.path.now c.self.invariant.0 (sym c.in-None.ensures.value)))

pub returns-in-None-clause-state : goal.returns-in-None-clause-state
returns-in-None-clause-state g c =
    let old : Cache = record { reload = c.self.inside.reload; kept = kept_of g.T.Version.bytes_of c.self.inside.versions; paths = paths_of c.self.inside.paths } in
    let absent = sym c.in-None.ensures.value in
    rw (← c.self.view_is, c.remove.ensures.paths) (stays_unheld g.T.Version.test old c.args.path.now c.self.invariant.0 absent ∙ sym (evicted_unheld g.T.Version.test old c.args.path.now c.self.invariant.0 absent))

pub returns-in-None-clause-unheld : goal.returns-in-None-clause-unheld
returns-in-None-clause-unheld g c = λ _.
    let old : Cache = record { reload = c.self.inside.reload; kept = kept_of g.T.Version.bytes_of c.self.inside.versions; paths = paths_of c.self.inside.paths } in
    (refl, rw (← c.self.view_is, c.remove.ensures.paths) (stays_unheld g.T.Version.test old c.args.path.now c.self.invariant.0 (sym c.in-None.ensures.value)))
