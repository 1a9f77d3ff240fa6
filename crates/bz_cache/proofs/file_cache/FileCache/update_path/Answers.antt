use Rattle.std.proofs.Common.{IsSome, sym, subst, ◌∙◌, arith}
use Rattle.std.specs.FinMap as map
use Rattle.bz_cache.specs.Cache.{Cache}
use Rattle.bz_cache.specs.Store.{kept_of, counted_of, paths_of}
use Rattle.bz_cache.proofs.Counted.{counts_known, counts_raised, count_below}
use Rattle.bz_cache.proofs.Naming.{named_kept, consistent_pointed}
use Rattle.bz_cache.proofs.file_cache.FileCache.update_path.Goals as goal

-- the path named the stamp already
pub invariant_of-self-then-was_named : goal.invariant_of-self-then-was_named
invariant_of-self-then-was_named g c =
    let old : Cache = record { reload = c.self.inside.reload; kept = kept_of g.T.Version.bytes_of c.self.inside.versions; paths = paths_of c.self.inside.paths } in
    let there = subst (λ (v : Cache). IsSome (map.get v.kept c.args.stamp)) (sym c.self.view_is) c.requires in
    (consistent_pointed g.T.Version.test old c.args.path.now c.args.stamp c.self.invariant.0 (paths_of c.update.new.paths) c.in_ok-update.ensures.ok there, counts_known old.paths (counted_of g.T.Version.bytes_of c.self.inside.versions) c.self.invariant.1 c.args.path.now c.args.stamp (paths_of c.update.new.paths) c.in_ok-update.ensures.ok (sym c.path_names-was_named.ensures ∙ c.if-was_named.true))

pub returns-then-was_named-clause-ok : goal.returns-then-was_named-clause-ok
returns-then-was_named-clause-ok g c =
    let old : Cache = record { reload = c.self.inside.reload; kept = kept_of g.T.Version.bytes_of c.self.inside.versions; paths = paths_of c.self.inside.paths } in
    let there = subst (λ (v : Cache). IsSome (map.get v.kept c.args.stamp)) (sym c.self.view_is) c.requires in
    rw (← c.self.view_is, c.in_ok-update.ensures.ok) (sym (named_kept old c.args.path.now c.args.stamp there))

pub returns-then-was_named-clause-consistent : goal.returns-then-was_named-clause-consistent
returns-then-was_named-clause-consistent g c =
    let old : Cache = record { reload = c.self.inside.reload; kept = kept_of g.T.Version.bytes_of c.self.inside.versions; paths = paths_of c.self.inside.paths } in
    let there = subst (λ (v : Cache). IsSome (map.get v.kept c.args.stamp)) (sym c.self.view_is) c.requires in
    consistent_pointed g.T.Version.test old c.args.path.now c.args.stamp c.self.invariant.0 (paths_of c.update.new.paths) c.in_ok-update.ensures.ok there

-- it names the stamp from now on
pub raise-requires-clause-kept : goal.raise-requires-clause-kept
raise-requires-clause-kept g c = subst (λ (v : Cache). IsSome (map.get v.kept c.args.stamp)) (sym c.self.view_is) c.requires

pub raise-requires-clause-few : goal.raise-requires-clause-few
raise-requires-clause-few g c =
    let old : Cache = record { reload = c.self.inside.reload; kept = kept_of g.T.Version.bytes_of c.self.inside.versions; paths = paths_of c.self.inside.paths } in
    let below = count_below old.paths (counted_of g.T.Version.bytes_of c.self.inside.versions) c.self.invariant.1 c.args.path.now c.args.stamp (paths_of c.update.new.paths) c.in_ok-update.ensures.ok (sym c.path_names-was_named.ensures ∙ c.if-was_named.false) in
    omega (arith, below)

pub invariant_of-self-2 : goal.invariant_of-self-2
invariant_of-self-2 g c =
    let old : Cache = record { reload = c.self.inside.reload; kept = kept_of g.T.Version.bytes_of c.self.inside.versions; paths = paths_of c.self.inside.paths } in
    let there = subst (λ (v : Cache). IsSome (map.get v.kept c.args.stamp)) (sym c.self.view_is) c.requires in
    rw c.raise.ensures.kept (consistent_pointed g.T.Version.test old c.args.path.now c.args.stamp c.self.invariant.0 (paths_of c.update.new.paths) c.in_ok-update.ensures.ok there, counts_raised old.paths (counted_of g.T.Version.bytes_of c.self.inside.versions) c.self.invariant.1 c.args.path.now c.args.stamp (paths_of c.update.new.paths) c.in_ok-update.ensures.ok (sym c.path_names-was_named.ensures ∙ c.if-was_named.false) (counted_of g.T.Version.bytes_of c.raise.new.versions) c.raise.ensures.counted)

pub returns-clause-ok : goal.returns-clause-ok
returns-clause-ok g c =
    let old : Cache = record { reload = c.self.inside.reload; kept = kept_of g.T.Version.bytes_of c.self.inside.versions; paths = paths_of c.self.inside.paths } in
    let there = subst (λ (v : Cache). IsSome (map.get v.kept c.args.stamp)) (sym c.self.view_is) c.requires in
    rw (← c.self.view_is, c.raise.ensures.kept, c.in_ok-update.ensures.ok) (sym (named_kept old c.args.path.now c.args.stamp there))

pub returns-clause-consistent : goal.returns-clause-consistent
returns-clause-consistent g c =
    let old : Cache = record { reload = c.self.inside.reload; kept = kept_of g.T.Version.bytes_of c.self.inside.versions; paths = paths_of c.self.inside.paths } in
    let there = subst (λ (v : Cache). IsSome (map.get v.kept c.args.stamp)) (sym c.self.view_is) c.requires in
    rw c.raise.ensures.kept (consistent_pointed g.T.Version.test old c.args.path.now c.args.stamp c.self.invariant.0 (paths_of c.update.new.paths) c.in_ok-update.ensures.ok there)
