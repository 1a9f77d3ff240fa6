use Rattle.std.proofs.Common.{[], rules}
use Rattle.bz_files.specs.World.{in_view}
use Rattle.bz_cache.proofs.Looking.{current_kept}
use Rattle.bz_cache.proofs.Sharing.{lent_by_look, shares_lent}
use Rattle.bz_cache.proofs.file_cache.FileCache.shared.Goals as goal

pub share-requires : goal.share-requires
share-requires g c = current_kept g.T.Version.test c.look.new.self c.args.path.now c.in_ok-stamp.stamp [] c.in_ok-stamp.ensures.cache.consistent c.in_ok-stamp.ensures.cache.current

-- the kept version of the path's current stamp is shared
pub returns-clause-after : goal.returns-clause-after
returns-clause-after g c =
    let test = g.T.Version.test in
    let new = c.look.new.self in
    let view = in_view (g.F.Files.worlds c.args.files.now) in
    let lent = lent_by_look test c.args.self.now new c.args.path.now view c.in_ok-stamp.stamp c.in_ok-stamp.ensures.cache (λ held. (c.look.ensures.fixed held).1) in
    shares_lent (λ v. g.T.Version.bytes_of v.value) test c.args.self.now new c.args.path.now view _ c.share.result lent (search rules) c.share.ensures.memory
