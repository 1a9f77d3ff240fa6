use Rattle.std.proofs.Common.{is_some, sym, ap, ◌∙◌}
use Rattle.bz_files.specs.World.{in_view}
use Rattle.bz_cache.proofs.Inserting.{inserts_named}
use Rattle.bz_cache.proofs.Looking.{none_of}
use Rattle.bz_cache.proofs.file_cache.FileCache.insert_value.Goals as goal

pub returns-clause-after : goal.returns-clause-after
returns-clause-after g c =
    let loose = none_of _ (ap is_some (sym c.fixed.ensures.stamp) ∙ sym c.is_some.ensures ∙ c.if-is_some.false) in
    let absent = none_of _ (sym c.is_kept.ensures.kept ∙ c.if-is_kept.false) in
    inserts_named c.args.self.now c.args.path.now (g.T.Version.bytes_of c.args.value.value) c.in_ok-stamp.stamp loose absent g.T.Version.test c.insert_version.new.self (in_view (g.F.Files.worlds c.args.files.now))
    c.in_ok-stamp.ensures.answer c.insert_version.result c.insert_version.ensures.ok c.insert_version.ensures.consistent
