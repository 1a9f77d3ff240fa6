use Rattle.std.proofs.Common.{List, ap, refl, false, ◌∙◌}
use Rattle.std.specs.FinMap as map
use Rattle.std.specs.String.{string_bytes}
use Rattle.bz_files.specs.declared.stamp.Stamp.{Stamp}
use Rattle.bz_cache.specs.Store.{paths_of}
use Rattle.bz_cache.proofs.Stored.{paths_insert}
use Rattle.bz_cache.proofs.file_cache.paths.insert.Goals as goal

pub returns-clause-ok : goal.returns-clause-ok
returns-clause-ok c =
    rw (← c.in_ok-name.ensures.ok) (
    paths_insert c.args.paths.now c.insert.new.self _ _ c.in_ok-insert.ensures.updates _ refl
    ∙ ap (λ (earlier : List Stamp). map.insert (paths_of c.args.paths.now) (string_bytes c.in_ok-name.name) (record { current = c.args.stamp; pinned = false; earlier = earlier })) c.new.ensures.items
    )
