use Rattle.std.proofs.Common.{map, refl, ap, sym, ◌∙◌, is_some}
use Rattle.bz_files.specs.Held.{world_of}
use Rattle.bz_files.specs.World.{without_entry}
use Rattle.bz_files.proofs.HeldWorlds.{is_some_held, world_cleared}
use Rattle.bz_files.proofs.WorldLists.{last_at_end, on_last_at_end}
use Rattle.bz_files.proofs.worlds.Worlds.clear.Goals as goal

-- something was removed exactly where something was in the last world
pub returns-clause-removed : goal.returns-clause-removed
returns-clause-removed c =
    rw (← c.self.view_is, last_at_end (map world_of c.self.inside.earlier.items) (world_of c.self.inside.last))
    (c.is_some.ensures ∙ ap is_some c.remove.ensures.value ∙ sym (is_some_held c.self.inside.last c.args.path.now))

-- the last world has nothing at the path any more
pub returns-clause-after : goal.returns-clause-after
returns-clause-after c =
    let cleared = world_cleared c.self.inside.last c.remove.new.self c.args.path.now c.remove.ensures.updates in
    rw (← c.self.view_is, on_last_at_end (without_entry c.args.path.now) (map world_of c.self.inside.earlier.items) (world_of c.self.inside.last), cleared) refl
