use Rattle.std.proofs.Common.{map}
use Rattle.bz_files.specs.Held.{world_of}
use Rattle.bz_files.proofs.HeldWorlds.{entry_found}
use Rattle.bz_files.proofs.WorldLists.{last_at_end}
use Rattle.bz_files.proofs.worlds.Worlds.look_last.Goals as goal

-- what the last map holds at the path is what the last world has there
pub returns : goal.returns
returns c =
    rw (← c.self.view_is, last_at_end (map world_of c.self.inside.earlier.items) (world_of c.self.inside.last))
    (entry_found c.self.inside.last c.args.path.now c.get.result c.get.ensures.value)
