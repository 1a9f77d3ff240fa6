use Rattle.std.proofs.Common.{map, refl}
use Rattle.bz_files.specs.Held.{world_of}
use Rattle.bz_files.proofs.WorldLists.{last_at_end, map_at_end, world_again}
use Rattle.bz_files.proofs.worlds.Worlds.schedule.Goals as goal

-- the copy is the last world again, and joins those before it
pub returns-clause-ok : goal.returns-clause-ok
returns-clause-ok c =
    rw (
      ← c.self.view_is,
      last_at_end (map world_of c.self.inside.earlier.items) (world_of c.self.inside.last),
      c.in_ok-push.ensures.items,
      map_at_end world_of c.self.inside.earlier.items c.in_ok-copy.copy,
      world_again c.self.inside.last c.in_ok-copy.copy c.in_ok-copy.ensures.cases,
    ) refl
