use Rattle.std.proofs.Common.{arith}
use Rattle.std.proofs.lemmas.Grind.{common_steps}
use Rattle.bz_files.proofs.HeldWorlds.{entry_found}
use Rattle.bz_files.proofs.worlds.Worlds.look.Goals as goal

-- what the first map holds at the path is what the world in view has there
pub returns-in-Some : goal.returns-in-Some
returns-in-Some c =
    let found = entry_found c.in-Some.world.now c.args.path.now c.get.result c.get.ensures.value in
    grind (arith, common_steps, found)

-- the last map is the first where there is no other
pub returns-in-None : goal.returns-in-None
returns-in-None c =
    let found = entry_found c.self.inside.last c.args.path.now c.get-in-None.result c.get-in-None.ensures.value in
    grind (arith, common_steps, found)
