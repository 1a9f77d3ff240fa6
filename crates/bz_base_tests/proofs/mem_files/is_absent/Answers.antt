use Rattle.std.proofs.Common.{◌≡◌, ◌<◌, List, [], ◌∷◌, length, Some, refl, arith}
use Rattle.bz_files.specs.World.{World, in_view}
use Rattle.bz_files.specs.MemWorlds.{first_world}
use Rattle.bz_base_tests.proofs.mem_files.is_absent.Goals as goal

-- where there is a world, the first one is in view
first_in_view : (worlds : List World) → 0 < length worlds → in_view (Some worlds) ≡ Some (first_world worlds)
first_in_view [] some = absurd (omega (arith, some))
first_in_view (world ∷ later) some = refl

-- so the answer is of that world
pub returns-in-Err-NotFound : goal.returns-in-Err-NotFound
returns-in-Err-NotFound c = λ yes. rw c.in-Err-NotFound.field-0-is at (c.in-Err-NotFound.ensures.answer _ (first_in_view _ c.stat.ensures.tells))
