use Rattle.std.proofs.Common.{◌≡◌, map, refl, string_bytes}
use Rattle.std.proofs.lemmas.Result.{IfOk-at_ok}
use Rattle.bz_files.specs.Held.{entry_of, world_of}
use Rattle.bz_files.specs.World.{with_entry}
use Rattle.bz_files.proofs.HeldWorlds.{world_held}
use Rattle.bz_files.proofs.WorldLists.{on_last_at_end}
use Rattle.bz_files.proofs.worlds.Worlds.hold.Goals as goal

-- the key has the path's bytes, so the last world has the entry at the path
pub returns-clause-ok : goal.returns-clause-ok
returns-clause-ok c =
    let key_is_path = IfOk-at_ok (λ key. string_bytes key ≡ c.args.path.now) c.in_ok-key.was c.from_str.ensures.ok in
    let held = world_held c.self.inside.last c.insert.new.self (string_bytes c.in_ok-key.key) c.args.held c.in_ok-insert.ensures.updates in
    rw (← c.self.view_is, on_last_at_end (with_entry c.args.path.now (entry_of c.args.held)) (map world_of c.self.inside.earlier.items) (world_of c.self.inside.last), held, key_is_path) refl
