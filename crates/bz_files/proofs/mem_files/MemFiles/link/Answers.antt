use Rattle.std.proofs.Common.{◌≡◌, Some, None, sym, refl}
use Rattle.bz_files.specs.World.{Denied, Present, entry_at}
use Rattle.bz_files.specs.MemWorlds.{last_world}
use Rattle.bz_files.proofs.WorldLists.{link_found, on_last_nothing}
use Rattle.bz_files.proofs.mem_files.MemFiles.link.Goals as goal

-- nothing is there
pub returns-in-None-clause-ok : goal.returns-in-None-clause-ok
returns-in-None-clause-ok c =
    let there : entry_at (last_world c.self.inside.worlds) c.args.old.now ≡ None = rw c.in-None.is at (sym c.look_last.ensures) in
    rw (← c.self.view_is, link_found c.args.path.now c.args.old.now c.self.inside.worlds None there, on_last_nothing c.self.inside.worlds) refl

-- what is there may not be read
pub returns-in-Some-Denied-clause-ok : goal.returns-in-Some-Denied-clause-ok
returns-in-Some-Denied-clause-ok c =
    let there : entry_at (last_world c.self.inside.worlds) c.args.old.now ≡ Some Denied = rw (c.in-Some-Denied.is, c.in-Some-Denied.field-0-is) at (sym c.look_last.ensures) in
    rw (← c.self.view_is, link_found c.args.path.now c.args.old.now c.self.inside.worlds (Some Denied) there, on_last_nothing c.self.inside.worlds) refl

-- a version is there, and lies at the path too
pub returns-clause-ok : goal.returns-clause-ok
returns-clause-ok c =
    let there : entry_at (last_world c.self.inside.worlds) c.args.old.now ≡ Some (Present c.in-Some-Version.stamp c.in-Some-Version.bytes.items) =
    rw (c.in-Some-Version.is, c.in-Some-Version.field-0-is) at (sym c.look_last.ensures) in
    rw (
      ← c.self.view_is,
      link_found c.args.path.now c.args.old.now c.self.inside.worlds _ there,
      c.in_ok-hold.ensures.ok,
      c.in_ok-from_slice-in-Some-Version.ensures.items,
      c.deref.ensures.value,
    ) refl
