-- Edits of files in memory that give no stamp to two texts, the worlds that they make, and what they
-- keep.
use Rattle.std.specs.Prelude.{◌≡◌, ℕ, ◌≤◌, List, [], ◌∷◌, ◌++◌, Some, Contains}
use Rattle.bz_files.specs.declared.stamp.Stamp.{Stamp}
use Rattle.bz_files.specs.Agreement.{Agree}
use Rattle.bz_files.specs.World.{World, Denied, Present, entry_at, with_entry, without_entry}
use Rattle.bz_files.specs.MemWorlds.{MemWorlds, on_last, after_put, after_link, after_schedule}

-- bytes are put at a path under a fresh stamp; a path gets what is at another; nothing is at a path any
-- more; a path may not be read; or a copy of the last world is put at the end
pub data Edit : Type 0 where
  Put : List ℕ → List ℕ → Edit
  Link : List ℕ → List ℕ → Edit
  Remove : List ℕ → Edit
  Deny : List ℕ → Edit
  Schedule : Edit

-- the files after the edit
abbrev pub after_edit : Edit → MemWorlds → MemWorlds
after_edit (Put path bytes) files = after_put path bytes files
after_edit (Link path old) files = after_link path old files
after_edit (Remove path) files = record files { worlds = on_last (without_entry path) files.worlds }
after_edit (Deny path) files = record files { worlds = on_last (with_entry path Denied) files.worlds }
after_edit Schedule files = after_schedule files

-- the worlds that stand before the edits and after each of them
abbrev pub worlds_seen : MemWorlds → List Edit → List World
worlds_seen files [] = files.worlds
worlds_seen files (edit ∷ edits) = files.worlds ++ worlds_seen (after_edit edit files) edits

-- the worlds that were seen agree: those that are in the list of the files or were in it before. Any
-- version there has the number of a stamp that was given, so that the next fresh stamp is new. Bytes
-- that are put under a stamp of the caller's choice may break it: that stamp can have other bytes, or
-- be given once more.
pub record Agreeing (seen : List World) (files : MemWorlds) : Type 0 where
  pub agree : Agree seen
  pub present : (world : World) → Contains files.worlds world → Contains seen world
  pub given : (world : World) (path : List ℕ) (stamp : Stamp) (bytes : List ℕ) → Contains seen world → entry_at world path ≡ Some (Present stamp bytes) → stamp.inode ≤ files.stamps
