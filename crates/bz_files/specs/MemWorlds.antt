-- Files in memory as one value: their worlds, what an edit does to the last of them, and what a look
-- leaves.
use Rattle.std.specs.Prelude.{ℕ, ◌+◌, ◌==◌, pos, Bool, if◌then◌else◌, List, [], ◌∷◌, ◌++◌, Option, Some, None, length, Result, Ok, Err, refl}
use Rattle.std.specs.List.{list_any}
use Rattle.std.specs.FinMap as map
use Rattle.std.specs.Coded.{Coded, code_by, coded×, coded_ℕ, coded_list}
use Rattle.bz_files.specs.declared.stamp.Stamp.{Stamp}
use Rattle.bz_files.specs.declared.files.FileError.{FileError}
use Rattle.bz_files.specs.Count.{counted}
use Rattle.bz_files.specs.World.{World, Entry, Denied, Present, entry_at, with_entry, coded_world}

-- the world in view and those to come, and how many fresh stamps were given; how many looks there were,
-- the numbers of those that fail, and how many failed. Then how many files were read, and the id of the
-- own process
pub record MemWorlds : Type 0 where
  pub worlds : List World
  pub stamps : ℕ
  pub calls : ℕ
  pub failing : List ℕ
  pub faults : ℕ
  pub opens : ℕ
  pub pid : ℕ

-- one empty world, in which nothing was looked at yet
abbrev pub new_worlds : ℕ → MemWorlds
new_worlds pid = record { worlds = map.empty ∷ []; stamps = 0; calls = 0; failing = []; faults = 0; opens = 0; pid = pid }

-- the world that edits act on is the last one
abbrev pub last_world : List World → World
last_world [] = map.empty
last_world (world ∷ []) = world
last_world (world ∷ next ∷ later) = last_world (next ∷ later)

-- the world in view is the first one
abbrev pub first_world : List World → World
first_world [] = map.empty
first_world (world ∷ later) = world

-- the worlds with the last one edited
abbrev pub on_last : (World → World) → List World → List World
on_last edit [] = []
on_last edit (world ∷ []) = edit world ∷ []
on_last edit (world ∷ next ∷ later) = world ∷ on_last edit (next ∷ later)

-- the world with the entry at the path, if it is a file that may be read
abbrev pub with_version : List ℕ → Option Entry → World → World
with_version path None world = world
with_version path (Some Denied) world = world
with_version path (Some (Present stamp bytes)) world = with_entry path (Present stamp bytes) world

-- the world in which the path has the stamp and the bytes that are at the old path
abbrev pub with_link : List ℕ → List ℕ → World → World
with_link path old world = with_version path (entry_at world old) world

-- the last number of a fresh stamp
abbrev pub last_stamp : ℕ
last_stamp = 9223372036854775807

-- the stamp after so many others, for a file of that size; none where the numbers have run out
abbrev pub fresh_stamp : ℕ → ℕ → Option Stamp
fresh_stamp stamps size =
    if stamps == last_stamp then None else Some (record { dev = 1; inode = stamps + 1; size = size; mtime_sec = pos (stamps + 1); mtime_nsec = pos 0 })

-- the files after the bytes were put at the path under this stamp, which was fresh; as they were where
-- none was left
abbrev pub with_put : List ℕ → List ℕ → Option Stamp → MemWorlds → MemWorlds
with_put path bytes None files = files
with_put path bytes (Some stamp) files = record files { worlds = on_last (with_entry path (Present stamp bytes)) files.worlds; stamps = files.stamps + 1 }

-- the files after the bytes were put at the path
abbrev pub after_put : List ℕ → List ℕ → MemWorlds → MemWorlds
after_put path bytes files = with_put path bytes (fresh_stamp files.stamps (length bytes)) files

-- the files after the path got what is at the old path
abbrev pub after_link : List ℕ → List ℕ → MemWorlds → MemWorlds
after_link path old files = record files { worlds = on_last (with_link path old) files.worlds }

-- the files after a copy of the last world was put at the end
abbrev pub after_schedule : MemWorlds → MemWorlds
after_schedule files = record files { worlds = files.worlds ++ last_world files.worlds ∷ [] }

-- the next look is one of those that fail
abbrev pub fails_next : MemWorlds → Bool
fails_next files = list_any (λ number. number == counted files.calls) files.failing

-- the files after one more look, which is counted, as is the fault if it is one of those that fail
abbrev pub after_look : MemWorlds → MemWorlds
after_look files = record files { calls = counted files.calls; faults = if fails_next files then counted files.faults else files.faults }

-- the files after a read with this answer: a file that was read is counted
abbrev pub after_read : {A : Type 0} → Result A FileError → MemWorlds → MemWorlds
after_read (Ok bytes) files = record (after_look files) { opens = counted files.opens }
after_read (Err failed) files = after_look files

-- files in memory can be kept in the model of a value
abbrev pub coded_mem_worlds : Coded MemWorlds
coded_mem_worlds =
    code_by (List World × (ℕ × (ℕ × (List ℕ × (ℕ × (ℕ × ℕ))))))
    (coded× (coded_list coded_world) (coded× coded_ℕ (coded× coded_ℕ (coded× (coded_list coded_ℕ) (coded× coded_ℕ (coded× coded_ℕ coded_ℕ))))))
    (λ s. (s.worlds, (s.stamps, (s.calls, (s.failing, (s.faults, (s.opens, s.pid)))))))
    (λ p. record { worlds = p.0; stamps = p.1.0; calls = p.1.1.0; failing = p.1.1.1.0; faults = p.1.1.1.1.0; opens = p.1.1.1.1.1.0; pid = p.1.1.1.1.1.1 })
    (λ _. refl)
