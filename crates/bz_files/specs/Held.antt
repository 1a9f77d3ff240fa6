-- How the world of files in memory lies in a map from paths to what is held there.
use Rattle.std.specs.Prelude.{map, String, string_bytes}
use Rattle.std.specs.BTreeMap.{BTreeMap}
use Rattle.std.specs.FinMap as finite
use Rattle.bz_files.specs.declared.worlds.Held.{Held}
use Rattle.bz_files.specs.declared.worlds.Held.TheVariants as held
use Rattle.bz_files.specs.World.{World, Entry, Denied, Present}

-- the entry that a held file is
abbrev pub entry_of : Held → Entry
entry_of held.Denied = Denied
entry_of (held.Version stamp bytes) = Present stamp bytes.items

-- the world that the map keeps, by the bytes of its paths
abbrev pub world_of : {Y : Type 0} → BTreeMap (String Y) Held → World
world_of m = finite.from_entries (map (λ e. (string_bytes e.0, entry_of e.1)) m.entries)
