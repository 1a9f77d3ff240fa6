-- How many files a call on a process reads at most.
use Rattle.std.specs.Prelude.{◌≡◌, ℕ, ◌+◌, Bool, true, false, not, cond, List, [], ◌∷◌, length, Option, Some, is_some, Result, Ok, Err, Contains}
use Rattle.std.specs.List.{AllByRecursion}
use Rattle.bz_base.specs.Answer.{Answer, Known, Unknown}
use Rattle.bz_base.specs.declared.error.Error.{Error}
use Rattle.bz_base.specs.declared.pid.Pid.{Pid}
use Rattle.bz_base.specs.declared.types.Reason.TheVariants as reasons
use Rattle.bz_files.specs.World.{World, entry_at}
use Rattle.bz_cache.specs.Cache.{Cache}
use Rattle.bz_cache.specs.InsertMap.{value_at}
use Rattle.bz_cache.specs.Look.{is_new}
use Rattle.bz_proc.specs.Maps.{Mapping, File, owner_of}
use Rattle.bz_process.specs.Asked.{Asked}
use Rattle.bz_process.specs.Caches.{ProcessCaches}
use Rattle.bz_process.specs.Mapped.{some_mappings}
use Rattle.bz_process.specs.Process.{count_of, pid_cmp, remember}
use Rattle.bz_process.specs.Remembered.{Remembered}

-- how many of the paths have a present stamp that isn't kept
abbrev pub unkept : World → Cache → List (List ℕ) → ℕ
unkept world cache [] = 0
unkept world cache (path ∷ later) = count_of (is_new cache (entry_at world path)) + unkept world cache later

-- how many files may have to be read: those at these paths whose present stamp isn't kept. The status
-- of a process that isn't remembered counts too
abbrev pub left_to_read : Pid → World → List (List ℕ) → List (List ℕ) → ProcessCaches → ℕ
left_to_read pid world elf_paths perf_paths kept =
    unkept world kept.elf elf_paths + (unkept world kept.perf_maps perf_paths + count_of (not (is_some (value_at pid_cmp kept.ids pid))))

-- the perf map of what is remembered of a process, or would be remembered of it
abbrev pub perf_path : Result Remembered Error → List (List ℕ)
perf_path (Ok known) = known.perf_map ∷ []
perf_path (Err e) = []

-- how many files a call may read once, where mapped files are at these paths: those left to read. The
-- text of the mappings counts too, if none are kept
abbrev pub reads_once : Asked → World → List (List ℕ) → Option (List Mapping) → ProcessCaches → ℕ
reads_once asked world paths known kept =
    count_of (not (is_some known)) + left_to_read asked.pid world paths (perf_path (remember asked.pid asked.own world kept).answer) kept

-- the answer stands for an address that was refused
abbrev pub is_ignored : Answer → Bool
is_ignored (Known symbol) = false
is_ignored (Unknown reasons.IgnoredError) = true
is_ignored (Unknown _) = false

-- how many addresses were refused
abbrev pub ignored : List Answer → ℕ
ignored [] = 0
ignored (answer ∷ later) = count_of (is_ignored answer) + ignored later

-- a file that was read and refused for its bytes may be read again, once for each address that is
-- refused. Where the call isn't answered, it may be for each address
abbrev pub reads_again : {A : Type 0} → (A → List Answer) → List ℕ → Result A Error → ℕ
reads_again reading addrs (Ok given) = ignored (reading given)
reads_again reading addrs (Err e) = length addrs

-- the file that a mapping is of, if it is of one, is looked at by one of the paths
abbrev pub HasPath : Asked → List (List ℕ) → Mapping → Type 0
HasPath asked paths mapping = (maps_file symbolic_path : List ℕ) → mapping.name ≡ Some (File maps_file symbolic_path) → Contains paths (cond asked.map_files maps_file symbolic_path)

-- so is that of each mapping that answers for one of the addresses
abbrev pub HavePaths : Asked → List (List ℕ) → List Mapping → List ℕ → Type 0
HavePaths asked paths mappings addrs = AllByRecursion (λ addr. (mapping : Mapping) → owner_of mappings addr ≡ Some mapping → HasPath asked paths mapping) addrs

-- the paths have those of the mapped files of these addresses, whichever mappings are told
abbrev pub CoverMapped : Asked → World → List (List ℕ) → Option (List Mapping) → ProcessCaches → List ℕ → Type 0
CoverMapped asked world paths known kept addrs = (mappings : List Mapping) → (some_mappings asked.pid known world kept).answer ≡ Ok mappings → HavePaths asked paths mappings addrs
