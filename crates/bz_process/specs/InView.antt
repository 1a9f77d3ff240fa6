-- What a process answers at an address by the versions in view, where no resolver is in charge. No
-- answer depends on what else was asked.
use Rattle.std.specs.Prelude.{◌≡◌, ℕ, Bool, true, false, cond, List, Option, Some, None, Result, Ok, Err, Contains}
use Rattle.bz_base.specs.Answer.{Answer, Unknown}
use Rattle.bz_base.specs.declared.error.Error.{Error}
use Rattle.bz_base.specs.declared.types.Reason.TheVariants as reasons
use Rattle.bz_files.specs.Agreement.{AgreeOn}
use Rattle.bz_files.specs.World.{World}
use Rattle.bz_cache.specs.Cache.{Consistent}
use Rattle.bz_cache.specs.Coherence.{Coherent}
use Rattle.bz_cache.specs.FileCall.{view_answer}
use Rattle.bz_elf.specs.Format as elf
use Rattle.bz_proc.specs.Maps.{Mapping, Name, File, Component, owner_of}
use Rattle.bz_proc.specs.PerfMap as perf
use Rattle.bz_process.specs.Asked.{Asked}
use Rattle.bz_process.specs.Caches.{ProcessCaches}
use Rattle.bz_process.specs.Mapped.{some_mappings}
use Rattle.bz_process.specs.Process.{asks_elf, asks_perf_map, offset_in, or_unknown, remember}
use Rattle.bz_process.specs.Remembered.{Remembered}

-- one of the addresses lies in a mapped file, so kept ELF files are used
pub record UsesElf (told : Result (List Mapping) Error) (addrs : List ℕ) : Type 0 where
  pub mappings : List Mapping
  pub told_so : told ≡ Ok mappings
  pub addr : ℕ
  pub is_asked : Contains addrs addr
  pub mapping : Mapping
  pub owns : owner_of mappings addr ≡ Some mapping
  pub maps_file : List ℕ
  pub symbolic_path : List ℕ
  pub is_file : mapping.name ≡ Some (File maps_file symbolic_path)

-- perf maps are asked, and one of the addresses lies in a mapping without a name, so kept ones are used
pub record UsesPerfMaps (asked : Asked) (told : Result (List Mapping) Error) (addrs : List ℕ) : Type 0 where
  pub asks : asked.perf_map ≡ true
  pub mappings : List Mapping
  pub told_so : told ≡ Ok mappings
  pub addr : ℕ
  pub is_asked : Contains addrs addr
  pub mapping : Mapping
  pub owns : owner_of mappings addr ≡ Some mapping
  pub no_name : mapping.name ≡ None

-- both caches are well kept. Where one is used, it coheres with the world, in which equal stamps have
-- equal bytes
pub record CoheresIn (uses_elf uses_perf_maps : Type 0) (world : World) (kept : ProcessCaches) : Type 0 where
  pub elf : Consistent elf.format_test kept.elf
  pub perf_maps : Consistent perf.format_test kept.perf_maps
  pub elf_coheres : uses_elf → Coherent kept.elf.kept world
  pub perf_maps_cohere : uses_perf_maps → Coherent kept.perf_maps.kept world
  pub agrees : AgreeOn world world

-- so do those that these addresses use, by the kept mappings or else by those that lie there
abbrev pub CoheresFor : Asked → Option (List Mapping) → World → ProcessCaches → List ℕ → Type 0
CoheresFor asked known world kept addrs =
    let told = (some_mappings asked.pid known world kept).answer in CoheresIn (UsesElf told addrs) (UsesPerfMaps asked told addrs) world kept

module _ (asked : Asked) (world : World) (kept : ProcessCaches) where
  -- what the perf map answers that is in view for what is remembered of the process, or would be
  abbrev pub perf_map_in_view : ℕ → Result Remembered Error → Result Answer Error
  perf_map_in_view addr (Ok known) = view_answer (asks_perf_map addr) kept.perf_maps world known.perf_map
  perf_map_in_view addr (Err e) = Err e

  -- an address of a mapping without a name
  abbrev pub unnamed_in_view : Bool → ℕ → Result Answer Error
  unnamed_in_view true addr = or_unknown (perf_map_in_view addr (remember asked.pid asked.own world kept).answer)
  unnamed_in_view false addr = Ok (Unknown reasons.UnknownAddr)

  -- an address of a mapping: the file in view answers that is mapped there
  abbrev pub mapping_in_view : Mapping → ℕ → Option Name → Result Answer Error
  mapping_in_view mapping addr None = unnamed_in_view asked.perf_map addr
  mapping_in_view mapping addr (Some (Component text)) = Ok (Unknown reasons.Unsupported)
  mapping_in_view mapping addr (Some (File maps_file symbolic_path)) =
      view_answer (asks_elf symbolic_path (offset_in mapping addr)) kept.elf world (cond asked.map_files maps_file symbolic_path)

  abbrev pub owner_in_view : ℕ → Option Mapping → Result Answer Error
  owner_in_view addr None = Ok (Unknown reasons.Unmapped)
  owner_in_view addr (Some mapping) = mapping_in_view mapping addr mapping.name

  -- an address, by the mappings of its process
  abbrev pub address_in_view : List Mapping → ℕ → Result Answer Error
  address_in_view mappings addr = owner_in_view addr (owner_of mappings addr)

  abbrev pub told_in_view : Result (List Mapping) Error → ℕ → Result Answer Error
  told_in_view (Ok mappings) addr = address_in_view mappings addr
  told_in_view (Err e) addr = Err e

  -- what a process answers at an address: by the kept mappings, else by those that lie there
  abbrev pub process_in_view : Option (List Mapping) → ℕ → Result Answer Error
  process_in_view known addr = told_in_view (some_mappings asked.pid known world kept).answer addr
