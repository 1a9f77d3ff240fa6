-- How many files requests read at most.
use Rattle.std.proofs.Common.{◌≡◌, ℕ, suc, ◌+◌, ◌≤◌, Bool, true, false, not, ◌&&◌, cond, List, [], ◌∷◌, map, Option, Some, None, is_some, option_and_then, Result, Ok, Err, Contains, refl, sym, ap, subst, ◌∙◌, arith}
use Rattle.std.specs.List.{AllByRecursion, list_any}
use Rattle.std.specs.Str.{bytes_eq}
use Rattle.std.proofs.lemmas.Map.Views.{Contains-from_any}
use Rattle.std.proofs.lemmas.Slice.Eq.{bytes_eq-Decides}
use Rattle.bz_base.specs.Answer.{Answer}
use Rattle.bz_base.specs.declared.error.Error.{Error}
use Rattle.bz_base.specs.declared.pid.Pid.{Pid}
use Rattle.bz_files.specs.World.{World, entry_at, has_file}
use Rattle.bz_cache.specs.Cache.{Cache, with_pin}
use Rattle.bz_cache.specs.InsertMap.{value_at}
use Rattle.bz_cache.specs.Look.{is_new, will_open}
use Rattle.bz_cache.specs.View.{fixed}
use Rattle.bz_proc.specs.Maps.{Mapping, owner_of}
use Rattle.bz_proc.specs.MapsFile.{maps_path, maps_told}
use Rattle.bz_proc.specs.PerfId.{ns_tgid_of, status_path}
use Rattle.bz_proc.specs.PerfPath.{perf_map_path}
use Rattle.bz_process.specs.Asked.{Asked, asked_of}
use Rattle.bz_process.specs.Caches.{ProcessCaches}
use Rattle.bz_process.specs.Caching.{Caching, after_mappings, caches_perf_map, caches_process, pins_perf_map}
use Rattle.bz_process.specs.Mapped.{asks_process, asks_process_at, checked, some_mappings}
use Rattle.bz_process.specs.Process.{StepOutcome, at_address, at_addresses, by_id, by_kept, count_of, followed, pid_cmp, remember, unsaid}
use Rattle.bz_process.specs.Processes.{kept_mappings}
use Rattle.bz_process.specs.Reads.{HasPath, left_to_read, perf_path, reads_again, unkept}
use Rattle.bz_process.specs.Remembered.{Remembered}
use Rattle.bz_process.proofs.EntryLemmas.{mappings_left}
use Rattle.bz_process.proofs.ProcessLemmas.{reaches_same}
use Rattle.bz_process.proofs.ReadsLemmas as process
use Rattle.bz_process.proofs.ReadsLemmas.{count_le}
use Rattle.bz_requests.specs.Requests.{Request, Batch, CacheElf, CacheProcess, EvictElf, EvictProcess, Single, Target, Breakpad, Elf, Gsym, Process}
use Rattle.bz_symq.specs.Kept.{KeptState, caches_in}
use Rattle.bz_symq.specs.Processes.{pid_of}
use Rattle.bz_serve.specs.RequestBounds.{batch_reads, caching_reads, mapped_paths, path_by, process_reads, request_reads, requests_read, told_paths, with_path}
use Rattle.bz_serve.specs.RequestRuns.{reads_from}
use Rattle.bz_serve.specs.RequestSteps.{query_by, step}

-- a path that is added is there, and so are those that were
has_added : (path : List ℕ) (paths : List (List ℕ)) (known : Bool) → list_any (bytes_eq path) paths ≡ known → Contains (cond known paths (path ∷ paths)) path
has_added path paths true is = Contains-from_any (λ x y. (bytes_eq-Decides x y).0) path paths is
has_added path paths false is = (0, omega arith, refl)

has_path : (added : Option (List ℕ)) (path : List ℕ) (paths : List (List ℕ)) → added ≡ Some path → Contains (with_path added paths) path
has_path added path paths is = subst (λ (o : Option (List ℕ)). Contains (with_path o paths) path) (sym is) (has_added path paths (list_any (bytes_eq path) paths) refl)

has_former : (added : Option (List ℕ)) (path : List ℕ) (paths : List (List ℕ)) → Contains paths path → Contains (with_path added paths) path
has_former None path paths has = has
has_former (Some other) path paths has = by_known (list_any (bytes_eq other) paths)
  where
    by_known : (known : Bool) → Contains (cond known paths (other ∷ paths)) path
    by_known true = has
    by_known false = (suc has.0, omega (arith, has.1), has.2)

-- each mapping that answers for one of the addresses has its path among these
have_paths : (asked : Asked) (mappings : List Mapping) (paths : List (List ℕ)) (addrs : List ℕ) → ((path : List ℕ) → Contains (mapped_paths asked addrs mappings) path → Contains paths path) →
    AllByRecursion (λ item. (mapping : Mapping) → owner_of mappings item.0 ≡ Some mapping → HasPath asked paths mapping) (map unsaid addrs)
have_paths asked mappings paths [] among = tt
have_paths asked mappings paths (addr ∷ later) among =
    (first, have_paths asked mappings paths later (λ path has. among path (has_former (option_and_then (λ mapping. path_by asked mapping.name) (owner_of mappings addr)) path (mapped_paths asked later mappings) has)))
  where
    first : (mapping : Mapping) → owner_of mappings addr ≡ Some mapping → HasPath asked paths mapping
    first mapping owner maps_file symbolic_path named =
        among (cond asked.map_files maps_file symbolic_path) (has_path (option_and_then (λ m. path_by asked m.name) (owner_of mappings addr)) (cond asked.map_files maps_file symbolic_path) (mapped_paths asked later mappings)
        (ap (option_and_then (λ (m : Mapping). path_by asked m.name)) owner ∙ ap (path_by asked) named))

-- the text of the mappings is read once, where none are kept
checked_opens : (told : Result (List Mapping) Error) (kept : ProcessCaches) (opens : ℕ) (world : World) → (followed told kept opens (λ mappings left. checked mappings world left)).opens ≤ opens
checked_opens (Ok mappings) kept opens world = omega arith
checked_opens (Err e) kept opens world = omega arith

mappings_opens : (pid : Pid) (known : Option (List Mapping)) (world : World) (kept : ProcessCaches) → (some_mappings pid known world kept).opens ≤ count_of (not (is_some known))
mappings_opens pid (Some mappings) world kept = omega arith
mappings_opens pid None world kept =
    omega (arith, checked_opens (maps_told pid (entry_at world (maps_path pid))) kept (count_of (has_file (entry_at world (maps_path pid)))) world, count_le (has_file (entry_at world (maps_path pid))))

module _ (asked : Asked) (world : World) (start : ProcessCaches) where
  abbrev recalled : Result Remembered Error
  recalled = (remember asked.pid asked.own world start).answer

  abbrev left : List (List ℕ) → ℕ
  left paths = left_to_read asked.pid world paths (perf_path recalled) start

  perf_among : (known : Remembered) → recalled ≡ Ok known → Contains (perf_path recalled) known.perf_map
  perf_among known is = subst (λ (r : Result Remembered Error). Contains (perf_path r) known.perf_map) (sym is) (0, omega arith, refl)

  abbrev batch_by : List ℕ → Result (List Mapping) Error → ProcessCaches → ℕ → StepOutcome (List Answer)
  batch_by addrs told kept opens = followed told kept opens (λ mappings l. at_addresses asked mappings (map unsaid addrs) world l)

  -- a batch by the mappings that are told
  batch_told : (addrs : List ℕ) (told : Result (List Mapping) Error) (kept : ProcessCaches) (opens : ℕ) → kept ≡ start →
      (batch_by addrs told kept opens).opens ≤ opens + (left (told_paths asked addrs told) + reads_again (λ answers. answers) addrs (batch_by addrs told kept opens).answer)
  batch_told addrs (Ok mappings) kept opens is =
      rw is (omega (
        arith,
        process.batch_reads world asked (mapped_paths asked addrs mappings) (perf_path recalled) mappings start perf_among (map unsaid addrs) start (reaches_same asked.own (Some world) start)
            (have_paths asked mappings (mapped_paths asked addrs mappings) addrs (λ path has. has)),
      ))
  batch_told addrs (Err e) kept opens is = omega arith

  -- an address alone
  single_told : (addr : ℕ) (told : Result (List Mapping) Error) (kept : ProcessCaches) (opens : ℕ) → kept ≡ start →
      (followed told kept opens (λ mappings l. at_address asked mappings (unsaid addr) world l)).opens ≤ opens + left (told_paths asked (addr ∷ []) told)
  single_told addr (Ok mappings) kept opens is =
      rw is (omega (
        arith,
        process.address_reads world asked (mapped_paths asked (addr ∷ []) mappings) (perf_path recalled) mappings start perf_among (unsaid addr)
            (have_paths asked mappings (mapped_paths asked (addr ∷ []) mappings) (addr ∷ []) (λ path has. has)).0,
      ))
  single_told addr (Err e) kept opens is = omega arith

  pub batch_bounded : (known : Option (List Mapping)) (addrs : List ℕ) → (asks_process asked known (map unsaid addrs) world start).opens ≤ batch_reads asked known addrs world start
  batch_bounded known addrs =
      let mapped = some_mappings asked.pid known world start in
      omega (arith, mappings_opens asked.pid known world start, batch_told addrs mapped.answer mapped.left mapped.opens (mappings_left asked.pid known world start))

  pub single_bounded : (known : Option (List Mapping)) (addr : ℕ) → (asks_process_at asked known (unsaid addr) world start).opens ≤ process_reads asked known (addr ∷ []) world start
  single_bounded known addr =
      let mapped = some_mappings asked.pid known world start in
      omega (arith, mappings_opens asked.pid known world start, single_told addr mapped.answer mapped.left mapped.opens (mappings_left asked.pid known world start))

-- a path isn't looked at for more than what is new there
open_le : (cache : Cache) (path : List ℕ) (world : World) → count_of (will_open cache path (entry_at world path)) ≤ count_of (is_new cache (entry_at world path))
open_le cache path world = by_fixed (is_some (fixed cache path))
  where
    by_fixed : (b : Bool) → count_of (not b && is_new cache (entry_at world path)) ≤ count_of (is_new cache (entry_at world path))
    by_fixed true = omega arith
    by_fixed false = omega arith

module _ (pid : Pid) (own : ℕ) (world : World) (kept : ProcessCaches) where
  -- the perf map of what is remembered, or would be, is pinned
  abbrev pinned_opens : StepOutcome Remembered → ℕ
  pinned_opens first = (followed first.answer first.left first.opens (λ known left. pins_perf_map known.perf_map world left)).opens

  abbrev perf_left : Result Remembered Error → ℕ
  perf_left told = unkept world kept.perf_maps (perf_path told)

  pinned_told : (told : Result ℕ Error) → pinned_opens (by_id pid own (count_of (has_file (entry_at world (status_path pid)))) kept told) ≤ perf_left (by_id pid own (count_of (has_file (entry_at world (status_path pid)))) kept told).answer + 1
  pinned_told (Ok id) = omega (arith, count_le (has_file (entry_at world (status_path pid))), open_le (with_pin false kept.perf_maps (perf_map_path pid own id)) (perf_map_path pid own id) world)
  pinned_told (Err e) = omega (arith, count_le (has_file (entry_at world (status_path pid))))

  pinned_known : (known : Option Remembered) → pinned_opens (by_kept pid own world kept known) ≤ perf_left (by_kept pid own world kept known).answer + count_of (not (is_some known))
  pinned_known (Some known) = omega (arith, open_le (with_pin false kept.perf_maps known.perf_map) known.perf_map world)
  pinned_known None = pinned_told (ns_tgid_of pid own (entry_at world (status_path pid)))

  abbrev perf_map_reads : Bool → ℕ
  perf_map_reads asked = cond asked (left_to_read pid world [] (perf_path (remember pid own world kept).answer) kept) 0

  perf_map_bounded : (asked : Bool) → (caches_perf_map asked pid own world kept).opens ≤ perf_map_reads asked
  perf_map_bounded true = omega (arith, pinned_known (value_at pid_cmp kept.ids pid))
  perf_map_bounded false = omega arith

  text_then : (perf_map : Bool) (told : Result (List Mapping) Error) (opens : ℕ) → (followed told kept opens (λ mappings left. caches_perf_map perf_map pid own world left)).opens ≤ opens + perf_map_reads perf_map
  text_then perf_map (Ok mappings) opens = omega (arith, perf_map_bounded perf_map)
  text_then perf_map (Err e) opens = omega arith

  mapped_bounded : (vmas perf_map : Bool) → (after_mappings vmas pid (caches_perf_map perf_map pid own) world kept).opens ≤ count_of vmas + perf_map_reads perf_map
  mapped_bounded true perf_map = omega (arith, text_then perf_map (maps_told pid (entry_at world (maps_path pid))) (count_of (has_file (entry_at world (maps_path pid)))), count_le (has_file (entry_at world (maps_path pid))))
  mapped_bounded false perf_map = omega (arith, perf_map_bounded perf_map)

pub caching_bounded : (asked : Caching) (world : World) (kept : ProcessCaches) → (caches_process asked world kept).opens ≤ caching_reads asked world kept
caching_bounded asked world kept = mapped_bounded asked.pid asked.own world kept asked.vmas asked.perf_map

module _ (map_files : Bool) (own : ℕ) where
  batch_request : (target : Target) (addrs : List ℕ) (kept : KeptState) (world : World) → (step map_files own (Batch target addrs) kept world).reads ≤ request_reads map_files own (Batch target addrs) kept world
  batch_request (Breakpad path) addrs kept world = omega arith
  batch_request (Gsym path) addrs kept world = omega arith
  batch_request (Elf path) addrs kept world = omega arith
  batch_request (Process number) addrs kept world = batch_bounded (asked_of own (query_by map_files number)) world (caches_in kept) (kept_mappings kept.processes (pid_of number)) addrs

  single_request : (target : Target) (addr : ℕ) (kept : KeptState) (world : World) → (step map_files own (Single target addr) kept world).reads ≤ request_reads map_files own (Single target addr) kept world
  single_request (Breakpad path) addr kept world = omega arith
  single_request (Gsym path) addr kept world = omega arith
  single_request (Elf path) addr kept world = omega arith
  single_request (Process number) addr kept world = single_bounded (asked_of own (query_by map_files number)) world (caches_in kept) (kept_mappings kept.processes (pid_of number)) addr

  pub request_bounded : (request : Request) (kept : KeptState) (world : World) → (step map_files own request kept world).reads ≤ request_reads map_files own request kept world
  request_bounded (Batch target addrs) kept world = batch_request target addrs kept world
  request_bounded (Single target addr) kept world = single_request target addr kept world
  request_bounded (CacheElf path) kept world = omega arith
  request_bounded (CacheProcess number) kept world = caching_bounded (record { pid = pid_of number; own = own; vmas = true; perf_map = true }) world (caches_in kept)
  request_bounded (EvictElf path) kept world = omega arith
  request_bounded (EvictProcess number) kept world = omega arith

  -- and requests one after the other
  pub run_bounded : (turns : List (World × Request)) (kept : KeptState) → reads_from (step map_files own) kept turns ≤ requests_read map_files own kept turns
  run_bounded [] kept = omega arith
  run_bounded (turn ∷ later) kept = omega (arith, request_bounded turn.1 kept turn.0, run_bounded later (step map_files own turn.1 kept turn.0).state)
