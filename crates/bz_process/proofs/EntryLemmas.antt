-- Every entry of a batch, and a single address, is answered by what is in view when the call begins.
use Rattle.std.proofs.Common.{◌≡◌, ℕ, Bool, true, false, suc, List, [], ◌∷◌, Option, Some, None, Result, Ok, Err, IfOk, Contains, map as map_of, refl, sym, ap, ap₂, subst, ◌∙◌, arith}
use Rattle.bz_base.specs.Answer.{Answer, in_batch}
use Rattle.bz_base.specs.InputKind.{AddressKind}
use Rattle.bz_base.specs.declared.error.Error.{Error}
use Rattle.bz_base.specs.declared.pid.Pid.{Pid}
use Rattle.bz_base.specs.declared.resolve.Symbolize.{Ghosts as Finds}
use Rattle.bz_base.specs.declared.resolve.TranslateFileOffset.{Ghosts as Translates}
use Rattle.bz_base.specs.declared.types.FindSymOpts.{FindSymOpts}
use Rattle.bz_files.specs.World.{World, entry_at, in_view}
use Rattle.bz_files.specs.declared.files.Files.{Ghosts}
use Rattle.bz_cache.specs.Cache.{Cache}
use Rattle.bz_cache.specs.Format.{GivesOrFaults}
use Rattle.bz_proc.specs.Maps.{Mapping}
use Rattle.bz_proc.specs.MapsFile.{maps_path, maps_told}
use Rattle.bz_process.specs.Asked.{Asked}
use Rattle.bz_process.specs.Caches.{ProcessCaches}
use Rattle.bz_process.specs.Dispatch.{Test}
use Rattle.bz_process.specs.InView.{CoheresFor, CoheresIn, UsesElf, UsesPerfMaps, address_in_view, process_in_view, told_in_view}
use Rattle.bz_process.specs.Mapped.{asks_process_at, checked, some_mappings}
use Rattle.bz_process.specs.Process.{at_address, at_addresses, batched, followed, unsaid}
use Rattle.bz_process.specs.ProcessAsk.{GivesNone}
use Rattle.bz_process.specs.ProcessCall.{Reaches}
use Rattle.bz_process.specs.Processes.{KeptProcesses, SymbolizesAddress, SymbolizesProcess, caches_of, is_in_process, kept_mappings}
use Rattle.bz_process.proofs.LookedLemmas.{reached_looked}
use Rattle.bz_process.proofs.ProcessLemmas.{reaches_both, reaches_same}
use Rattle.bz_process.proofs.StepLemmas.{address_leads, coheres_after}
use Rattle.bz_process.proofs.ViewLemmas.{InFile, InNoFile, address_same, address_shown}

first_of : (addr : ℕ) (addrs : List ℕ) → Contains (addr ∷ addrs) addr
first_of addr addrs = (0, omega arith, refl)

later_of : (first addr : ℕ) (addrs : List ℕ) → Contains addrs addr → Contains (first ∷ addrs) addr
later_of first addr addrs has = (suc has.0, omega (arith, has.1), has.2)

module _ {uses_elf uses_perf_maps : Type 0} (asked : Asked) (world : World) (old : ProcessCaches) (coheres : CoheresIn uses_elf uses_perf_maps world old) where
  -- an address after others of the call
  later_shown : (mappings : List Mapping) (now : ProcessCaches) (addr : ℕ) → InFile uses_elf mappings addr → InNoFile uses_perf_maps asked mappings addr → Reaches asked.own (Some world) old now →
      (at_address asked mappings (unsaid addr) world now).answer ≡ address_in_view asked world old mappings addr
  later_shown mappings now addr file no_file reached =
      let after = coheres_after world asked.own old now reached coheres in
      address_shown asked world now after mappings addr file no_file ∙ address_same asked world old now coheres after (reached_looked world asked.own old now reached) mappings addr file no_file

  -- every entry of a batch is what is in view for its address alone
  batch_shown : (mappings : List Mapping) (now : ProcessCaches) (addrs : List ℕ) → ((addr : ℕ) → Contains addrs addr → InFile uses_elf mappings addr) → ((addr : ℕ) → Contains addrs addr → InNoFile uses_perf_maps asked mappings addr) →
      Reaches asked.own (Some world) old now → (batched asked mappings (map_of unsaid addrs) world now).answers ≡ map_of (λ addr. in_batch (address_in_view asked world old mappings addr)) addrs
  batch_shown mappings now [] files no_files reached = refl
  batch_shown mappings now (addr ∷ addrs) files no_files reached =
      ap₂ (λ (first : Answer) (rest : List Answer). first ∷ rest) (ap in_batch (later_shown mappings now addr (files addr (first_of addr addrs)) (no_files addr (first_of addr addrs)) reached))
      (batch_shown mappings (at_address asked mappings (unsaid addr) world now).left addrs (λ a has. files a (later_of addr a addrs has)) (λ a has. no_files a (later_of addr a addrs has))
      (reaches_both asked.own (Some world) old now _ reached (address_leads world asked mappings (unsaid addr) now)))

  -- what addresses use, by the mappings that are told
  in_files : (mappings : List Mapping) (addrs : List ℕ) → (UsesElf (Ok mappings) addrs → uses_elf) → (addr : ℕ) → Contains addrs addr → InFile uses_elf mappings addr
  in_files mappings addrs uses addr has mapping maps_file symbolic_path owns named = uses (record {
    mappings = mappings;
    told_so = refl;
    addr = addr;
    is_asked = has;
    mapping = mapping;
    owns = owns;
    maps_file = maps_file;
    symbolic_path = symbolic_path;
    is_file = named;
  })

  in_no_files : (mappings : List Mapping) (addrs : List ℕ) → (UsesPerfMaps asked (Ok mappings) addrs → uses_perf_maps) → (addr : ℕ) → Contains addrs addr → InNoFile uses_perf_maps asked mappings addr
  in_no_files mappings addrs uses addr has asks mapping owns none =
      uses (record { asks = asks; mappings = mappings; told_so = refl; addr = addr; is_asked = has; mapping = mapping; owns = owns; no_name = none })

  -- by the mappings that are told
  told_batch : (told : Result (List Mapping) Error) (left : ProcessCaches) (opens : ℕ) (addrs : List ℕ) (answers : List Answer) → (UsesElf told addrs → uses_elf) → (UsesPerfMaps asked told addrs → uses_perf_maps) → left ≡ old →
      (followed told left opens (λ mappings l. at_addresses asked mappings (map_of unsaid addrs) world l)).answer ≡ Ok answers →
      answers ≡ map_of (λ addr. in_batch (told_in_view asked world old told addr)) addrs
  told_batch (Ok mappings) left opens addrs answers elf_used perf_used same is =
      let given : (batched asked mappings (map_of unsaid addrs) world left).answers ≡ answers = cc is in
      sym given ∙ batch_shown mappings left addrs (in_files mappings addrs elf_used) (in_no_files mappings addrs perf_used) (subst (Reaches asked.own (Some world) old) (sym same) (reaches_same asked.own (Some world) old))
  told_batch (Err e) left opens addrs answers elf_used perf_used same is = cc is

  told_single : (told : Result (List Mapping) Error) (left : ProcessCaches) (opens : ℕ) (addr : ℕ) → (UsesElf told (addr ∷ []) → uses_elf) → (UsesPerfMaps asked told (addr ∷ []) → uses_perf_maps) → left ≡ old →
      (followed told left opens (λ mappings l. at_address asked mappings (unsaid addr) world l)).answer ≡ told_in_view asked world old told addr
  told_single (Ok mappings) left opens addr elf_used perf_used same =
      later_shown mappings left addr (in_files mappings (addr ∷ []) elf_used addr (first_of addr [])) (in_no_files mappings (addr ∷ []) perf_used addr (first_of addr []))
      (subst (Reaches asked.own (Some world) old) (sym same) (reaches_same asked.own (Some world) old))
  told_single (Err e) left opens addr elf_used perf_used same = refl

-- the mappings change nothing that is kept
checked_left : (told : Result (List Mapping) Error) (kept : ProcessCaches) (opens : ℕ) (world : World) → (followed told kept opens (λ mappings left. checked mappings world left)).left ≡ kept
checked_left (Ok mappings) kept opens world = refl
checked_left (Err e) kept opens world = refl

pub mappings_left : (pid : Pid) (known : Option (List Mapping)) (world : World) (kept : ProcessCaches) → (some_mappings pid known world kept).left ≡ kept
mappings_left pid (Some mappings) world kept = refl
mappings_left pid None world kept = checked_left (maps_told pid (entry_at world (maps_path pid))) kept _ world

-- what is asked at an address alone is answered by what is in view
pub alone_shown : (asked : Asked) (known : Option (List Mapping)) (world : World) (kept : ProcessCaches) (addr : ℕ) → CoheresFor asked known world kept (addr ∷ []) →
    (asks_process_at asked known (unsaid addr) world kept).answer ≡ process_in_view asked world kept known addr
alone_shown asked known world kept addr coheres =
    told_single asked world kept coheres (some_mappings asked.pid known world kept).answer (some_mappings asked.pid known world kept).left (some_mappings asked.pid known world kept).opens addr (λ used. used) (λ used. used) (mappings_left asked.pid known world kept)

module _ {A D R X : Type 0} (files : Ghosts X) (test : Test R) (translates : Translates R) (finds : Finds R) (opts : FindSymOpts) (asked : Asked) (kind : AddressKind)
    (elf elf_now : Cache) (old now : KeptProcesses D R) (before after : X) (world : World) (none : GivesNone test) (seen : in_view (files.worlds before) ≡ Some world) where
  pub batch_in_view : (reading : A → List Answer) (addrs : List ℕ) (result : Result A Error) → CoheresFor asked (kept_mappings old asked.pid) world (caches_of elf old) addrs → SymbolizesProcess files reading test translates finds opts asked kind addrs result elf elf_now old now before after →
      IfOk result (λ answers. reading answers ≡ map_of (λ addr. in_batch (process_in_view asked world (caches_of elf old) (kept_mappings old asked.pid) addr)) addrs)
  batch_in_view reading addrs (Err e) coheres promised = tt
  batch_in_view reading addrs (Ok answers) coheres promised = by_kind (is_in_process kind) refl
    where
      by_kind : (b : Bool) → is_in_process kind ≡ b → reading answers ≡ map_of (λ addr. in_batch (process_in_view asked world (caches_of elf old) (kept_mappings old asked.pid) addr)) addrs
      by_kind true taken =
          told_batch asked world (caches_of elf old) coheres (some_mappings asked.pid (kept_mappings old asked.pid) world (caches_of elf old)).answer (some_mappings asked.pid (kept_mappings old asked.pid) world (caches_of elf old)).left (some_mappings asked.pid (kept_mappings old asked.pid) world (caches_of elf old)).opens addrs (reading answers)
          (λ used. used) (λ used. used) (mappings_left asked.pid (kept_mappings old asked.pid) world (caches_of elf old)) ((promised.exact none taken).told world seen).answer
      by_kind false not = cc (promised.untaken not).0

  pub single_in_view : (reading : A → Answer) (addr : ℕ) (result : Result A Error) → is_in_process kind ≡ true → CoheresFor asked (kept_mappings old asked.pid) world (caches_of elf old) (addr ∷ []) →
      SymbolizesAddress files reading test translates finds opts asked kind addr result elf elf_now old now before after → GivesOrFaults reading (process_in_view asked world (caches_of elf old) (kept_mappings old asked.pid) addr) result
  single_in_view reading addr result taken coheres promised =
      subst (λ (expected : Result Answer Error). GivesOrFaults reading expected result) (alone_shown asked (kept_mappings old asked.pid) world (caches_of elf old) addr coheres) ((promised.exact none taken).told world seen).answer
