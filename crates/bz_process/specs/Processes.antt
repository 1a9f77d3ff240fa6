-- What is kept to answer for processes, beside the ELF files, and what a call on a process promises.
use Rattle.std.specs.Prelude.{◌≡◌, ◌⊎◌, ℕ, Bool, true, false, List, [], map, Option, Result, IfOk, IsErrOf, refl}
use Rattle.std.specs.Global.{Vec}
use Rattle.std.specs.Coded.{Coded, code_by, coded×, coded_list, coded_option}
use Rattle.bz_base.specs.Answer.{Answer, reading}
use Rattle.bz_base.specs.InputKind.{AddressKind, InProcess, InTable, InFile}
use Rattle.bz_base.specs.contracts.pid.Pid as pids
use Rattle.bz_base.specs.declared.error.Error.{Error}
use Rattle.bz_base.specs.declared.error.Error.TheVariants as errors
use Rattle.bz_base.specs.declared.pid.Pid.{Pid}
use Rattle.bz_base.specs.declared.resolve.Symbolize.{Ghosts as Finds}
use Rattle.bz_base.specs.declared.resolve.TranslateFileOffset.{Ghosts as Translates}
use Rattle.bz_base.specs.declared.types.FindSymOpts.{FindSymOpts}
use Rattle.bz_base.specs.declared.types.Symbolized.{Symbolized}
use Rattle.bz_files.specs.declared.files.Files.{Ghosts}
use Rattle.bz_cache.specs.Cache.{Cache, Consistent, coded_cache, new_cache}
use Rattle.bz_cache.specs.InsertMap.{value_at}
use Rattle.bz_proc.specs.Maps.{Mapping}
use Rattle.bz_proc.specs.PerfMap as perf
use Rattle.bz_proc.specs.contracts.maps.PathName as path_names
use Rattle.bz_proc.specs.declared.maps.PathName.{PathName}
use Rattle.bz_process.specs.Asked.{Asked}
use Rattle.bz_process.specs.Caches.{ProcessCaches}
use Rattle.bz_process.specs.Dispatch.{DispatchAnswers, Test}
use Rattle.bz_process.specs.Mapped.{AreByMappings, AsksProcess, AsksProcessAt, IsByMappings, RefusedUnmapped, asks_process, asks_process_at}
use Rattle.bz_process.specs.Process.{pid_cmp, unsaid}
use Rattle.bz_process.specs.ProcessAsk.{AreAllowed, GivesNone, readings}
use Rattle.bz_process.specs.ProcessCall.{TakesStep, UnlessFailed}
use Rattle.bz_process.specs.Untold.{as_read}
use Rattle.bz_process.specs.Remembered.{Remembered, coded_remembered}
use Rattle.bz_process.specs.Terms.{Terms}
use Rattle.bz_process.specs.contracts.mapped.Mapped as mappeds

-- the perf maps, what is remembered of each process, the mappings that are kept, the dispatcher, and
-- those of its answers that are kept
pub record KeptProcesses (D R : Type 0) : Type 0 where
  pub perf_maps : Cache
  pub ids : List (Pid × Remembered)
  pub mappings : List (Pid × List Mapping)
  pub dispatcher : D
  pub answers : DispatchAnswers R

-- nothing is kept
abbrev pub new_processes : {D R : Type 0} → Bool → D → KeptProcesses D R
new_processes reload dispatcher = record { perf_maps = new_cache reload; ids = []; mappings = []; dispatcher = dispatcher; answers = [] }

-- the ELF files beside what is kept
abbrev pub caches_of : {D R : Type 0} → Cache → KeptProcesses D R → ProcessCaches
caches_of elf kept = record { elf = elf; perf_maps = kept.perf_maps; ids = kept.ids }

-- the mappings that are kept of a process
abbrev pub kept_mappings : {D R : Type 0} → KeptProcesses D R → Pid → Option (List Mapping)
kept_mappings kept pid = value_at pid_cmp kept.mappings pid

-- the perf maps are well kept, and every answer that is kept is one that the dispatcher allows
pub record AreWellKept {D R : Type 0} (test : Test R) (kept : KeptProcesses D R) : Type 0 where
  pub perf_maps : Consistent perf.format_test kept.perf_maps
  pub answers : AreAllowed test kept.answers

-- they can be kept in the model of a value
abbrev pub coded_processes : {D R : Type 0} → Coded D → Coded R → Coded (KeptProcesses D R)
coded_processes {D} {R} d r =
    code_by (Cache × (List (Pid × Remembered) × (List (Pid × List Mapping) × (D × List (PathName × Option R)))))
    (coded× coded_cache (coded× (coded_list (coded× pids.the_row.coded coded_remembered)) (coded× (coded_list (coded× pids.the_row.coded mappeds.the_row.coded)) (coded× d (coded_list (coded× path_names.the_row.coded (coded_option r)))))))
    (λ k. (k.perf_maps, (k.ids, (k.mappings, (k.dispatcher, k.answers)))))
    (λ p. record { perf_maps = p.0; ids = p.1.0; mappings = p.1.1.0; dispatcher = p.1.1.1.0; answers = p.1.1.1.1 })
    (λ _. refl)

-- a process takes absolute addresses alone
abbrev pub is_in_process : AddressKind → Bool
is_in_process InProcess = true
is_in_process InTable = false
is_in_process InFile = false

-- all that a batch of addresses of a process promises
pub record SymbolizesProcess {A D R X : Type 0} (files : Ghosts X) (reading : A → List Answer) (test : Test R) (translates : Translates R) (finds : Finds R) (opts : FindSymOpts)
    (asked : Asked) (kind : AddressKind) (addrs : List ℕ) (result : Result A Error) (elf elf_now : Cache) (old now : KeptProcesses D R) (before after : X) : Type 0 where
  -- another kind of address is refused before any look
  pub untaken : is_in_process kind ≡ false → IsErrOf result errors.Unsupported × (elf_now ≡ elf) × (now ≡ old) × (after ≡ before)
  -- the addresses are asked one after another, by the mappings that are kept or else by those that lie
  -- there
  pub asks : is_in_process kind ≡ true → AsksProcess files reading test translates finds opts asked (kept_mappings old asked.pid) addrs result (caches_of elf old) (caches_of elf_now now) old.answers now.answers before after
  -- with a dispatcher that gives no resolver and refuses nothing, answer and state are those of the
  -- definitions
  pub exact : GivesNone test → is_in_process kind ≡ true →
      TakesStep files asked.own reading (asks_process asked (kept_mappings old asked.pid) (map unsaid addrs)) result (caches_of elf old) (caches_of elf_now now) before after
  -- and whatever is told, the answers are by some mappings
  pub untold : GivesNone test → is_in_process kind ≡ true → IfOk result (λ given. AreByMappings asked (kept_mappings old asked.pid) addrs (reading given) (caches_of elf old) (caches_of elf_now now))
  -- nothing else changes
  pub mappings : now.mappings ≡ old.mappings
  pub dispatcher : now.dispatcher ≡ old.dispatcher

-- all that a single address of a process promises
pub record SymbolizesAddress {A D R X : Type 0} (files : Ghosts X) (reading : A → Answer) (test : Test R) (translates : Translates R) (finds : Finds R) (opts : FindSymOpts)
    (asked : Asked) (kind : AddressKind) (addr : ℕ) (result : Result A Error) (elf elf_now : Cache) (old now : KeptProcesses D R) (before after : X) : Type 0 where
  -- another kind of address is refused before any look
  pub untaken : is_in_process kind ≡ false → IsErrOf result errors.Unsupported × (elf_now ≡ elf) × (now ≡ old) × (after ≡ before)
  -- the address is asked, by the mappings that are kept or else by those that lie there
  pub asks : is_in_process kind ≡ true → AsksProcessAt files reading test translates finds opts asked (kept_mappings old asked.pid) addr result (caches_of elf old) (caches_of elf_now now) old.answers now.answers before after
  -- with a dispatcher that gives no resolver and refuses nothing, answer and state are those of the
  -- definitions
  pub exact : GivesNone test → is_in_process kind ≡ true →
      TakesStep files asked.own reading (asks_process_at asked (kept_mappings old asked.pid) (unsaid addr)) result (caches_of elf old) (caches_of elf_now now) before after
  -- and whatever is told, the answer or refusal is by some mappings, or it is refused for want of
  -- mappings
  pub untold : GivesNone test → is_in_process kind ≡ true → UnlessFailed result (IsByMappings asked (kept_mappings old asked.pid) addr (as_read reading result) (caches_of elf old) (caches_of elf_now now)
      ⊎ RefusedUnmapped (kept_mappings old asked.pid) result (caches_of elf old) (caches_of elf_now now) old.answers now.answers)
  -- nothing else changes
  pub mappings : now.mappings ≡ old.mappings
  pub dispatcher : now.dispatcher ≡ old.dispatcher

-- a call on a process under these terms
module _ {D R X : Type 0} (files : Ghosts X) (terms : Terms R) where
  -- all that a batch promises, read as plain data
  abbrev pub PromisesBatch : AddressKind → List ℕ → Result (Vec Symbolized) Error → Cache → Cache → KeptProcesses D R → KeptProcesses D R → X → X → Type 0
  PromisesBatch kind addrs result elf elf_now old now before after =
      SymbolizesProcess files readings terms.test terms.translates terms.finds terms.opts terms.asked kind addrs result elf elf_now old now before after

  -- all that a single address promises, read as plain data
  abbrev pub PromisesSingle : AddressKind → ℕ → Result Symbolized Error → Cache → Cache → KeptProcesses D R → KeptProcesses D R → X → X → Type 0
  PromisesSingle kind addr result elf elf_now old now before after =
      SymbolizesAddress files reading terms.test terms.translates terms.finds terms.opts terms.asked kind addr result elf elf_now old now before after
