-- From what a process promises to what a call of a symbolizer on one does.
use Rattle.std.proofs.Common.{◌≡◌, ℕ, Bool, true, false, List, [], ◌∷◌, Option, Some, Result, Err, IsErrOf, inl, inr, refl, sym, ap, subst, le_refl, ◌∙◌}
use Rattle.std.specs.List.{AllByRecursion}
use Rattle.bz_base.specs.Answer.{Answer}
use Rattle.bz_base.specs.InputKind.{AddressKind}
use Rattle.bz_base.specs.declared.error.Error.{Error}
use Rattle.bz_base.specs.declared.error.Error.TheVariants as errors
use Rattle.bz_base.specs.declared.resolve.Symbolize.{Ghosts as Finds}
use Rattle.bz_base.specs.declared.resolve.TranslateFileOffset.{Ghosts as Translates}
use Rattle.bz_base.specs.declared.types.FindSymOpts.{FindSymOpts}
use Rattle.bz_files.specs.Looked.{Faulted, Looked}
use Rattle.bz_files.specs.World.{World, Entry, Told, in_view}
use Rattle.bz_files.specs.declared.files.Files.{Ghosts}
use Rattle.bz_cache.specs.Cache.{Cache}
use Rattle.bz_cache.specs.Look.{look}
use Rattle.bz_elf.specs.Format as elf
use Rattle.bz_proc.specs.PerfMap as perf
use Rattle.bz_process.specs.Asked.{Asked, asked_of}
use Rattle.bz_process.specs.Caches.{ProcessCaches}
use Rattle.bz_process.specs.Dispatch.{Test}
use Rattle.bz_process.specs.Process.{Step}
use Rattle.bz_process.specs.ProcessCall.{Change, LookElf, LookPerfMap, Remember, IsTold, StaysKept, TakesStep, after_changes, changed}
use Rattle.bz_process.specs.Processes.{KeptProcesses, SymbolizesAddress, SymbolizesProcess, caches_of, is_in_process}
use Rattle.bz_process.specs.declared.query.ProcessQuery.{ProcessQuery}
use Rattle.bz_symbolize.proofs.Formats.{form_asked}
use Rattle.bz_symbolize.specs.FileCall.{Query}
use Rattle.bz_symbolize.specs.History.{Call, IsLook, LookAtElf, LookAtPerfMap, LooksLead, MayReach, PerfMapsMayReach, all_in}
use Rattle.bz_symbolize.specs.OfProcess.{AddressOfProcess, BatchOfProcess, OfProcess}
use Rattle.bz_symbolize.specs.Promise.{AsksSource, Symbolizes}
use Rattle.bz_symbolize.specs.Sources.{OneProcess, form_of, query_in}
use Rattle.bz_symbolize.specs.State.{State, WellKept, WholeState, opts_of}
use Rattle.bz_symbolize.specs.declared.source.Source.{Source}

-- the looks among changes, in their order
abbrev looks_of : List Change → List Call
looks_of [] = []
looks_of (LookElf path there ∷ later) = LookAtElf path ∷ looks_of later
looks_of (LookPerfMap path there ∷ later) = LookAtPerfMap path ∷ looks_of later
looks_of (Remember pid known ∷ later) = looks_of later

are_looks_of : (changes : List Change) → AllByRecursion IsLook (looks_of changes)
are_looks_of [] = tt
are_looks_of (LookElf path there ∷ later) = (tt, are_looks_of later)
are_looks_of (LookPerfMap path there ∷ later) = (tt, are_looks_of later)
are_looks_of (Remember pid known ∷ later) = are_looks_of later

module _ (own : ℕ) (world : World) where
  -- what changes that the world tells lead to, their looks lead to
  reach_files : (changes : List Change) (state : State) (kept : ProcessCaches) → AllByRecursion (IsTold own world) changes →
      MayReach (record state { elf = kept.elf }) (all_in world (looks_of changes)) (record state { elf = (after_changes changes kept).elf })
  reach_files [] state kept told = refl
  reach_files (LookElf path there ∷ later) state kept told = (
    record state { elf = (look elf.format_test kept.elf path there).1 },
    inr (ap (λ (t : Option Entry). record state { elf = (look elf.format_test kept.elf path t).1 }) told.0),
    reach_files later state (changed (LookElf path there) kept) told.1,
  )
  reach_files (LookPerfMap path there ∷ later) state kept told = (record state { elf = kept.elf }, inl refl, reach_files later state (changed (LookPerfMap path there) kept) told.1)
  reach_files (Remember pid known ∷ later) state kept told = reach_files later state (changed (Remember pid known) kept) told.1

  reach_perf_maps : (changes : List Change) (kept : ProcessCaches) → AllByRecursion (IsTold own world) changes →
      PerfMapsMayReach kept.perf_maps (all_in world (looks_of changes)) (after_changes changes kept).perf_maps
  reach_perf_maps [] kept told = refl
  reach_perf_maps (LookElf path there ∷ later) kept told = (kept.perf_maps, inl refl, reach_perf_maps later (changed (LookElf path there) kept) told.1)
  reach_perf_maps (LookPerfMap path there ∷ later) kept told = (
    (look perf.format_test kept.perf_maps path there).1,
    inr (ap (λ (t : Option Entry). (look perf.format_test kept.perf_maps path t).1) told.0),
    reach_perf_maps later (changed (LookPerfMap path there) kept) told.1,
  )
  reach_perf_maps (Remember pid known ∷ later) kept told = reach_perf_maps later (changed (Remember pid known) kept) told.1

  looks_lead : (changes : List Change) (state : State) (old now : ProcessCaches) → AllByRecursion (IsTold own world) changes → now ≡ after_changes changes old →
      LooksLead world (record state { elf = old.elf }) (record state { elf = now.elf }) old.perf_maps now.perf_maps
  looks_lead changes state old now told leads =
      subst (λ (k : ProcessCaches). LooksLead world (record state { elf = old.elf }) (record state { elf = k.elf }) old.perf_maps k.perf_maps) (sym leads)
      (record { calls = looks_of changes; are_of_kind = are_looks_of changes; files = reach_files changes state old told; perf_maps = reach_perf_maps changes old told })

-- no look leads anywhere
no_looks : (world : World) (state : State) (perf_maps : Cache) → LooksLead world state state perf_maps perf_maps
no_looks world state perf_maps = record { calls = []; are_of_kind = tt; files = refl; perf_maps = refl }

-- what a call on a process does to files, whatever is asked
pub record LeavesFiles {A X : Type 0} (files : Ghosts X) (result : Result A Error) (state : State) (elf_now perf_maps perf_maps_now : Cache) (before after : X) : Type 0 where
  pub elf_stays : StaysKept elf.format_test state.elf elf_now
  pub perf_maps_stay : StaysKept perf.format_test perf_maps perf_maps_now
  pub looked : Looked files before after (Faulted result)
  pub history : Told (in_view (files.worlds before)) (λ world. LooksLead world state (record state { elf = elf_now }) perf_maps perf_maps_now)

module _ {A D R X : Type 0} (files : Ghosts X) (result : Result A Error) (state : State) (elf_now : Cache) (old now : KeptProcesses D R) (before after : X) where
  abbrev Leaves : Type 0
  Leaves = LeavesFiles files result state elf_now old.perf_maps now.perf_maps before after

  by_step : {B : Type 0} (own : ℕ) (reading : A → B) (expected : Step B) → TakesStep files own reading expected result (caches_of state.elf old) (caches_of elf_now now) before after → Leaves
  by_step own reading expected step = record {
    elf_stays = step.elf;
    perf_maps_stay = step.perf_maps;
    looked = step.looked;
    history = λ world seen. looks_lead own world step.reached.changes state (caches_of state.elf old) (caches_of elf_now now) (step.reached.told world seen) step.reached.leads;
  }

  by_refusal : IsErrOf result errors.Unsupported → elf_now ≡ state.elf → now ≡ old → after ≡ before → Leaves
  by_refusal refused same_elf same same_files =
      rw (refused, same_elf, same, same_files) (record {
        elf_stays = record { consistent = λ is. is; reload = refl };
        perf_maps_stay = record { consistent = λ is. is; reload = refl };
        looked = record { worlds = refl; pid = refl; faults = record { grows = le_refl _; fault = λ fault. cc fault; steady = inr refl } };
        history = λ world seen. no_looks world state old.perf_maps;
      })

  module _ (test : Test R) (translates : Translates R) (finds : Finds R) (opts : FindSymOpts) (asked : Asked) (kind : AddressKind) where
    pub batch_leaves : (reading : A → List Answer) (addrs : List ℕ) →
        SymbolizesProcess files reading test translates finds opts asked kind addrs result state.elf elf_now old now before after → Leaves
    batch_leaves reading addrs promise = by_taken (is_in_process kind) refl
      where
        by_taken : (taken : Bool) → is_in_process kind ≡ taken → Leaves
        by_taken true is = by_step asked.own reading _ (promise.asks is).step
        by_taken false is = let refused = promise.untaken is in by_refusal refused.0 refused.1 refused.2 refused.3

    pub address_leaves : (reading : A → Answer) (addr : ℕ) →
        SymbolizesAddress files reading test translates finds opts asked kind addr result state.elf elf_now old now before after → Leaves
    address_leaves reading addr promise = by_taken (is_in_process kind) refl
      where
        by_taken : (taken : Bool) → is_in_process kind ≡ taken → Leaves
        by_taken true is = by_step asked.own reading _ (promise.asks is).step
        by_taken false is = let refused = promise.untaken is in by_refusal refused.0 refused.1 refused.2 refused.3

  -- the files stay well kept
  pub stays_well : WellKept state → Leaves → WellKept (record state { elf = elf_now })
  stays_well well leaves = record {
    breakpad = well.breakpad;
    gsym = well.gsym;
    elf = record { consistent = leaves.elf_stays.consistent well.elf.consistent; reload = leaves.elf_stays.reload ∙ well.elf.reload };
  }

module _ {A D R X : Type 0} (files : Ghosts X) (source : Source) (query : ProcessQuery) (is : Some query ≡ query_in (form_of source)) (result : Result A Error) (old now : WholeState D R) (before after : X)
    (rest : now.files ≡ record old.files { elf = now.files.elf }) where
  form : form_of source ≡ OneProcess query
  form = form_asked (form_of source) query (sym is)

  abbrev LeavesAll : Type 0
  LeavesAll = LeavesFiles files result old.files now.files.elf old.processes.perf_maps now.processes.perf_maps before after

  -- what a call on a process promises of the files that are kept
  called : {B : Type 0} (reading : A → B) (asks : Query B) → LeavesAll → WellKept now.files → Symbolizes files reading source asks result old.files now.files before after
  called reading asks leaves well = record {
    view = rw form tt;
    look = rw form tt;
    kept = rw form tt;
    causes = rw form tt;
    complete = rw form tt;
    told = λ world seen. rw form tt;
    history = λ world seen. rw form tt;
    leaves = rw form tt;
    handed = rw form tt;
    untaken = rw form tt;
    stays = rw form tt;
    ready = rw form tt;
    refusal = rw form tt;
    settings = ap (λ (s : State). s.settings) rest;
    caches = well;
    looked = leaves.looked;
    most = rw form tt;
  }

  -- and of the process
  asked : (promise : ProcessQuery → Type 0) → LeavesAll → promise query → OfProcess files source promise old now before
  asked promise leaves holds = record {
    asked = rw form holds;
    rest = rw form rest;
    history = rw form (λ world seen. subst (λ (s : State). LooksLead world old.files s old.processes.perf_maps now.processes.perf_maps) (sym rest) (leaves.history world seen));
    others = rw form tt;
  }

  module _ (test : Test R) (translates : Translates R) (finds : Finds R) (kind : AddressKind) where
    -- of a batch
    module _ (reading : A → List Answer) (addrs : List ℕ) where
      abbrev AsksBatch : ProcessQuery → Type 0
      AsksBatch process = SymbolizesProcess files reading test translates finds (opts_of old.files.settings) (asked_of (files.pid before) process) kind addrs result old.files.elf now.files.elf old.processes now.processes before after

      leaves_batch : AsksBatch query → LeavesAll
      leaves_batch promise = batch_leaves files result old.files now.files.elf old.processes now.processes before after test translates finds (opts_of old.files.settings) (asked_of (files.pid before) query) kind reading addrs promise

      pub batch_called : AsksBatch query → WellKept now.files → (asks : Query (List Answer)) → Symbolizes files reading source asks result old.files now.files before after
      batch_called promise well asks = called reading asks (leaves_batch promise) well

      pub batch_asked : AsksBatch query → BatchOfProcess files reading test translates finds source kind addrs result old now before after
      batch_asked promise = asked AsksBatch (leaves_batch promise) promise

    -- of an address alone
    module _ (reading : A → Answer) (addr : ℕ) where
      abbrev AsksAddress : ProcessQuery → Type 0
      AsksAddress process = SymbolizesAddress files reading test translates finds (opts_of old.files.settings) (asked_of (files.pid before) process) kind addr result old.files.elf now.files.elf old.processes now.processes before after

      leaves_address : AsksAddress query → LeavesAll
      leaves_address promise = address_leaves files result old.files now.files.elf old.processes now.processes before after test translates finds (opts_of old.files.settings) (asked_of (files.pid before) query) kind reading addr promise

      pub address_called : AsksAddress query → WellKept now.files → (asks : Query Answer) → Symbolizes files reading source asks result old.files now.files before after
      address_called promise well asks = called reading asks (leaves_address promise) well

      pub address_asked : AsksAddress query → AddressOfProcess files reading test translates finds source kind addr result old now before after
      address_asked promise = asked AsksAddress (leaves_address promise) promise

-- a process has no version: it is refused, and nothing changes
pub asks_none : {A B X : Type 0} (files : Ghosts X) (reading : A → B) (source : Source) (opts : FindSymOpts) (query : Query B) (state : State) (before : X) (process : ProcessQuery) →
    form_of source ≡ OneProcess process → WellKept state → AsksSource files reading source opts query (Err errors.Unsupported) state state before before
asks_none files reading source opts query state before process form well = record {
  called = rw form tt;
  handed = rw form tt;
  rest = rw form tt;
  settings = refl;
  kept_well = well;
  caches = well;
  looked = record { worlds = refl; pid = refl; faults = record { grows = le_refl _; fault = λ fault. cc fault; steady = inr refl } };
}
