-- What keeping something ahead of addresses promises, from what pinning a file and caching a process
-- do.
use Rattle.std.proofs.Common.{◌≡◌, ℕ, true, false, List, [], ◌∷◌, Option, Some, Result, Ok, Err, OnOk, OnErr, inl, inr, refl, sym, ap, subst, ◌∙◌}
use Rattle.std.specs.List.{AllByRecursion}
use Rattle.bz_base.specs.declared.error.Error.{Error}
use Rattle.bz_base.specs.declared.pid.Pid.{Pid}
use Rattle.bz_files.specs.World.{World, Entry, entry_at, in_view}
use Rattle.bz_files.specs.declared.files.Files.{Ghosts}
use Rattle.bz_cache.specs.Cache.{Cache, Consistent, with_pin}
use Rattle.bz_cache.specs.Format.{GivesOrFaults}
use Rattle.bz_cache.specs.Look.{look, will_open}
use Rattle.bz_cache.specs.Pinning.{IsLeft, PinsFile, pinned_by, pinning}
use Rattle.bz_elf.specs.Format as elf
use Rattle.bz_proc.specs.PerfMap as perf
use Rattle.bz_process.proofs.ProcessLemmas.{opened_by}
use Rattle.bz_process.specs.Caches.{ProcessCaches}
use Rattle.bz_process.specs.Caching.{KeptMappings, caching_of}
use Rattle.bz_process.specs.CachingCall.{CachesProcess, CachingChange, Called, PinPerfMap as PinMap, IsCachedTold, after_caching, cached_so}
use Rattle.bz_process.specs.Dispatch.{DispatchAnswers}
use Rattle.bz_process.specs.ProcessCall.{LookElf, LookPerfMap, Remember}
use Rattle.bz_process.specs.Processes.{KeptProcesses, caches_of}
use Rattle.bz_process.specs.Remembered.{Remembered}
use Rattle.bz_process.specs.declared.caching.ProcessCaching.{ProcessCaching}
use Rattle.bz_symbolize.specs.Caching.{CachedTold, Caches, caching}
use Rattle.bz_symbolize.specs.History.{Call, LookAtElf, PinElf, LookAtPerfMap, PinPerfMap, ChangesLead, IsChange, MayReach, PerfMapsMayReach, all_in}
use Rattle.bz_symbolize.specs.Requests.{CacheElf, CacheProcess}
use Rattle.bz_symbolize.specs.State.{State, WellKept, WholeState}
use Rattle.bz_symbolize.proofs.InViewLemmas.{answered, pinned_if_in_view, pinned_in_view, process_if_in_view, process_in_view}

-- an ELF file that is pinned leaves the files well kept
pub well_pinned : {X : Type 0} (files : Ghosts X) (path : List ℕ) (result : Result (Unit {0}) Error) (state : State) (now : Cache) (before after : X) →
    PinsFile files elf.format_test path result state.elf now before after → WellKept state → WellKept (record state { elf = now })
well_pinned files path result state now before after pins well = record {
  breakpad = well.breakpad;
  gsym = well.gsym;
  elf = record { consistent = pins.consistent well.elf.consistent; reload = pins.reload ∙ well.elf.reload };
}

-- what a pinned look leaves
left_of : (cache now : Cache) (path : List ℕ) (looked : Result (List ℕ) Error × Cache) → pinned_by cache path looked ≡ (Ok tt, now) → now ≡ with_pin true looked.1 path
left_of cache now path (Ok version, left) is = sym (ap (λ (x : Result (Unit {0}) Error × Cache). x.1) is)
left_of cache now path (Err e, left) is = let none : ◌≡◌ {A = Result (Unit {0}) Error} (Err e) (Ok tt) = ap (λ (x : Result (Unit {0}) Error × Cache). x.0) is in cc none

module _ {D R : Type 0} (world : World) (old now : WholeState D R) where
  abbrev Leads : Type 0
  Leads = ChangesLead world old.files now.files old.processes.perf_maps now.processes.perf_maps

  -- where nothing changes, no call is needed
  no_changes : now ≡ old → Leads
  no_changes same = record { calls = []; are_of_kind = tt; files = ap (λ (w : WholeState D R). w.files) same; perf_maps = ap (λ (w : WholeState D R). w.processes.perf_maps) same }

-- an ELF file
module _ {D R X : Type 0} (files : Ghosts X) (path : List ℕ) (old now : WholeState D R) (before after : X)
    (rest : now ≡ record old { files = record old.files { elf = now.files.elf } }) where
  -- an answer leaves the path pinned at the version of a look
  left_told : (result : Result (Unit {0}) Error) (world : World) → in_view (files.worlds before) ≡ Some world → OnOk result (IsLeft (pinning elf.format_test old.files.elf path) path (in_view (files.worlds before)) now.files.elf) →
      OnOk result (now ≡ record old { files = record old.files { elf = (pinning elf.format_test old.files.elf path (entry_at world path)).1 } })
  left_told (Ok tt) world seen left =
      let there : pinning elf.format_test old.files.elf path (entry_at world path) ≡ (Ok tt, now.files.elf) =
      subst (λ (o : Option Entry). pinning elf.format_test old.files.elf path o ≡ (Ok tt, now.files.elf)) (left.told world seen) left.leaves in
      rest ∙ ap (λ (x : Result (Unit {0}) Error × Cache). record old { files = record old.files { elf = x.1 } }) (sym there)
  left_told (Err e) world seen left = tt

  unchanged : (result : Result (Unit {0}) Error) → OnErr result (now.files.elf ≡ old.files.elf) → OnErr result (now ≡ old)
  unchanged (Ok tt) same = tt
  unchanged (Err e) same = rest ∙ ap (λ (c : Cache). record old { files = record old.files { elf = c } }) same

  -- it stands as a look at the path, between the pin that is taken away and the one that is given
  elf_leads : (result : Result (Unit {0}) Error) (world : World) → in_view (files.worlds before) ≡ Some world → OnOk result (IsLeft (pinning elf.format_test old.files.elf path) path (in_view (files.worlds before)) now.files.elf) →
      OnErr result (now ≡ old) → Leads world old now
  elf_leads (Ok tt) world seen left same =
      let loose : Cache = with_pin false old.files.elf path in
      let there : pinning elf.format_test old.files.elf path (entry_at world path) ≡ (Ok tt, now.files.elf) =
      subst (λ (o : Option Entry). pinning elf.format_test old.files.elf path o ≡ (Ok tt, now.files.elf)) (left.told world seen) left.leaves in
      let pinned = left_of old.files.elf now.files.elf path (look elf.format_test loose path (entry_at world path)) there in
      let maps = ap (λ (w : WholeState D R). w.processes.perf_maps) rest in
      record {
        calls = PinElf false path ∷ LookAtElf path ∷ PinElf true path ∷ [];
        are_of_kind = (tt, (tt, (tt, tt)));
        files = (
          record old.files { elf = loose },
          inr refl,
          (
            record old.files { elf = (look elf.format_test loose path (entry_at world path)).1 },
            inr refl,
            (now.files, inr (ap (λ (w : WholeState D R). w.files) rest ∙ ap (λ (c : Cache). record old.files { elf = c }) pinned), refl),
          ),
        );
        perf_maps = (old.processes.perf_maps, inl refl, (old.processes.perf_maps, inl refl, (old.processes.perf_maps, inl refl, maps)));
      }
  elf_leads (Err e) world seen left same = no_changes world old now same

  caches_elf : (result : Result (Unit {0}) Error) → Consistent elf.format_test old.files.elf → PinsFile files elf.format_test path result old.files.elf now.files.elf before after → Caches files (CacheElf path) result old now before after
  caches_elf result found pins =
      record {
        told = λ world seen. record {
          answer = pins.answer world seen;
          left = left_told result world seen pins.left;
          opened = opened_by (will_open (with_pin false old.files.elf path) path (entry_at world path)) _ _ (pins.reads.spared world seen) pins.reads.most;
        };
        causes = λ world seen coherent.
            subst (λ (a : Result (Unit {0}) Error). GivesOrFaults (λ (done : Unit {0}). done) a result) (pinned_in_view elf.format_test old.files.elf world path coherent) (pins.answer world seen);
        complete = λ world seen is.
            answered _ result (pins.answer world seen) (pinned_if_in_view elf.format_test old.files.elf world path found.formed (λ a. a) refl is);
        err = unchanged result pins.err;
        history = λ world seen. elf_leads result world seen pins.left (unchanged result pins.err);
        called = record { pins = pins; rest = rest };
        caches = λ well. subst (λ (s : State). WellKept s) (sym (ap (λ (w : WholeState D R). w.files) rest)) (well_pinned files path result old.files now.files.elf before after pins well);
        looked = pins.looked;
      }

-- the changes of caching a process, as calls
abbrev calls_of : List CachingChange → List Call
calls_of [] = []
calls_of (Called (LookElf path there) ∷ later) = LookAtElf path ∷ calls_of later
calls_of (Called (LookPerfMap path there) ∷ later) = LookAtPerfMap path ∷ calls_of later
calls_of (Called (Remember pid known) ∷ later) = calls_of later
calls_of (PinMap pinned path ∷ later) = PinPerfMap pinned path ∷ calls_of later

are_changes : (changes : List CachingChange) → AllByRecursion IsChange (calls_of changes)
are_changes [] = tt
are_changes (Called (LookElf path there) ∷ later) = (tt, are_changes later)
are_changes (Called (LookPerfMap path there) ∷ later) = (tt, are_changes later)
are_changes (Called (Remember pid known) ∷ later) = are_changes later
are_changes (PinMap pinned path ∷ later) = (tt, are_changes later)

module _ (own : ℕ) (world : World) where
  reach_files : (changes : List CachingChange) (state : State) (kept : ProcessCaches) → AllByRecursion (IsCachedTold own world) changes →
      MayReach (record state { elf = kept.elf }) (all_in world (calls_of changes)) (record state { elf = (after_caching changes kept).elf })
  reach_files [] state kept told = refl
  reach_files (Called (LookElf path there) ∷ later) state kept told = (
    record state { elf = (look elf.format_test kept.elf path there).1 },
    inr (ap (λ (t : Option Entry). record state { elf = (look elf.format_test kept.elf path t).1 }) told.0),
    reach_files later state (cached_so (Called (LookElf path there)) kept) told.1,
  )
  reach_files (Called (LookPerfMap path there) ∷ later) state kept told = (record state { elf = kept.elf }, inl refl, reach_files later state (cached_so (Called (LookPerfMap path there)) kept) told.1)
  reach_files (Called (Remember pid known) ∷ later) state kept told = reach_files later state (cached_so (Called (Remember pid known)) kept) told.1
  reach_files (PinMap pinned path ∷ later) state kept told = (record state { elf = kept.elf }, inl refl, reach_files later state (cached_so (PinMap pinned path) kept) told.1)

  reach_perf_maps : (changes : List CachingChange) (kept : ProcessCaches) → AllByRecursion (IsCachedTold own world) changes →
      PerfMapsMayReach kept.perf_maps (all_in world (calls_of changes)) (after_caching changes kept).perf_maps
  reach_perf_maps [] kept told = refl
  reach_perf_maps (Called (LookElf path there) ∷ later) kept told = (kept.perf_maps, inl refl, reach_perf_maps later (cached_so (Called (LookElf path there)) kept) told.1)
  reach_perf_maps (Called (LookPerfMap path there) ∷ later) kept told = (
    (look perf.format_test kept.perf_maps path there).1,
    inr (ap (λ (t : Option Entry). (look perf.format_test kept.perf_maps path t).1) told.0),
    reach_perf_maps later (cached_so (Called (LookPerfMap path there)) kept) told.1,
  )
  reach_perf_maps (Called (Remember pid known) ∷ later) kept told = reach_perf_maps later (cached_so (Called (Remember pid known)) kept) told.1
  reach_perf_maps (PinMap pinned path ∷ later) kept told = (with_pin pinned kept.perf_maps path, inr refl, reach_perf_maps later (cached_so (PinMap pinned path) kept) told.1)

  changes_lead : (changes : List CachingChange) (state : State) (old now : ProcessCaches) → AllByRecursion (IsCachedTold own world) changes → now ≡ after_caching changes old →
      ChangesLead world (record state { elf = old.elf }) (record state { elf = now.elf }) old.perf_maps now.perf_maps
  changes_lead changes state old now told leads =
      subst (λ (k : ProcessCaches). ChangesLead world (record state { elf = old.elf }) (record state { elf = k.elf }) old.perf_maps k.perf_maps) (sym leads)
      (record { calls = calls_of changes; are_of_kind = are_changes changes; files = reach_files changes state old told; perf_maps = reach_perf_maps changes old told })

-- what is kept of processes is what its parts are
same_processes : {D R : Type 0} (elf_files : Cache) (old now : KeptProcesses D R) (kept : ProcessCaches) (mappings : KeptMappings) → caches_of elf_files now ≡ kept → now.mappings ≡ mappings →
    now.dispatcher ≡ old.dispatcher → now.answers ≡ old.answers → now ≡ record old { perf_maps = kept.perf_maps; ids = kept.ids; mappings = mappings }
same_processes {D} {R} elf_files old now kept mappings caches_are mappings_are dispatcher answers =
    ap (λ (x : Cache). record now { perf_maps = x }) (ap (λ (k : ProcessCaches). k.perf_maps) caches_are)
    ∙ ap (λ (x : List (Pid × Remembered)). record now { perf_maps = kept.perf_maps; ids = x }) (ap (λ (k : ProcessCaches). k.ids) caches_are)
    ∙ ap (λ (x : KeptMappings). record now { perf_maps = kept.perf_maps; ids = kept.ids; mappings = x }) mappings_are
    ∙ ap (λ (x : D). record now { perf_maps = kept.perf_maps; ids = kept.ids; mappings = mappings; dispatcher = x }) dispatcher
    ∙ ap (λ (x : DispatchAnswers R). record old { perf_maps = kept.perf_maps; ids = kept.ids; mappings = mappings; answers = x }) answers

-- a process
module _ {D R X : Type 0} (files : Ghosts X) (request : ProcessCaching) (old now : WholeState D R) (before after : X) (rest : now.files ≡ old.files) where
  process_left : (result : Result (Unit {0}) Error) (kept : ProcessCaches) (mappings : KeptMappings) → OnOk result (caches_of old.files.elf now.processes ≡ kept) → OnOk result (now.processes.mappings ≡ mappings) →
      now.processes.dispatcher ≡ old.processes.dispatcher → now.processes.answers ≡ old.processes.answers →
      OnOk result (now ≡ record old { processes = record old.processes { perf_maps = kept.perf_maps; ids = kept.ids; mappings = mappings } })
  process_left (Ok tt) kept mappings caches_are mappings_are dispatcher answers =
      ap (λ (s : State). record now { files = s }) rest
      ∙ ap (λ (p : KeptProcesses D R). record old { processes = p }) (same_processes old.files.elf old.processes now.processes kept mappings caches_are mappings_are dispatcher answers)
  process_left (Err e) kept mappings caches_are mappings_are dispatcher answers = tt

  process_unchanged : (result : Result (Unit {0}) Error) → OnErr result (now.processes ≡ old.processes) → OnErr result (now ≡ old)
  process_unchanged (Ok tt) same = tt
  process_unchanged (Err e) same = ap (λ (s : State). record now { files = s }) rest ∙ ap (λ (p : KeptProcesses D R). record old { processes = p }) same

  -- it stands as its looks and pins
  process_leads : (world : World) (changes : List CachingChange) → AllByRecursion (IsCachedTold (files.pid before) world) changes →
      caches_of old.files.elf now.processes ≡ after_caching changes (caches_of old.files.elf old.processes) → ChangesLead world old.files now.files old.processes.perf_maps now.processes.perf_maps
  process_leads world changes told leads =
      subst (λ (s : State). ChangesLead world old.files s old.processes.perf_maps now.processes.perf_maps) (sym rest)
      (changes_lead (files.pid before) world changes old.files (caches_of old.files.elf old.processes) (caches_of old.files.elf now.processes) told leads)

  abbrev Keeps : Result (Unit {0}) Error → Type 0
  Keeps result = CachesProcess files (caching_of (files.pid before) request) result old.processes now.processes before after

  process_told : (result : Result (Unit {0}) Error) → Keeps result → (world : World) → in_view (files.worlds before) ≡ Some world →
      CachedTold (caching (CacheProcess request) (files.pid before) world old) result now (files.opens before) (files.opens after)
  process_told result keeps world seen =
      let here = (keeps.step old.files.elf).told world seen in
      record {
        answer = here.answer;
        left = process_left result _ _ here.left (keeps.mappings world seen) keeps.dispatcher keeps.answers;
        opened = here.opened;
      }

  caches_process_kept : (result : Result (Unit {0}) Error) → Keeps result → Caches files (CacheProcess request) result old now before after
  caches_process_kept result keeps =
      let step = keeps.step old.files.elf in
      record {
        told = process_told result keeps;
        causes = λ world seen coherent.
            subst (λ (a : Result (Unit {0}) Error). GivesOrFaults (λ (done : Unit {0}). done) a result) (process_in_view request (files.pid before) world (caches_of old.files.elf old.processes) coherent)
            (step.told world seen).answer;
        complete = λ world seen is.
            answered _ result (step.told world seen).answer (process_if_in_view request (files.pid before) world (caches_of old.files.elf old.processes) keeps.found.formed is);
        err = process_unchanged result keeps.err;
        history = λ world seen. process_leads world step.reached.changes (step.reached.told world seen) step.reached.leads;
        called = record { keeps = keeps; rest = rest };
        caches = λ well. rw rest well;
        looked = step.looked;
      }

-- the same over a symbolizer whose other part stays
pub elf_cached : {D R X : Type 0} (files : Ghosts X) (path : List ℕ) (old now : State) (processes : KeptProcesses D R) (before after : X) (result : Result (Unit {0}) Error) → now ≡ record old { elf = now.elf } →
    Consistent elf.format_test old.elf → PinsFile files elf.format_test path result old.elf now.elf before after → Caches files (CacheElf path) result (record { files = old; processes = processes }) (record { files = now; processes = processes }) before after
elf_cached {D} {R} files path old now processes before after result rest found pins =
    let whole : WholeState D R = record { files = old; processes = processes } in
    caches_elf files path whole (record { files = now; processes = processes }) before after (ap (λ (s : State). record whole { files = s }) rest) result found pins

pub process_cached : {D R X : Type 0} (files : Ghosts X) (request : ProcessCaching) (state : State) (old now : KeptProcesses D R) (before after : X) (result : Result (Unit {0}) Error) →
    CachesProcess files (caching_of (files.pid before) request) result old now before after → Caches files (CacheProcess request) result (record { files = state; processes = old }) (record { files = state; processes = now }) before after
process_cached files request state old now before after result keeps =
    caches_process_kept files request (record { files = state; processes = old }) (record { files = state; processes = now }) before after refl result keeps
