-- All that caching and forgetting processes promise, from what their parts do; and what is kept stays
-- well kept.
use Rattle.std.proofs.Common.{◌≡◌, ℕ, true, false, List, Option, Some, None, Result, Ok, Err, OnOk, OnErr, IfErr, IsOk, ap, ◌∙◌}
use Rattle.bz_base.specs.declared.error.Error.{Error}
use Rattle.bz_base.specs.declared.pid.Pid.{Pid}
use Rattle.bz_files.specs.World.{Told, in_view}
use Rattle.bz_files.specs.declared.files.Files.{Ghosts}
use Rattle.bz_cache.specs.Cache.{Cache, Consistent, new_cache}
use Rattle.bz_cache.specs.InsertMap.{value_at}
use Rattle.bz_cache.proofs.Evicting.{consistent_evicted}
use Rattle.bz_proc.specs.Maps.{Mapping}
use Rattle.bz_proc.specs.MapsFile.{AreOfText}
use Rattle.bz_proc.specs.PerfMap as perf
use Rattle.bz_proc.specs.SystemText.{IsReadRefusal}
use Rattle.bz_process.specs.Caches.{ProcessCaches}
use Rattle.bz_process.specs.Caching.{Caching, KeptMappings, caches_process, mappings_after, with_mappings}
use Rattle.bz_process.specs.CachingCall.{CachesProcess, MayKeep, MayPin, TakesWhole}
use Rattle.bz_process.specs.Dispatch.{DispatchAnswers, Test}
use Rattle.bz_process.specs.Forgetting.{without_path, without_perf_map, without_process}
use Rattle.bz_process.specs.Process.{pid_cmp}
use Rattle.bz_process.specs.Processes.{AreWellKept, KeptProcesses, caches_of}
use Rattle.bz_process.specs.Remembered.{Remembered}
use Rattle.bz_process.proofs.ForgettingLemmas.{allowed_without}

-- what holds holds after every answer, and after every refusal
pub on_ok : {A : Type 0} (result : Result A Error) (P : Type 0) → P → OnOk result P
on_ok (Ok given) P holds = holds
on_ok (Err e) P holds = tt

pub on_err : {A : Type 0} (result : Result A Error) (P : Type 0) → P → OnErr result P
on_err (Ok given) P holds = tt
on_err (Err e) P holds = holds

-- the mappings of this process alone are others
pub may_keep : (asked : Caching) (result : Result (Unit {0}) Error) (old now : KeptMappings) → asked.vmas ≡ true → OnOk result ((told : List Mapping) × AreOfText asked.pid told × (now ≡ with_mappings asked.pid old told)) → OnOk result (MayKeep asked old now)
may_keep asked (Ok done) old now wanted kept = record { mappings = kept.0; untold = λ _. kept.1; kept = rw wanted kept.2 }
may_keep asked (Err e) old now wanted kept = tt

-- a perf map that is forgotten leaves the others well kept
well_without : (perf_maps : Cache) (known : Option Remembered) → Consistent perf.format_test perf_maps → Consistent perf.format_test (without_perf_map perf_maps known)
well_without perf_maps None well = well
well_without perf_maps (Some known) well = consistent_evicted perf.format_test perf_maps known.perf_map well

module _ {D R : Type 0} (test : Test R) where
  pub well_without_process : (pid : Pid) (kept : KeptProcesses D R) → AreWellKept test kept → AreWellKept test (without_process pid kept)
  well_without_process pid kept well = record { perf_maps = well_without kept.perf_maps (value_at pid_cmp kept.ids pid) well.perf_maps; answers = well.answers }

  pub well_without_path : (path : List ℕ) (kept : KeptProcesses D R) → AreWellKept test kept → AreWellKept test (without_path path kept)
  well_without_path path kept well = record { perf_maps = well.perf_maps; answers = allowed_without path kept.answers test well.answers }

module _ {D R X : Type 0} (files : Ghosts X) (asked : Caching) (result : Result (Unit {0}) Error) (old now : KeptProcesses D R) (before after : X) where
  abbrev Step : Type 0
  Step = (elf : Cache) → TakesWhole files asked.own (λ (done : Unit {0}). done) (caches_process asked) result (caches_of elf old) (caches_of elf now) before after

  -- where all parts are as before, so is the whole
  unchanged : (r : Result (Unit {0}) Error) (elf : Cache) → OnErr r (caches_of elf now ≡ caches_of elf old) → OnErr r (now.mappings ≡ old.mappings) → now.dispatcher ≡ old.dispatcher → now.answers ≡ old.answers → OnErr r (now ≡ old)
  unchanged (Ok done) elf caches mappings dispatcher answers = tt
  unchanged (Err e) elf caches mappings dispatcher answers =
      let perf_maps : now.perf_maps ≡ old.perf_maps = ap (λ (k : ProcessCaches). k.perf_maps) caches in
      let ids : now.ids ≡ old.ids = ap (λ (k : ProcessCaches). k.ids) caches in
      ap (λ (x : Cache). record now { perf_maps = x }) perf_maps
      ∙ ap (λ (x : List (Pid × Remembered)). record now { perf_maps = old.perf_maps; ids = x }) ids
      ∙ ap (λ (x : KeptMappings). record now { perf_maps = old.perf_maps; ids = old.ids; mappings = x }) mappings
      ∙ ap (λ (x : D). record now { perf_maps = old.perf_maps; ids = old.ids; mappings = old.mappings; dispatcher = x }) dispatcher
      ∙ ap (λ (x : DispatchAnswers R). record old { answers = x }) answers

  pub caching_promised : Step → Told (in_view (files.worlds before)) (λ world. OnOk result (now.mappings ≡ mappings_after asked world old.mappings)) → OnOk result (MayKeep asked old.mappings now.mappings) →
      ((elf : Cache) → OnOk result (MayPin asked.perf_map asked.pid asked.own (in_view (files.worlds before)) (caches_of elf old) (caches_of elf now))) →
      OnErr result (now.mappings ≡ old.mappings) → IfErr result IsReadRefusal → (asked.vmas ≡ false → asked.perf_map ≡ false → IsOk result) →
      now.dispatcher ≡ old.dispatcher → now.answers ≡ old.answers → Consistent perf.format_test old.perf_maps → CachesProcess files asked result old now before after
  caching_promised step mappings untold pinned err refusal sure dispatcher answers found = record {
    step = step;
    mappings = mappings;
    untold = untold;
    pinned = pinned;
    err = unchanged result (new_cache true) (step (new_cache true)).err err dispatcher answers;
    refusal = refusal;
    sure = sure;
    dispatcher = dispatcher;
    answers = answers;
    found = found;
  }

  -- and what is kept stays well kept
  pub caching_well : (test : Test R) → AreWellKept test old → Step → now.answers ≡ old.answers → AreWellKept test now
  caching_well test well step answers = record {
    perf_maps = (step (new_cache true)).perf_maps.consistent well.perf_maps;
    answers = rw answers well.answers;
  }
