-- What looks and remembered ids keep: versions that cohere with worlds that agree.
use Rattle.std.proofs.Common.{◌≡◌, ℕ, List, [], ◌∷◌, Option, Some, Contains, refl, sym, subst}
use Rattle.std.specs.Prelude.{⊤}
use Rattle.std.specs.List.{AllByRecursion}
use Rattle.bz_base.specs.declared.error.Error.{Error}
use Rattle.bz_files.specs.Agreement.{Agree}
use Rattle.bz_files.specs.World.{World, Entry, entry_at}
use Rattle.bz_cache.specs.Cache.{Cache}
use Rattle.bz_cache.specs.Coherence.{Coherent, CoherentWithAll}
use Rattle.bz_cache.specs.Look.{look}
use Rattle.bz_cache.proofs.CoherenceLaws.{look_coherent}
use Rattle.bz_elf.specs.Format as elf
use Rattle.bz_proc.specs.PerfMap as perf
use Rattle.bz_process.specs.Caches.{ProcessCaches}
use Rattle.bz_process.specs.ProcessCall.{Change, LookElf, LookPerfMap, Remember, IsTold, Reaches, after_changes, changed}
use Rattle.bz_process.specs.Reached.{CohereWithAll}

-- of the two caches those that are used cohere with the worlds
pub record UsedCohere (uses_elf uses_perf_maps : Type 0) (kept : ProcessCaches) (worlds : List World) : Type 0 where
  pub elf : uses_elf → CoherentWithAll kept.elf.kept worlds
  pub perf_maps : uses_perf_maps → CoherentWithAll kept.perf_maps.kept worlds

module _ (own : ℕ) (worlds : List World) (agree : Agree worlds) (world : World) (has : Contains worlds world) where
  -- a look at what the world has
  after_look : (test : List ℕ → Option Error) (cache : Cache) (path : List ℕ) (there : Option Entry) → there ≡ entry_at world path → CoherentWithAll cache.kept worlds → CoherentWithAll (look test cache path there).1.kept worlds
  after_look test cache path there is coherent other has_other =
      subst (λ (t : Option Entry). Coherent (look test cache path t).1.kept other) (sym is) (look_coherent test cache world other path (agree world other has has_other) (coherent other has_other))

  module _ (uses_elf uses_perf_maps : Type 0) where
    after_change : (change : Change) (kept : ProcessCaches) → IsTold own world change → UsedCohere uses_elf uses_perf_maps kept worlds → UsedCohere uses_elf uses_perf_maps (changed change kept) worlds
    after_change (LookElf path there) kept told coherent = record { elf = λ used. after_look elf.format_test kept.elf path there told (coherent.elf used); perf_maps = coherent.perf_maps }
    after_change (LookPerfMap path there) kept told coherent = record { elf = coherent.elf; perf_maps = λ used. after_look perf.format_test kept.perf_maps path there told (coherent.perf_maps used) }
    after_change (Remember pid known) kept told coherent = record { elf = coherent.elf; perf_maps = coherent.perf_maps }

    -- any list of changes that the world tells
    used_coherent : (changes : List Change) (kept : ProcessCaches) → AllByRecursion (IsTold own world) changes → UsedCohere uses_elf uses_perf_maps kept worlds → UsedCohere uses_elf uses_perf_maps (after_changes changes kept) worlds
    used_coherent [] kept told coherent = coherent
    used_coherent (change ∷ later) kept told coherent = used_coherent later (changed change kept) told.1 (after_change change kept told.0 coherent)

    -- so a call on a process keeps the versions coherent that are used
    pub used_reached : (old now : ProcessCaches) → Reaches own (Some world) old now → UsedCohere uses_elf uses_perf_maps old worlds → UsedCohere uses_elf uses_perf_maps now worlds
    used_reached old now reached coherent =
        subst (λ (k : ProcessCaches). UsedCohere uses_elf uses_perf_maps k worlds) (sym reached.leads) (used_coherent reached.changes old (reached.told world refl) coherent)

  -- and all versions, where all are coherent
  pub changes_coherent : (changes : List Change) (kept : ProcessCaches) → AllByRecursion (IsTold own world) changes → CohereWithAll kept worlds → CohereWithAll (after_changes changes kept) worlds
  changes_coherent changes kept told coherent =
      let all = used_coherent ⊤ ⊤ changes kept told (record { elf = λ used. coherent.elf; perf_maps = λ used. coherent.perf_maps }) in record { elf = all.elf tt; perf_maps = all.perf_maps tt }

  pub reached_coherent : (old now : ProcessCaches) → Reaches own (Some world) old now → CohereWithAll old worlds → CohereWithAll now worlds
  reached_coherent old now reached coherent = subst (λ (k : ProcessCaches). CohereWithAll k worlds) (sym reached.leads) (changes_coherent reached.changes old (reached.told world refl) coherent)
