-- What caching and forgetting processes keep: versions that cohere with worlds that agree.
use Rattle.std.proofs.Common.{◌≡◌, ℕ, List, [], ◌∷◌, Option, Some, None, Contains, refl, sym, subst}
use Rattle.std.specs.List.{AllByRecursion}
use Rattle.bz_base.specs.declared.error.Error.{Error}
use Rattle.bz_files.specs.Agreement.{Agree}
use Rattle.bz_files.specs.World.{World, Entry, entry_at}
use Rattle.bz_cache.specs.Cache.{Cache}
use Rattle.bz_cache.specs.Coherence.{Coherent, CoherentWithAll}
use Rattle.bz_cache.specs.Look.{look}
use Rattle.bz_cache.proofs.CoherenceLaws.{evicted_coherent, look_coherent}
use Rattle.bz_elf.specs.Format as elf
use Rattle.bz_proc.specs.PerfMap as perf
use Rattle.bz_process.specs.Caches.{ProcessCaches}
use Rattle.bz_process.specs.CachingCall.{CachingChange, Called, PinPerfMap, CachingReaches, IsCachedTold, after_caching, cached_so}
use Rattle.bz_process.specs.Forgetting.{without_perf_map}
use Rattle.bz_process.specs.ProcessCall.{LookElf, LookPerfMap, Remember}
use Rattle.bz_process.specs.Reached.{CohereWithAll}
use Rattle.bz_process.specs.Remembered.{Remembered}

module _ (worlds : List World) where
  -- a perf map that is forgotten
  pub forgotten_coherent : (perf_maps : Cache) (known : Option Remembered) → CoherentWithAll perf_maps.kept worlds → CoherentWithAll (without_perf_map perf_maps known).kept worlds
  forgotten_coherent perf_maps None coherent = coherent
  forgotten_coherent perf_maps (Some known) coherent = λ world has. evicted_coherent perf_maps world known.perf_map (coherent world has)

  module _ (own : ℕ) (agree : Agree worlds) (world : World) (has : Contains worlds world) where
    -- a look at what the world has
    after_look : (test : List ℕ → Option Error) (cache : Cache) (path : List ℕ) (there : Option Entry) → there ≡ entry_at world path → CoherentWithAll cache.kept worlds → CoherentWithAll (look test cache path there).1.kept worlds
    after_look test cache path there is coherent other has_other =
        subst (λ (t : Option Entry). Coherent (look test cache path t).1.kept other) (sym is) (look_coherent test cache world other path (agree world other has has_other) (coherent other has_other))

    after_change : (change : CachingChange) (kept : ProcessCaches) → IsCachedTold own world change → CohereWithAll kept worlds → CohereWithAll (cached_so change kept) worlds
    after_change (Called (LookElf path there)) kept told coherent = record { elf = after_look elf.format_test kept.elf path there told coherent.elf; perf_maps = coherent.perf_maps }
    after_change (Called (LookPerfMap path there)) kept told coherent = record { elf = coherent.elf; perf_maps = after_look perf.format_test kept.perf_maps path there told coherent.perf_maps }
    after_change (Called (Remember pid known)) kept told coherent = record { elf = coherent.elf; perf_maps = coherent.perf_maps }
    after_change (PinPerfMap pinned path) kept told coherent = record { elf = coherent.elf; perf_maps = coherent.perf_maps }

    changes_coherent : (changes : List CachingChange) (kept : ProcessCaches) → AllByRecursion (IsCachedTold own world) changes → CohereWithAll kept worlds → CohereWithAll (after_caching changes kept) worlds
    changes_coherent [] kept told coherent = coherent
    changes_coherent (change ∷ later) kept told coherent = changes_coherent later (cached_so change kept) told.1 (after_change change kept told.0 coherent)

    -- caching a process in a world that is among those that agree
    pub caching_coherent : (old now : ProcessCaches) → CachingReaches own (Some world) old now → CohereWithAll old worlds → CohereWithAll now worlds
    caching_coherent old now reached coherent = subst (λ (kept : ProcessCaches). CohereWithAll kept worlds) (sym reached.leads) (changes_coherent reached.changes old (reached.told world refl) coherent)
