-- The steps of a process answer are looks and remembered ids, and keep what is kept consistent and
-- coherent.
use Rattle.std.proofs.Common.{◌≡◌, ℕ, Bool, true, false, cond, List, [], ◌∷◌, Option, Some, None, Result, Ok, Err, Contains, slice_index_or, refl, sym, ap, subst, ◌∙◌, arith}
use Rattle.bz_base.specs.declared.error.Error.{Error}
use Rattle.bz_files.specs.Agreement.{Agree, AgreeOn}
use Rattle.bz_files.specs.declared.stamp.Stamp.{Stamp}
use Rattle.bz_files.specs.World.{World, Entry, Denied, Present, entry_at}
use Rattle.bz_cache.specs.Cache.{Cache, Consistent}
use Rattle.bz_cache.specs.Coherence.{Coherent, CoherentWithAll}
use Rattle.bz_cache.specs.InsertMap.{value_at}
use Rattle.bz_cache.specs.Look.{by_entry, by_fixed, by_test, look}
use Rattle.bz_cache.specs.View.{fixed}
use Rattle.bz_cache.proofs.Naming.{consistent_named}
use Rattle.bz_elf.specs.Format as elf
use Rattle.bz_proc.specs.Maps.{Mapping, Name, File, Component, owner_of}
use Rattle.bz_proc.specs.PerfId.{ns_tgid_of, status_path}
use Rattle.bz_proc.specs.PerfMap as perf
use Rattle.bz_process.specs.Asked.{Asked}
use Rattle.bz_process.specs.Caches.{ProcessCaches}
use Rattle.bz_process.specs.InView.{CoheresIn}
use Rattle.bz_process.specs.Process.{Said, asks_perf_map, at_address, by_asked, by_id, by_kept, by_mapping, by_owner, by_said, followed, of_perf_map, pid_cmp, remembered}
use Rattle.bz_process.specs.ProcessCall.{Change, LookElf, LookPerfMap, Remember, IsTold, Reaches, after_changes, changed}
use Rattle.bz_process.specs.Remembered.{Remembered}
use Rattle.bz_process.proofs.ProcessLemmas.{reaches_both, reaches_same}
use Rattle.bz_process.proofs.ReachLemmas.{used_reached}

-- a look leaves a consistent cache
module _ (test : List ℕ → Option Error) (c : Cache) (path : List ℕ) (well : Consistent test c) where
  well_test : (s : Stamp) (v : List ℕ) (t : Option Error) → test v ≡ t → Consistent test (by_test c path s v t).1
  well_test s v None formed = consistent_named test c path s v well formed
  well_test s v (Some e) formed = well

  well_entry : (there : Option Entry) → Consistent test (by_entry test c path there).1
  well_entry None = well
  well_entry (Some Denied) = well
  well_entry (Some (Present s b)) = well_test s _ _ refl

  well_look : (there : Option Entry) → Consistent test (look test c path there).1
  well_look there = by_fix (fixed c path)
    where
      by_fix : (o : Option Stamp) → Consistent test (by_fixed test c path there o).1
      by_fix (Some s) = well
      by_fix None = well_entry there

-- both caches are well kept
record AreConsistent (kept : ProcessCaches) : Type 0 where
  elf : Consistent elf.format_test kept.elf
  perf_maps : Consistent perf.format_test kept.perf_maps

well_change : (change : Change) (kept : ProcessCaches) → AreConsistent kept → AreConsistent (changed change kept)
well_change (LookElf path there) kept well = record { elf = well_look elf.format_test kept.elf path well.elf there; perf_maps = well.perf_maps }
well_change (LookPerfMap path there) kept well = record { elf = well.elf; perf_maps = well_look perf.format_test kept.perf_maps path well.perf_maps there }
well_change (Remember pid known) kept well = record { elf = well.elf; perf_maps = well.perf_maps }

well_changes : (changes : List Change) (kept : ProcessCaches) → AreConsistent kept → AreConsistent (after_changes changes kept)
well_changes [] kept well = well
well_changes (change ∷ later) kept well = well_changes later (changed change kept) (well_change change kept well)

-- the world alone
only_one : (world w : World) → Contains (world ∷ []) w → world ≡ w
only_one world w has =
    let first : has.0 ≡ 0 = omega (arith, has.1) in
    ap (λ (k : ℕ). slice_index_or (world ∷ []) k w) (sym first) ∙ has.2

module _ (world : World) where
  agree_alone : AgreeOn world world → Agree (world ∷ [])
  agree_alone agree w v has_w has_v = subst (λ (x : World). AgreeOn w x) (only_one world v has_v) (subst (λ (x : World). AgreeOn x world) (only_one world w has_w) agree)

  one_of : Contains (world ∷ []) world
  one_of = (0, omega arith, refl)

  with_all : (cache : Cache) → Coherent cache.kept world → CoherentWithAll cache.kept (world ∷ [])
  with_all cache coherent w has = subst (Coherent cache.kept) (only_one world w has) coherent

  -- what coheres goes on to
  pub coheres_after : {uses_elf uses_perf_maps : Type 0} (own : ℕ) (old now : ProcessCaches) → Reaches own (Some world) old now → CoheresIn uses_elf uses_perf_maps world old → CoheresIn uses_elf uses_perf_maps world now
  coheres_after {uses_elf} {uses_perf_maps} own old now reached coheres =
      let well : AreConsistent now = subst AreConsistent (sym reached.leads) (well_changes reached.changes old (record { elf = coheres.elf; perf_maps = coheres.perf_maps })) in
      let used = used_reached own (world ∷ []) (agree_alone coheres.agrees) world one_of uses_elf uses_perf_maps old now reached (record {
        elf = λ uses. with_all old.elf (coheres.elf_coheres uses);
        perf_maps = λ uses. with_all old.perf_maps (coheres.perf_maps_cohere uses);
      }) in
      record { elf = well.elf; perf_maps = well.perf_maps; elf_coheres = λ uses. used.elf uses world one_of; perf_maps_cohere = λ uses. used.perf_maps uses world one_of; agrees = coheres.agrees }

module _ (world : World) (asked : Asked) where
  abbrev Reached : ProcessCaches → ProcessCaches → Type 0
  Reached old now = Reaches asked.own (Some world) old now

  told_change : (change : Change) → IsTold asked.own world change → (w : World) → Some world ≡ Some w → IsTold asked.own w change
  told_change change told w seen = let same : world ≡ w = cc seen in subst (λ (x : World). IsTold asked.own x change) same told

  one_change : (change : Change) (kept : ProcessCaches) → IsTold asked.own world change → Reached kept (changed change kept)
  one_change change kept told = record { changes = change ∷ []; told = λ w seen. (told_change change told w seen, tt); leads = refl }

  id_reached : (kept : ProcessCaches) (opens : ℕ) (told : Result ℕ Error) → ns_tgid_of asked.pid asked.own (entry_at world (status_path asked.pid)) ≡ told → Reached kept (by_id asked.pid asked.own opens kept told).left
  id_reached kept opens (Ok id) is = one_change (Remember asked.pid (remembered asked.pid asked.own id)) kept (id, is, refl)
  id_reached kept opens (Err e) is = reaches_same asked.own (Some world) kept

  kept_reached : (kept : ProcessCaches) (o : Option Remembered) → Reached kept (by_kept asked.pid asked.own world kept o).left
  kept_reached kept (Some known) = reaches_same asked.own (Some world) kept
  kept_reached kept None = id_reached kept _ _ refl

  known_reached : (addr : ℕ) (known : Result Remembered Error) (old left : ProcessCaches) (opens : ℕ) → Reached old left →
      Reached old (followed known left opens (λ k l. of_perf_map (asks_perf_map addr) k.perf_map world l)).left
  known_reached addr (Ok known) old left opens before = reaches_both asked.own (Some world) old left _ before (one_change (LookPerfMap known.perf_map (entry_at world known.perf_map)) left refl)
  known_reached addr (Err e) old left opens before = before

  asked_reached : (perf_map : Bool) (addr : ℕ) (kept : ProcessCaches) → Reached kept (by_asked perf_map asked addr world kept).left
  asked_reached true addr kept = known_reached addr _ kept _ _ (kept_reached kept (value_at pid_cmp kept.ids asked.pid))
  asked_reached false addr kept = reaches_same asked.own (Some world) kept

  said_reached : (mapping : Mapping) (addr : ℕ) (name : Name) (said : Said) (kept : ProcessCaches) → Reached kept (by_said asked mapping addr name said world kept).left
  said_reached mapping addr name (Some given) kept = reaches_same asked.own (Some world) kept
  said_reached mapping addr (Component text) None kept = reaches_same asked.own (Some world) kept
  said_reached mapping addr (File maps_file symbolic_path) None kept = one_change (LookElf (cond asked.map_files maps_file symbolic_path) (entry_at world (cond asked.map_files maps_file symbolic_path))) kept refl

  mapping_reached : (mapping : Mapping) (addr : ℕ) (said : Said) (name : Option Name) (kept : ProcessCaches) → Reached kept (by_mapping asked mapping addr said name world kept).left
  mapping_reached mapping addr said None kept = asked_reached asked.perf_map addr kept
  mapping_reached mapping addr said (Some name) kept = said_reached mapping addr name said kept

  owner_reached : (addr : ℕ) (said : Said) (owner : Option Mapping) (kept : ProcessCaches) → Reached kept (by_owner asked addr said owner world kept).left
  owner_reached addr said None kept = reaches_same asked.own (Some world) kept
  owner_reached addr said (Some mapping) kept = mapping_reached mapping addr said mapping.name kept

  -- whatever is said for an address
  pub address_leads : (mappings : List Mapping) (item : ℕ × Said) (kept : ProcessCaches) → Reached kept (at_address asked mappings item world kept).left
  address_leads mappings item kept = owner_reached item.0 item.1 (owner_of mappings item.0) kept
