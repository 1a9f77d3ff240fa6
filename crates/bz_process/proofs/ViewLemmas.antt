-- The version in view stays the same one over looks at a world that what is kept coheres with, and
-- answers by itself.
use Rattle.std.proofs.Common.{◌≡◌, unwrap_or, ℕ, Bool, true, false, cond, List, [], Option, Some, None, option_map, Result, Ok, Err, inl, inr, refl, sym, ap, ◌∙◌}
use Rattle.std.specs.FinMap as map
use Rattle.bz_base.specs.declared.error.Error.{Error}
use Rattle.bz_base.specs.declared.pid.Pid.{Pid}
use Rattle.bz_files.specs.World.{World, Present, entry_at, has_file}
use Rattle.bz_files.specs.declared.stamp.Stamp.{Stamp}
use Rattle.bz_cache.specs.Cache.{Cache, Consistent, PathState, stamp_eq}
use Rattle.bz_cache.specs.Coherence.{Coherent}
use Rattle.bz_cache.specs.InsertMap.{value_at}
use Rattle.bz_cache.specs.Look.{look, moved, with_earlier}
use Rattle.bz_cache.specs.View.{Shown, by_fixed_view, bytes_at, fixed, shown, view}
use Rattle.bz_cache.proofs.Looking.{current_kept, fixed_current}
use Rattle.bz_cache.proofs.Naming.{some_at}
use Rattle.bz_cache.proofs.Stamps.{same_stamp}
use Rattle.bz_cache.specs.FileCall.{by_look, shown_answer}
use Rattle.bz_cache.proofs.FileLemmas.{look_by_view}
use Rattle.bz_elf.specs.Format as elf
use Rattle.bz_proc.specs.Maps.{Mapping, Name, File, Component, owner_of}
use Rattle.bz_proc.specs.PerfId.{status_path}
use Rattle.bz_proc.specs.PerfMap as perf
use Rattle.bz_process.specs.Asked.{Asked}
use Rattle.bz_process.specs.Caches.{ProcessCaches}
use Rattle.bz_process.specs.InView.{CoheresIn, address_in_view, mapping_in_view, owner_in_view, perf_map_in_view, unnamed_in_view}
use Rattle.bz_process.specs.Process.{asks_elf, asks_perf_map, at_address, by_asked, by_id, by_kept, by_mapping, by_owner, count_of, followed, of_perf_map, offset_in, or_unknown, pid_cmp, remember, unsaid}
use Rattle.bz_process.specs.Reached.{AreLookedOver, IsAsLooked, IsAsTold, IsLookedOver}
use Rattle.bz_process.specs.Remembered.{Remembered}
use Rattle.bz_process.proofs.LookedLemmas.{fixed_same}

-- a path that is seen with a stamp has it as its current one
moved_current : (s : Stamp) (o : Option PathState) → (moved s o).current ≡ s
moved_current s None = refl
moved_current s (Some e) = by_same (stamp_eq e.current s) refl
  where
    by_same : (b : Bool) → stamp_eq e.current s ≡ b → (cond b (record e { pinned = false }) (record { current = s; pinned = false; earlier = with_earlier e.earlier e.current })).current ≡ s
    by_same true is = same_stamp e.current s is
    by_same false is = refl

module _ (world : World) (path : List ℕ) (test : List ℕ → Option Error) (old now : Cache) (well_old : Consistent test old) (well_now : Consistent test now) (coherent : Coherent now.kept world) (over : IsLookedOver world old now) where
  -- a path that is fixed at a stamp keeps its version
  fixed_kept : (c : Cache) (s : Stamp) → Consistent test c → fixed c path ≡ Some s → map.get c.kept s ≡ Some (bytes_at c s)
  fixed_kept c s well fix = some_at (map.get c.kept s) [] (current_kept test c path s [] well (fixed_current test c path s [] fix))

  same_bytes : (s : Stamp) → fixed old path ≡ Some s → bytes_at now s ≡ bytes_at old s
  same_bytes s fix = ap (λ (o : Option (List ℕ)). unwrap_or o []) (over.keeps s (bytes_at old s) (fixed_kept old s well_old fix))

  by_fix_same : (o : Option Stamp) → fixed old path ≡ o → fixed now path ≡ fixed old path → view now world path ≡ view old world path
  by_fix_same None fix same = ap (by_fixed_view now (entry_at world path)) (same ∙ fix) ∙ sym (ap (by_fixed_view old (entry_at world path)) fix)
  by_fix_same (Some s) fix same = ap (by_fixed_view now (entry_at world path)) (same ∙ fix) ∙ ap Shown (same_bytes s fix) ∙ sym (ap (by_fixed_view old (entry_at world path)) fix)

  -- a path that is fixed is fixed at its current stamp
  current_is : (e : PathState) (t : Stamp) → map.get now.paths path ≡ Some e → fixed now path ≡ Some t → e.current ≡ t
  current_is e t held fix = same (sym (ap (option_map (λ (state : PathState). state.current)) held) ∙ fixed_current test now path t [] fix)
    where
      same : Some e.current ≡ Some t → e.current ≡ t
      same is = cc is

  by_fix_now : (s : Stamp) (b : List ℕ) (o : Option Stamp) → fixed now path ≡ o → entry_at world path ≡ Some (Present s b) → map.get now.paths path ≡ Some (moved s (map.get old.paths path)) → view now world path ≡ Shown b
  by_fix_now s b None fix there state = ap (by_fixed_view now (entry_at world path)) fix ∙ ap shown there
  by_fix_now s b (Some t) fix there state =
      let at_s : s ≡ t = sym (moved_current s (map.get old.paths path)) ∙ current_is (moved s (map.get old.paths path)) t state fix in
      let bytes : b ≡ bytes_at now t = coherent path t b (bytes_at now t) (there ∙ ap (λ (u : Stamp). Some (Present u b)) at_s) (fixed_kept now t well_now fix) in
      ap (by_fixed_view now (entry_at world path)) fix ∙ ap Shown (sym bytes)

  by_looked : IsAsLooked world path old now → view now world path ≡ view old world path
  by_looked (inl is) = by_fix_same (fixed old path) refl (fixed_same world path old now over.reload is)
  by_looked (inr seen) = by_fix_now seen.stamp seen.bytes (fixed now path) refl seen.present seen.state ∙ sym (ap (by_fixed_view old (entry_at world path)) seen.not_fixed ∙ ap shown seen.present)

  -- so it stays in view
  pub same_view : view now world path ≡ view old world path
  same_view = by_looked (over.paths path)

module _ (own : ℕ) (world : World) (pid : Pid) (old now : ProcessCaches) where
  same_id : (opens : ℕ) (id : Result ℕ Error) → (by_id pid own opens now id).answer ≡ (by_id pid own opens old id).answer
  same_id opens (Ok id) = refl
  same_id opens (Err e) = refl

  same_kept : (o : Option Remembered) → (by_kept pid own world now o).answer ≡ (by_kept pid own world old o).answer
  same_kept (Some known) = refl
  same_kept None = same_id _ _

  known_same : (o n : Option Remembered) → IsAsTold own world pid o n → (by_kept pid own world now n).answer ≡ (by_kept pid own world old o).answer
  known_same o n (inl is) = ap (λ (x : Option Remembered). (by_kept pid own world now x).answer) is ∙ same_kept o
  known_same o n (inr told) =
      let opens : ℕ = count_of (has_file (entry_at world (status_path pid))) in
      ap (λ (x : Option Remembered). (by_kept pid own world now x).answer) told.known
      ∙ sym (ap (λ (x : Option Remembered). (by_kept pid own world old x).answer) told.unknown ∙ ap (λ (r : Result ℕ Error). (by_id pid own opens old r).answer) told.told)

  -- what is remembered of a process, or would be, is the same after looks and remembered ids
  pub same_recall : IsAsTold own world pid (value_at pid_cmp old.ids pid) (value_at pid_cmp now.ids pid) → (remember pid own world now).answer ≡ (remember pid own world old).answer
  same_recall told = known_same (value_at pid_cmp old.ids pid) (value_at pid_cmp now.ids pid) told

-- an address that lies in a mapped file gives this, and one in a mapping without a name where perf
-- maps are asked
abbrev pub InFile : Type 0 → List Mapping → ℕ → Type 0
InFile X mappings addr = (mapping : Mapping) (maps_file symbolic_path : List ℕ) → owner_of mappings addr ≡ Some mapping → mapping.name ≡ Some (File maps_file symbolic_path) → X

abbrev pub InNoFile : Type 0 → Asked → List Mapping → ℕ → Type 0
InNoFile X asked mappings addr = asked.perf_map ≡ true → (mapping : Mapping) → owner_of mappings addr ≡ Some mapping → mapping.name ≡ None → X

-- what answers in view is the same after looks and remembered ids
module _ {uses_elf uses_perf_maps : Type 0} (asked : Asked) (world : World) (old now : ProcessCaches) (coheres_old : CoheresIn uses_elf uses_perf_maps world old) (coheres_now : CoheresIn uses_elf uses_perf_maps world now)
    (over : AreLookedOver asked.own world old now) where
  elf_same : uses_elf → (path : List ℕ) → view now.elf world path ≡ view old.elf world path
  elf_same used path = same_view world path elf.format_test old.elf now.elf coheres_old.elf coheres_now.elf (coheres_now.elf_coheres used) over.elf

  perf_map_same : uses_perf_maps → (addr : ℕ) (known : Result Remembered Error) → perf_map_in_view asked world now addr known ≡ perf_map_in_view asked world old addr known
  perf_map_same used addr (Ok known) =
      ap (shown_answer (asks_perf_map addr)) (same_view world known.perf_map perf.format_test old.perf_maps now.perf_maps coheres_old.perf_maps coheres_now.perf_maps (coheres_now.perf_maps_cohere used) over.perf_maps)
  perf_map_same used addr (Err e) = refl

  unnamed_same : (perf_map : Bool) → (perf_map ≡ true → uses_perf_maps) → (addr : ℕ) → unnamed_in_view asked world now perf_map addr ≡ unnamed_in_view asked world old perf_map addr
  unnamed_same true used addr =
      ap or_unknown (ap (perf_map_in_view asked world now addr) (same_recall asked.own world asked.pid old now (over.ids asked.pid)) ∙ perf_map_same (used refl) addr (remember asked.pid asked.own world old).answer)
  unnamed_same false used addr = refl

  mapping_same : (mapping : Mapping) (addr : ℕ) (name : Option Name) → ((maps_file symbolic_path : List ℕ) → name ≡ Some (File maps_file symbolic_path) → uses_elf) → (name ≡ None → asked.perf_map ≡ true → uses_perf_maps) →
      mapping_in_view asked world now mapping addr name ≡ mapping_in_view asked world old mapping addr name
  mapping_same mapping addr None file no_name = unnamed_same asked.perf_map (no_name refl) addr
  mapping_same mapping addr (Some (Component text)) file no_name = refl
  mapping_same mapping addr (Some (File maps_file symbolic_path)) file no_name =
      ap (shown_answer (asks_elf symbolic_path (offset_in mapping addr))) (elf_same (file maps_file symbolic_path refl) (cond asked.map_files maps_file symbolic_path))

  owner_same : (mappings : List Mapping) (addr : ℕ) → InFile uses_elf mappings addr → InNoFile uses_perf_maps asked mappings addr → (owner : Option Mapping) → owner_of mappings addr ≡ owner →
      owner_in_view asked world now addr owner ≡ owner_in_view asked world old addr owner
  owner_same mappings addr file no_file None is = refl
  owner_same mappings addr file no_file (Some mapping) is =
      mapping_same mapping addr mapping.name (λ maps_file symbolic_path named. file mapping maps_file symbolic_path is named) (λ none asks. no_file asks mapping is none)

  pub address_same : (mappings : List Mapping) (addr : ℕ) → InFile uses_elf mappings addr → InNoFile uses_perf_maps asked mappings addr →
      address_in_view asked world now mappings addr ≡ address_in_view asked world old mappings addr
  address_same mappings addr file no_file = owner_same mappings addr file no_file (owner_of mappings addr) refl

-- a step answers by what is in view
module _ {uses_elf uses_perf_maps : Type 0} (asked : Asked) (world : World) (kept : ProcessCaches) (coheres : CoheresIn uses_elf uses_perf_maps world kept) where
  -- remembering changes no cache
  left_id : (opens : ℕ) (id : Result ℕ Error) → (by_id asked.pid asked.own opens kept id).left.perf_maps ≡ kept.perf_maps
  left_id opens (Ok id) = refl
  left_id opens (Err e) = refl

  left_kept : (o : Option Remembered) → (by_kept asked.pid asked.own world kept o).left.perf_maps ≡ kept.perf_maps
  left_kept (Some known) = refl
  left_kept None = left_id _ _

  known_shown : uses_perf_maps → (addr : ℕ) (known : Result Remembered Error) (left : ProcessCaches) (opens : ℕ) → left.perf_maps ≡ kept.perf_maps →
      (followed known left opens (λ k l. of_perf_map (asks_perf_map addr) k.perf_map world l)).answer ≡ perf_map_in_view asked world kept addr known
  known_shown used addr (Ok known) left opens same =
      ap (λ (c : Cache). by_look (asks_perf_map addr) (look perf.format_test c known.perf_map (entry_at world known.perf_map)).0) same
      ∙ look_by_view (asks_perf_map addr) kept.perf_maps world known.perf_map (coheres.perf_maps_cohere used)
  known_shown used addr (Err e) left opens same = refl

  unnamed_shown : (perf_map : Bool) → (perf_map ≡ true → uses_perf_maps) → (addr : ℕ) → (by_asked perf_map asked addr world kept).answer ≡ unnamed_in_view asked world kept perf_map addr
  unnamed_shown true used addr =
      ap or_unknown (known_shown (used refl) addr (remember asked.pid asked.own world kept).answer (remember asked.pid asked.own world kept).left (remember asked.pid asked.own world kept).opens
      (left_kept (value_at pid_cmp kept.ids asked.pid)))
  unnamed_shown false used addr = refl

  mapping_shown : (mapping : Mapping) (addr : ℕ) (name : Option Name) → ((maps_file symbolic_path : List ℕ) → name ≡ Some (File maps_file symbolic_path) → uses_elf) → (name ≡ None → asked.perf_map ≡ true → uses_perf_maps) →
      (by_mapping asked mapping addr None name world kept).answer ≡ mapping_in_view asked world kept mapping addr name
  mapping_shown mapping addr None file no_name = unnamed_shown asked.perf_map (no_name refl) addr
  mapping_shown mapping addr (Some (Component text)) file no_name = refl
  mapping_shown mapping addr (Some (File maps_file symbolic_path)) file no_name =
      look_by_view (asks_elf symbolic_path (offset_in mapping addr)) kept.elf world (cond asked.map_files maps_file symbolic_path) (coheres.elf_coheres (file maps_file symbolic_path refl))

  owner_shown : (mappings : List Mapping) (addr : ℕ) → InFile uses_elf mappings addr → InNoFile uses_perf_maps asked mappings addr → (owner : Option Mapping) → owner_of mappings addr ≡ owner →
      (by_owner asked addr None owner world kept).answer ≡ owner_in_view asked world kept addr owner
  owner_shown mappings addr file no_file None is = refl
  owner_shown mappings addr file no_file (Some mapping) is =
      mapping_shown mapping addr mapping.name (λ maps_file symbolic_path named. file mapping maps_file symbolic_path is named) (λ none asks. no_file asks mapping is none)

  pub address_shown : (mappings : List Mapping) (addr : ℕ) → InFile uses_elf mappings addr → InNoFile uses_perf_maps asked mappings addr →
      (at_address asked mappings (unsaid addr) world kept).answer ≡ address_in_view asked world kept mappings addr
  address_shown mappings addr file no_file = owner_shown mappings addr file no_file (owner_of mappings addr) refl
