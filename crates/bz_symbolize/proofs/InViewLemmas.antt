-- Keeping something ahead of addresses is answered, or refused, as the files in view are.
use Rattle.std.proofs.Common.{◌≡◌, ℕ, Bool, true, false, cond, List, Option, Some, None, unwrap_or, is_some, Result, Ok, Err, IsOk, refl, sym, ap, subst, ◌∙◌}
use Rattle.std.specs.FinMap as map
use Rattle.bz_base.specs.declared.error.Error.{Error}
use Rattle.bz_base.specs.declared.error.Error.TheVariants as errors
use Rattle.bz_base.specs.declared.pid.Pid.{Pid}
use Rattle.bz_files.specs.World.{World, Entry, Denied, Present, entry_at}
use Rattle.bz_files.specs.declared.stamp.Stamp.{Stamp}
use Rattle.bz_cache.specs.Cache.{Cache, with_pin}
use Rattle.bz_cache.specs.Coherence.{Coherent}
use Rattle.bz_cache.specs.Format.{GivesOrFaults}
use Rattle.bz_cache.specs.InsertMap.{value_at}
use Rattle.bz_cache.specs.Look.{look, by_test, by_entry, by_fixed}
use Rattle.bz_cache.specs.View.{by_format, bytes_of_view, fixed, shown}
use Rattle.bz_cache.specs.Pinning.{pinned_by, pinning}
use Rattle.bz_proc.specs.Maps.{Mapping}
use Rattle.bz_proc.specs.MapsFile.{maps_path, maps_told}
use Rattle.bz_proc.specs.PerfMap as perf
use Rattle.bz_process.specs.Caches.{ProcessCaches}
use Rattle.bz_process.specs.Caching.{after_mappings, caches_perf_map, caches_process, caching_of, pins_perf_map, pinned_if_absent}
use Rattle.bz_process.specs.Process.{Step, by_id, by_kept, followed, pid_cmp, remember}
use Rattle.bz_process.specs.ProcessCall.{UnlessFailed}
use Rattle.bz_process.specs.Remembered.{Remembered}
use Rattle.bz_process.specs.declared.caching.ProcessCaching.{ProcessCaching}
use Rattle.bz_symbolize.specs.Caching.{finished, in_turn, or_absent, perf_map_in_view, unpinned_in_view}

-- what is kept, or else what lies there, is what lies there where both are the same
same_version : (kept : Option (List ℕ)) (bytes : List ℕ) → ((k : List ℕ) → kept ≡ Some k → bytes ≡ k) → unwrap_or kept bytes ≡ bytes
same_version None bytes same = refl
same_version (Some k) bytes same = sym (same k refl)

-- a path is pinned, or refused, as it is in view
module _ (test : List ℕ → Option Error) (cache : Cache) (world : World) (path : List ℕ) where
  pinned_answer : (looked : Result (List ℕ) Error × Cache) → (pinned_by cache path looked).0 ≡ finished looked.0
  pinned_answer (Ok version, left) = refl
  pinned_answer (Err e, left) = refl

  by_read : (stamp : Stamp) (bytes : List ℕ) (t : Option Error) → finished (by_test (with_pin false cache path) path stamp bytes t).0 ≡ finished (by_format bytes t)
  by_read stamp bytes None = refl
  by_read stamp bytes (Some e) = refl

  module _ (coherent : Coherent cache.kept world) where
    by_there : (there : Option Entry) → entry_at world path ≡ there → finished (by_entry test (with_pin false cache path) path there).0 ≡ finished (bytes_of_view test (shown there))
    by_there None is = refl
    by_there (Some Denied) is = refl
    by_there (Some (Present stamp bytes)) is = rw (same_version (map.get cache.kept stamp) bytes (λ k kept. coherent path stamp bytes k is kept)) (by_read stamp bytes (test bytes))

    by_fix : (o : Option Stamp) →
        finished (by_fixed test (with_pin false cache path) path (entry_at world path) o).0 ≡ cond (is_some o) (Ok tt) (finished (bytes_of_view test (shown (entry_at world path))))
    by_fix (Some stamp) = refl
    by_fix None = by_there (entry_at world path) refl

    pub pinned_in_view : (pinning test cache path (entry_at world path)).0 ≡ unpinned_in_view test cache world path
    pinned_in_view = pinned_answer (look test (with_pin false cache path) path (entry_at world path)) ∙ by_fix (fixed (with_pin false cache path) path)

-- Where each kept version is in the format, a path is pinned where the file in view is answered. The
-- version that is pinned may be a kept one that isn't in view. Where a refusal in view is softened to
-- an answer, so is that of the pinning.
module _ (test : List ℕ → Option Error) (cache : Cache) (world : World) (path : List ℕ) (formed : (stamp : Stamp) (bytes : List ℕ) → map.get cache.kept stamp ≡ Some bytes → test bytes ≡ None)
    (softened : Result (Unit {0}) Error → Result (Unit {0}) Error) (soft : softened (Ok tt) ≡ Ok tt) where
  if_read : (stamp : Stamp) (bytes : List ℕ) (kept : Option (List ℕ)) → ((k : List ℕ) → kept ≡ Some k → test k ≡ None) → softened (finished (by_format bytes (test bytes))) ≡ Ok tt →
      softened (finished (by_test (with_pin false cache path) path stamp (unwrap_or kept bytes) (test (unwrap_or kept bytes))).0) ≡ Ok tt
  if_read stamp bytes None passes is = ap softened (by_read test cache world path stamp bytes (test bytes)) ∙ is
  if_read stamp bytes (Some k) passes is = subst (λ (t : Option Error). softened (finished (by_test (with_pin false cache path) path stamp k t).0) ≡ Ok tt) (sym (passes k refl)) soft

  if_there : (there : Option Entry) → softened (finished (bytes_of_view test (shown there))) ≡ Ok tt → softened (finished (by_entry test (with_pin false cache path) path there).0) ≡ Ok tt
  if_there None is = is
  if_there (Some Denied) is = is
  if_there (Some (Present stamp bytes)) is = if_read stamp bytes (map.get cache.kept stamp) (formed stamp) is

  if_fixed : (o : Option Stamp) → softened (cond (is_some o) (Ok tt) (finished (bytes_of_view test (shown (entry_at world path))))) ≡ Ok tt →
      softened (finished (by_fixed test (with_pin false cache path) path (entry_at world path) o).0) ≡ Ok tt
  if_fixed (Some stamp) is = soft
  if_fixed None is = if_there (entry_at world path) is

  pub pinned_if_in_view : softened (unpinned_in_view test cache world path) ≡ Ok tt → softened (pinning test cache path (entry_at world path)).0 ≡ Ok tt
  pinned_if_in_view is = ap softened (pinned_answer test cache world path (look test (with_pin false cache path) path (entry_at world path))) ∙ if_fixed (fixed (with_pin false cache path) path) is

-- an absent file is no refusal
absent_answer : (cache : Cache) (path : List ℕ) (pinned : Result (Unit {0}) Error × Cache) → (pinned_if_absent cache path pinned).0 ≡ or_absent pinned.0
absent_answer cache path (Ok tt, left) = refl
absent_answer cache path (Err errors.NotFound, left) = refl
absent_answer cache path (Err _, left) = refl

module _ (pid : Pid) (own : ℕ) (world : World) (kept : ProcessCaches) where
  -- remembering changes no cache
  left_id : (opens : ℕ) (id : Result ℕ Error) → (by_id pid own opens kept id).left.perf_maps ≡ kept.perf_maps
  left_id opens (Ok id) = refl
  left_id opens (Err e) = refl

  left_kept : (o : Option Remembered) → (by_kept pid own world kept o).left.perf_maps ≡ kept.perf_maps
  left_kept (Some known) = refl
  left_kept None = left_id _ _

  -- the mappings come first
  turn : (told : Result (List Mapping) Error) (opens : ℕ) (next : Step (Unit {0})) (later : Result (Unit {0}) Error) → (next world kept).answer ≡ later →
      (followed told kept opens (λ g l. next world l)).answer ≡ in_turn (finished told) later
  turn (Ok mappings) opens next later is = is
  turn (Err e) opens next later is = refl

  mapped_in_view : (wanted : Bool) (next : Step (Unit {0})) (later : Result (Unit {0}) Error) → (next world kept).answer ≡ later →
      (after_mappings wanted pid next world kept).answer ≡ in_turn (cond wanted (finished (maps_told pid (entry_at world (maps_path pid)))) (Ok tt)) later
  mapped_in_view true next later is = turn (maps_told pid (entry_at world (maps_path pid))) _ next later is
  mapped_in_view false next later is = is

  module _ (coherent : Coherent kept.perf_maps.kept world) where
    known_in_view : (known : Result Remembered Error) (left : ProcessCaches) (opens : ℕ) → left.perf_maps ≡ kept.perf_maps →
        (followed known left opens (λ k l. pins_perf_map k.perf_map world l)).answer ≡ perf_map_in_view kept.perf_maps world known
    known_in_view (Ok known) left opens same =
        ap (λ (c : Cache). (pinned_if_absent c known.perf_map (pinning perf.format_test c known.perf_map (entry_at world known.perf_map))).0) same
        ∙ absent_answer kept.perf_maps known.perf_map (pinning perf.format_test kept.perf_maps known.perf_map (entry_at world known.perf_map))
        ∙ ap or_absent (pinned_in_view perf.format_test kept.perf_maps world known.perf_map coherent)
    known_in_view (Err e) left opens same = refl

    map_in_view : (wanted : Bool) → (caches_perf_map wanted pid own world kept).answer ≡ cond wanted (perf_map_in_view kept.perf_maps world (remember pid own world kept).answer) (Ok tt)
    map_in_view true = known_in_view (remember pid own world kept).answer (remember pid own world kept).left (remember pid own world kept).opens (left_kept (value_at pid_cmp kept.ids pid))
    map_in_view false = refl

  module _ (formed : (stamp : Stamp) (bytes : List ℕ) → map.get kept.perf_maps.kept stamp ≡ Some bytes → perf.format_test bytes ≡ None) where
    known_if_in_view : (known : Result Remembered Error) (left : ProcessCaches) (opens : ℕ) → left.perf_maps ≡ kept.perf_maps → perf_map_in_view kept.perf_maps world known ≡ Ok tt →
        (followed known left opens (λ k l. pins_perf_map k.perf_map world l)).answer ≡ Ok tt
    known_if_in_view (Ok known) left opens same is =
        ap (λ (c : Cache). (pinned_if_absent c known.perf_map (pinning perf.format_test c known.perf_map (entry_at world known.perf_map))).0) same
        ∙ absent_answer kept.perf_maps known.perf_map (pinning perf.format_test kept.perf_maps known.perf_map (entry_at world known.perf_map))
        ∙ pinned_if_in_view perf.format_test kept.perf_maps world known.perf_map formed (λ a. or_absent a) refl is
    known_if_in_view (Err e) left opens same is = is

    map_if_in_view : (wanted : Bool) → cond wanted (perf_map_in_view kept.perf_maps world (remember pid own world kept).answer) (Ok tt) ≡ Ok tt →
        (caches_perf_map wanted pid own world kept).answer ≡ Ok tt
    map_if_in_view true is =
        known_if_in_view (remember pid own world kept).answer (remember pid own world kept).left (remember pid own world kept).opens (left_kept (value_at pid_cmp kept.ids pid)) is
    map_if_in_view false is = refl

-- caching a process is answered, or refused, as its files in view are
pub process_in_view : (request : ProcessCaching) (own : ℕ) (world : World) (kept : ProcessCaches) → Coherent kept.perf_maps.kept world →
    (caches_process (caching_of own request) world kept).answer
    ≡ in_turn (cond request.cache_vmas (finished (maps_told request.pid (entry_at world (maps_path request.pid)))) (Ok tt))
    (cond request.cache_perf_map (perf_map_in_view kept.perf_maps world (remember request.pid own world kept).answer) (Ok tt))
process_in_view request own world kept coherent =
    mapped_in_view request.pid own world kept request.cache_vmas (caches_perf_map request.cache_perf_map request.pid own) _ (map_in_view request.pid own world kept coherent request.cache_perf_map)

-- one after another: where the later one is answered in view, and so it is
in_turn_if : (first later now : Result (Unit {0}) Error) → (later ≡ Ok tt → now ≡ Ok tt) → in_turn first later ≡ Ok tt → in_turn first now ≡ Ok tt
in_turn_if (Ok done) later now so is = so is
in_turn_if (Err e) later now so is = is

-- caching a process is answered where its files in view answer, if each kept perf map is in its format
pub process_if_in_view : (request : ProcessCaching) (own : ℕ) (world : World) (kept : ProcessCaches) → ((stamp : Stamp) (bytes : List ℕ) → map.get kept.perf_maps.kept stamp ≡ Some bytes → perf.format_test bytes ≡ None) →
    in_turn (cond request.cache_vmas (finished (maps_told request.pid (entry_at world (maps_path request.pid)))) (Ok tt))
    (cond request.cache_perf_map (perf_map_in_view kept.perf_maps world (remember request.pid own world kept).answer) (Ok tt))
    ≡ Ok tt →
    (caches_process (caching_of own request) world kept).answer ≡ Ok tt
process_if_in_view request own world kept formed is =
    mapped_in_view request.pid own world kept request.cache_vmas (caches_perf_map request.cache_perf_map request.pid own) _ refl
    ∙ in_turn_if (cond request.cache_vmas (finished (maps_told request.pid (entry_at world (maps_path request.pid)))) (Ok tt)) _ _ (map_if_in_view request.pid own world kept formed request.cache_perf_map) is

-- what is expected to be answered is, unless something fails
pub answered : (expected result : Result (Unit {0}) Error) → GivesOrFaults (λ (done : Unit {0}). done) expected result → expected ≡ Ok tt → UnlessFailed result (IsOk result)
answered expected (Ok tt) comes is = refl
answered expected (Err errors.ReadFault) comes is = tt
answered expected (Err errors.OutOfMemory) comes is = tt
answered expected (Err _) comes is = let none = sym comes ∙ is in cc none
