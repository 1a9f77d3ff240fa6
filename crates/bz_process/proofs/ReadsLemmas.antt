-- How many files the steps of a call on a process read at most.
use Rattle.std.proofs.Common.{◌≡◌, ◌⊎◌, ℕ, zero, suc, ◌+◌, ◌≤◌, ◌<◌, Bool, true, false, not, ◌&&◌, cond, List, [], ◌∷◌, length, Option, Some, None, is_some, unwrap_or, Result, Ok, Err, Contains, slice_index_or, inl, inr, refl, sym, ap, subst, ◌∙◌, arith}
use Rattle.std.specs.FinMap as map
use Rattle.std.specs.List.{AllByRecursion}
use Rattle.std.proofs.lemmas.Cmp.{eq_by_cmp_equiv}
use Rattle.bz_base.specs.Answer.{Answer, in_batch}
use Rattle.bz_base.specs.Refusals.{IsFormatRefusal}
use Rattle.bz_base.specs.declared.error.Error.{Error}
use Rattle.bz_base.specs.declared.error.Error.TheVariants as errors
use Rattle.bz_files.specs.declared.stamp.Stamp.{Stamp}
use Rattle.bz_files.specs.World.{World, Entry, Denied, Present, entry_at, has_file}
use Rattle.bz_cache.specs.Cache.{Cache}
use Rattle.bz_cache.specs.InsertMap.{value_at, with_absent}
use Rattle.bz_cache.specs.Look.{by_entry, by_fixed, by_test, is_new, look, named, will_open}
use Rattle.bz_cache.specs.View.{fixed}
use Rattle.bz_cache.proofs.FiniteMaps.{get_inserted}
use Rattle.bz_cache.proofs.Stamps.{stamp_total, stamps_apart}
use Rattle.bz_cache.specs.FileCall.{Question, by_look}
use Rattle.bz_elf.specs.Format as elf
use Rattle.bz_elf.specs.Version as elf_version
use Rattle.bz_proc.specs.Maps.{Mapping, Name, File, Component, owner_of}
use Rattle.bz_proc.specs.PerfId.{by_status, ns_tgid_of, status_path}
use Rattle.bz_proc.specs.PerfMap as perf
use Rattle.bz_proc.specs.Status.{ns_tgid_in}
use Rattle.bz_process.specs.Asked.{Asked}
use Rattle.bz_process.specs.Caches.{ProcessCaches}
use Rattle.bz_process.specs.Process.{StepOutcome, Said, asks_elf, asks_perf_map, at_address, batched, by_asked, by_id, by_kept, by_mapping, by_owner, by_said, count_of, followed, of_elf, of_perf_map, offset_in, or_unknown, pid_cmp, remember, remembered}
use Rattle.bz_process.specs.ProcessCall.{Reaches}
use Rattle.bz_process.specs.Reads.{HasPath, ignored, is_ignored, left_to_read, unkept}
use Rattle.bz_process.specs.Remembered.{Remembered}
use Rattle.bz_process.proofs.DispatchLemmas.{value_added}
use Rattle.bz_process.proofs.LookedLemmas.{kept_test, reached_looked}
use Rattle.bz_process.proofs.ProcessLemmas.{reaches_both}
use Rattle.bz_process.proofs.RememberedLemmas.{pid_total}
use Rattle.bz_process.proofs.StepLemmas.{address_leads}
use Rattle.bz_process.proofs.ViewLemmas.{same_recall}

-- a path of a list is its first or one of the others
contains_cases : (first path : List ℕ) (later : List (List ℕ)) (k : ℕ) → k < length (first ∷ later) → slice_index_or (first ∷ later) k path ≡ path → (first ≡ path) ⊎ Contains later path
contains_cases first path later zero lt is = inl is
contains_cases first path later (suc k) lt is = inr (k, omega arith, is)

none_contained : (path : List ℕ) → Contains [] path → ⊥
none_contained path has = omega (arith, has.1)

-- a look that is refused for its file's bytes
abbrev refuses : Result (List ℕ) Error → Bool
refuses (Ok bytes) = false
refuses (Err errors.NotFound) = false
refuses (Err errors.PermissionDenied) = false
refuses (Err e) = true

-- a format refuses bytes so
refuses_so : (e : Error) → IsFormatRefusal e → refuses (Err e) ≡ true
refuses_so errors.Unsupported is = refl
refuses_so errors.InvalidInput is = refl
refuses_so errors.InvalidData is = refl
refuses_so _ is = absurd is

-- versions that are kept stay kept
abbrev KeepsVersions : Cache → Cache → Type 0
KeepsVersions old now = (u : Stamp) (k : List ℕ) → map.get old.kept u ≡ Some k → map.get now.kept u ≡ Some k

pub count_le : (b : Bool) → count_of b ≤ 1
count_le true = omega arith
count_le false = omega arith

and_le : (a b : Bool) → count_of (a && b) ≤ count_of b
and_le true b = omega arith
and_le false b = omega arith

module _ (world : World) where
  new_le : (old now : Cache) → KeepsVersions old now → (there : Option Entry) → count_of (is_new now there) ≤ count_of (is_new old there)
  new_le old now keeps None = omega arith
  new_le old now keeps (Some Denied) = omega arith
  new_le old now keeps (Some (Present s b)) = by_kept (map.get old.kept s) refl
    where
      by_kept : (o : Option (List ℕ)) → map.get old.kept s ≡ o → count_of (not (is_some (map.get now.kept s))) ≤ count_of (not (is_some o))
      by_kept None is = count_le (not (is_some (map.get now.kept s)))
      by_kept (Some k) is = rw (keeps s k is) (omega arith)

  unkept_le : (old now : Cache) → KeepsVersions old now → (paths : List (List ℕ)) → unkept world now paths ≤ unkept world old paths
  unkept_le old now keeps [] = omega arith
  unkept_le old now keeps (path ∷ later) = omega (arith, new_le old now keeps (entry_at world path), unkept_le old now keeps later)

  module _ (old now : Cache) (keeps : KeepsVersions old now) (path : List ℕ) (was : is_new old (entry_at world path) ≡ true) (is : is_new now (entry_at world path) ≡ false) where
    less_cases : (first : List ℕ) (later : List (List ℕ)) → (first ≡ path) ⊎ Contains later path → (Contains later path → unkept world now later + 1 ≤ unkept world old later) → unkept world now (first ∷ later) + 1 ≤ unkept world old (first ∷ later)
    less_cases first later (inl same) rest =
        let one : count_of (is_new old (entry_at world first)) ≡ 1 = ap (λ (p : List ℕ). count_of (is_new old (entry_at world p))) same ∙ ap count_of was in
        let none : count_of (is_new now (entry_at world first)) ≡ 0 = ap (λ (p : List ℕ). count_of (is_new now (entry_at world p))) same ∙ ap count_of is in
        omega (arith, one, none, unkept_le old now keeps later)
    less_cases first later (inr among) rest = omega (arith, new_le old now keeps (entry_at world first), rest among)

    unkept_less : (paths : List (List ℕ)) → Contains paths path → unkept world now paths + 1 ≤ unkept world old paths
    unkept_less [] has = absurd (none_contained path has)
    unkept_less (first ∷ later) has = less_cases first later (contains_cases first path later has.0 has.1 has.2) (unkept_less later)

  module _ (test : List ℕ → Option Error) (only : (bytes : List ℕ) (e : Error) → test bytes ≡ Some e → IsFormatRefusal e) (c : Cache) (path : List ℕ) (paths : List (List ℕ)) (among : Contains paths path) where
    abbrev Bounded : ℕ → Result (List ℕ) Error × Cache → Type 0
    Bounded opens looked = opens + unkept world looked.1 paths ≤ unkept world c paths + count_of (refuses looked.0)

    keeps_test : (s : Stamp) (b : List ℕ) (o : Option (List ℕ)) (t : Option Error) → map.get c.kept s ≡ o → KeepsVersions c (by_test c path s (unwrap_or o b) t).1
    keeps_test s b o t is u k kept = subst (λ (x : Option (List ℕ)). map.get (by_test c path s (unwrap_or x b) t).1.kept u ≡ Some k) is (kept_test test c path u k s b t kept)

    opens_new : (s : Stamp) (b : List ℕ) (t : Option Error) → entry_at world path ≡ Some (Present s b) → map.get c.kept s ≡ None → test b ≡ t → Bounded 1 (by_test c path s b t)
    opens_new s b (Some e) there absent formed = omega (arith, ap count_of (refuses_so e (only b e formed)))
    opens_new s b None there absent formed =
        let kept : map.get (named c path s b).kept s ≡ Some b = get_inserted stamp_total stamps_apart c.kept s b in
        let was : is_new c (entry_at world path) ≡ true = ap (is_new c) there ∙ ap (λ (o : Option (List ℕ)). not (is_some o)) absent in
        let is : is_new (named c path s b) (entry_at world path) ≡ false = ap (is_new (named c path s b)) there ∙ ap (λ (o : Option (List ℕ)). not (is_some o)) kept in
        omega (arith, unkept_less c (named c path s b) (keeps_test s b None None absent) path was is paths among)

    opens_kept : (s : Stamp) (b : List ℕ) (o : Option (List ℕ)) → entry_at world path ≡ Some (Present s b) → map.get c.kept s ≡ o → Bounded (count_of (not (is_some o))) (by_test c path s (unwrap_or o b) (test (unwrap_or o b)))
    opens_kept s b None there is = opens_new s b (test b) there is refl
    opens_kept s b (Some k) there is = omega (arith, unkept_le c (by_test c path s k (test k)).1 (keeps_test s b (Some k) (test k) is) paths)

    opens_entry : (there : Option Entry) → entry_at world path ≡ there → Bounded (count_of (is_new c there)) (by_entry test c path there)
    opens_entry None is = omega arith
    opens_entry (Some Denied) is = omega arith
    opens_entry (Some (Present s b)) is = opens_kept s b (map.get c.kept s) is refl

    -- a look reads a file, and then there is a path less whose present stamp isn't kept, or it refuses
    -- the file's bytes
    opens_look : Bounded (count_of (will_open c path (entry_at world path))) (look test c path (entry_at world path))
    opens_look = by_fix (fixed c path)
      where
        by_fix : (o : Option Stamp) → Bounded (count_of (not (is_some o) && is_new c (entry_at world path))) (by_fixed test c path (entry_at world path) o)
        by_fix (Some s) = omega arith
        by_fix None = opens_entry (entry_at world path) refl

    one_of_unkept : (all : List (List ℕ)) → Contains all path → count_of (is_new c (entry_at world path)) ≤ unkept world c all
    one_of_unkept [] has = absurd (none_contained path has)
    one_of_unkept (first ∷ later) has = by_case (contains_cases first path later has.0 has.1 has.2) (one_of_unkept later)
      where
        by_case : (first ≡ path) ⊎ Contains later path → (Contains later path → count_of (is_new c (entry_at world path)) ≤ unkept world c later) → count_of (is_new c (entry_at world path)) ≤ unkept world c (first ∷ later)
        by_case (inl same) rest = omega (arith, ap (λ (p : List ℕ). count_of (is_new c (entry_at world p))) same)
        by_case (inr among) rest = omega (arith, rest among)

    -- and it is one of those that were left to read
    opens_one : count_of (will_open c path (entry_at world path)) ≤ unkept world c paths
    opens_one = omega (arith, and_le (not (is_some (fixed c path))) (is_new c (entry_at world path)), one_of_unkept paths among)

-- an address that is refused is an ignored error
abbrev is_refused : Result Answer Error → Bool
is_refused result = is_ignored (in_batch result)

refused_so : (question : Question Answer) (looked : Result (List ℕ) Error) → count_of (refuses looked) ≤ count_of (is_refused (by_look question looked))
refused_so question (Ok bytes) = omega arith
refused_so question (Err errors.NotFound) = omega arith
refused_so question (Err errors.PermissionDenied) = omega arith
refused_so question (Err _) = omega arith

soft_so : (question : Question Answer) (looked : Result (List ℕ) Error) → count_of (refuses looked) ≤ count_of (is_refused (or_unknown (by_look question looked)))
soft_so question (Ok bytes) = omega arith
soft_so question (Err errors.NotFound) = omega arith
soft_so question (Err errors.PermissionDenied) = omega arith
soft_so question (Err _) = omega arith

module _ (world : World) (asked : Asked) (elf_paths perf_paths : List (List ℕ)) where
  abbrev left : ProcessCaches → ℕ
  left kept = left_to_read asked.pid world elf_paths perf_paths kept

  -- a step reads no more than it takes from what is left to read, but for a file that it refuses. It
  -- reads no more than is left to read
  record Takes (kept : ProcessCaches) (outcome : StepOutcome Answer) : Type 0 where
    taken : outcome.opens + left outcome.left ≤ left kept + count_of (is_refused outcome.answer)
    once : outcome.opens ≤ left kept

  -- a step that reads nothing and leaves what is kept
  takes_none : (kept : ProcessCaches) (answer : Result Answer Error) → Takes kept (record { answer = answer; left = kept; opens = 0 })
  takes_none kept answer = record { taken = omega arith; once = omega arith }

  takes_elf : (offset : Option ℕ) (path «module» : List ℕ) (kept : ProcessCaches) → Contains elf_paths path → Takes kept (of_elf (asks_elf «module» offset) path world kept)
  takes_elf offset path «module» kept among = record {
    taken = omega (arith, opens_look world elf.format_test elf_version.format_refusals kept.elf path elf_paths among, refused_so (asks_elf «module» offset) (look elf.format_test kept.elf path (entry_at world path)).0);
    once = omega (arith, opens_one world elf.format_test elf_version.format_refusals kept.elf path elf_paths among);
  }

  abbrev soft : StepOutcome Answer → StepOutcome Answer
  soft outcome = record { answer = or_unknown outcome.answer; left = outcome.left; opens = outcome.opens }

  abbrev next_look : ℕ → Remembered → ProcessCaches → StepOutcome Answer
  next_look addr known kept = of_perf_map (asks_perf_map addr) known.perf_map world kept

  -- a perf map is looked at, where some files were read before that are no more left to read
  takes_look : (addr : ℕ) (known : Remembered) (kept : ProcessCaches) → Contains perf_paths known.perf_map → Takes kept (soft (next_look addr known kept))
  takes_look addr known kept among = record {
    taken = omega (
      arith,
      opens_look world perf.format_test perf.format_refusals kept.perf_maps known.perf_map perf_paths among,
      soft_so (asks_perf_map addr) (look perf.format_test kept.perf_maps known.perf_map (entry_at world known.perf_map)).0,
    );
    once = omega (arith, opens_one world perf.format_test perf.format_refusals kept.perf_maps known.perf_map perf_paths among);
  }

  -- a status that is read and refused isn't well-formed
  status_refused : (told : Option (Option ℕ)) (e : Error) → by_status asked.pid asked.own told ≡ Err e → e ≡ errors.InvalidData
  status_refused None e is = let same : errors.InvalidData ≡ e = cc is in sym same
  status_refused (Some None) e is = cc is
  status_refused (Some (Some id)) e is = cc is

  reads_refused : (there : Option Entry) (e : Error) → ns_tgid_of asked.pid asked.own there ≡ Err e → count_of (has_file there) ≤ count_of (is_refused (or_unknown (Err e)))
  reads_refused None e is = omega arith
  reads_refused (Some Denied) e is = omega arith
  reads_refused (Some (Present stamp bytes)) e is = rw (status_refused (ns_tgid_in bytes) e is) (omega arith)

  -- the perf map of the process is among the paths
  abbrev PerfAmong : Result Remembered Error → Type 0
  PerfAmong told = (known : Remembered) → told ≡ Ok known → Contains perf_paths known.perf_map

  abbrev status : Option Entry
  status = entry_at world (status_path asked.pid)

  abbrev by_told : ProcessCaches → Result ℕ Error → StepOutcome Remembered
  by_told kept told = by_id asked.pid asked.own (count_of (has_file status)) kept told

  abbrev then_look : ℕ → StepOutcome Remembered → StepOutcome Answer
  then_look addr first = soft (followed first.answer first.left first.opens (next_look addr))

  abbrev unknown : Option Remembered → ℕ
  unknown known = count_of (not (is_some known))

  takes_id : (addr : ℕ) (kept : ProcessCaches) (told : Result ℕ Error) → ns_tgid_of asked.pid asked.own status ≡ told → value_at pid_cmp kept.ids asked.pid ≡ None →
      PerfAmong (by_told kept told).answer → Takes kept (then_look addr (by_told kept told))
  takes_id addr kept (Err e) is absent among = record {
    taken = omega (arith, reads_refused status e is);
    once = omega (arith, ap unknown absent, count_le (has_file status));
  }
  takes_id addr kept (Ok id) is absent among =
      let known = remembered asked.pid asked.own id in
      let after : ProcessCaches = record kept { ids = with_absent pid_cmp kept.ids asked.pid known } in
      let there : value_at pid_cmp after.ids asked.pid ≡ Some known =
      value_added pid_total asked.pid known asked.pid kept.ids absent ∙ ap (λ (b : Bool). cond b (Some known) (value_at pid_cmp kept.ids asked.pid)) ((eq_by_cmp_equiv pid_total).refl asked.pid) in
      let looked = takes_look addr known after (among known refl) in
      record {
        taken = omega (arith, looked.taken, ap unknown there, ap unknown absent, count_le (has_file status));
        once = omega (arith, looked.once, ap unknown there, ap unknown absent, count_le (has_file status));
      }

  takes_known : (addr : ℕ) (kept : ProcessCaches) (o : Option Remembered) → value_at pid_cmp kept.ids asked.pid ≡ o → PerfAmong (by_kept asked.pid asked.own world kept o).answer →
      Takes kept (then_look addr (by_kept asked.pid asked.own world kept o))
  takes_known addr kept (Some known) is among = let looked = takes_look addr known kept (among known refl) in record { taken = omega (arith, looked.taken); once = omega (arith, looked.once) }
  takes_known addr kept None is among = takes_id addr kept (ns_tgid_of asked.pid asked.own status) refl is among

  takes_asked : (perf_map : Bool) (addr : ℕ) (kept : ProcessCaches) → PerfAmong (remember asked.pid asked.own world kept).answer → Takes kept (by_asked perf_map asked addr world kept)
  takes_asked true addr kept among = takes_known addr kept (value_at pid_cmp kept.ids asked.pid) refl among
  takes_asked false addr kept among = takes_none kept _

  takes_said : (mapping : Mapping) (addr : ℕ) (name : Name) (said : Said) (kept : ProcessCaches) → mapping.name ≡ Some name → HasPath asked elf_paths mapping → Takes kept (by_said asked mapping addr name said world kept)
  takes_said mapping addr name (Some given) kept is has = takes_none kept given
  takes_said mapping addr (Component text) None kept is has = takes_none kept _
  takes_said mapping addr (File maps_file symbolic_path) None kept is has =
      takes_elf (offset_in mapping addr) (cond asked.map_files maps_file symbolic_path) symbolic_path kept (has maps_file symbolic_path is)

  takes_mapping : (mapping : Mapping) (addr : ℕ) (said : Said) (name : Option Name) (kept : ProcessCaches) → mapping.name ≡ name → HasPath asked elf_paths mapping → PerfAmong (remember asked.pid asked.own world kept).answer →
      Takes kept (by_mapping asked mapping addr said name world kept)
  takes_mapping mapping addr said None kept is has among = takes_asked asked.perf_map addr kept among
  takes_mapping mapping addr said (Some name) kept is has among = takes_said mapping addr name said kept is has

  takes_owner : (addr : ℕ) (said : Said) (owner : Option Mapping) (kept : ProcessCaches) → ((mapping : Mapping) → owner ≡ Some mapping → HasPath asked elf_paths mapping) → PerfAmong (remember asked.pid asked.own world kept).answer →
      Takes kept (by_owner asked addr said owner world kept)
  takes_owner addr said None kept has among = takes_none kept _
  takes_owner addr said (Some mapping) kept has among = takes_mapping mapping addr said mapping.name kept refl (has mapping refl) among

  module _ (mappings : List Mapping) (old : ProcessCaches) (old_among : PerfAmong (remember asked.pid asked.own world old).answer) where
    -- in a state that looks and remembered ids lead to
    among_after : (kept : ProcessCaches) → Reaches asked.own (Some world) old kept → PerfAmong (remember asked.pid asked.own world kept).answer
    among_after kept reached known is = old_among known (sym (same_recall asked.own world asked.pid old kept ((reached_looked world asked.own old kept reached).ids asked.pid)) ∙ is)

    -- a batch reads no more files than were left to read, and one for each address that is refused
    pub batch_reads : (items : List (ℕ × Said)) (kept : ProcessCaches) → Reaches asked.own (Some world) old kept →
        AllByRecursion (λ item. (mapping : Mapping) → owner_of mappings item.0 ≡ Some mapping → HasPath asked elf_paths mapping) items →
        (batched asked mappings items world kept).opens + left (batched asked mappings items world kept).left ≤ left kept + ignored (batched asked mappings items world kept).answers
    batch_reads [] kept reached has = omega arith
    batch_reads (item ∷ items) kept reached has =
        let next = (at_address asked mappings item world kept).left in
        omega (
          arith,
          (takes_owner item.0 item.1 (owner_of mappings item.0) kept has.0 (among_after kept reached)).taken,
          batch_reads items next (reaches_both asked.own (Some world) old kept next reached (address_leads world asked mappings item kept)) has.1,
        )

    -- an address alone reads no more files than were left to read
    pub address_reads : (item : ℕ × Said) → ((mapping : Mapping) → owner_of mappings item.0 ≡ Some mapping → HasPath asked elf_paths mapping) → (at_address asked mappings item world old).opens ≤ left old
    address_reads item has = (takes_owner item.0 item.1 (owner_of mappings item.0) old has old_among).once
