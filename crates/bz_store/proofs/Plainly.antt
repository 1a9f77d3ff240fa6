-- What a store answers and keeps, by the world in view and by its answers.
use Rattle.std.proofs.Common.{◌≡◌, ℕ, zero, suc, Bool, true, false, cond, not, ◌&&◌, ◌||◌, is_some, List, [], ◌∷◌, ◌++◌, map, take, Option, Some, None, refl, sym, ap, ap₂, subst, ◌∙◌}
use Rattle.std.proofs.lemmas.List.{append-nil, append_assoc, take-map}
use Rattle.std.specs.List.{list_any}
use Rattle.std.specs.Map.{lookup, remove_entry}
use Rattle.std.specs.Option.{option_map_or}
use Rattle.bz_base.specs.declared.types.FindSymOpts.{FindSymOpts}
use Rattle.bz_breakpad.specs.Reader.{table_in}
use Rattle.bz_breakpad.specs.Table.{Table}
use Rattle.bz_cache.specs.Look.{opens_after}
use Rattle.bz_files.specs.World.{World}
use Rattle.bz_store.specs.Calls.{found_each}
use Rattle.bz_store.specs.Frames.{Key, Frame, FrameReading, BadName, is_good, key_eq}
use Rattle.bz_store.specs.Plain.{AreOfWorld, IsOf, answer_in, answered, is_opened_by, keep_key, keep_answered, keys, keys_after, opens_after_all, without}
use Rattle.bz_store.specs.Shelf.{ShelfFiles, keep}
use Rattle.bz_store.specs.Visits.{Found, Holds, Absent, Denied, State, by_found, by_source, by_table, found_at, is_opened, is_read, kept_after, source, stays, visit, visited}
use Rattle.bz_store.proofs.Keeping.{key_is}

module _ (world : World) (root : List ℕ) where
  all_taken : (n : ℕ) (kept : ShelfFiles) → AreOfWorld world root kept → AreOfWorld world root (take n kept)
  all_taken zero kept all = tt
  all_taken (suc n) [] all = tt
  all_taken (suc n) (e ∷ kept) all = (all.0, all_taken n kept all.1)

  all_without : (key : Key) (kept : ShelfFiles) → AreOfWorld world root kept → AreOfWorld world root (remove_entry (key_eq key) kept)
  all_without key [] all = tt
  all_without key (e ∷ kept) all = elim (key_eq key e.0) as (λ b. AreOfWorld world root (cond b kept (e ∷ remove_entry (key_eq key) kept))) [
    | true ↦ all.1
    | false ↦ (all.0, all_without key kept all.1)
  ]

  all_kept : (cap : ℕ) (key : Key) (bytes : List ℕ) (kept : ShelfFiles) → IsOf world root (key, bytes) → AreOfWorld world root kept → AreOfWorld world root (keep cap key bytes kept)
  all_kept cap key bytes kept is all = all_taken cap ((key, bytes) ∷ remove_entry (key_eq key) kept) (is, all_without key kept all)

  -- a file that is kept has the bytes of its path
  held : (key : Key) (bytes : List ℕ) (kept : ShelfFiles) → AreOfWorld world root kept → lookup (key_eq key) kept ≡ Some bytes → IsOf world root (key, bytes)
  held key bytes [] all is = cc
  held key bytes (e ∷ kept) all is = (elim (key_eq key e.0) as (λ b. key_eq key e.0 ≡ b → IsOf world root (key, bytes)) [
    | true ↦ λ t. let is' = rw t at is in let same : e.1 ≡ bytes = cc in
        subst (λ b. IsOf world root (key, b)) same (subst (λ k. IsOf world root (k, e.1)) (sym (key_is key e.0 t)) all.0)
    | false ↦ λ t. held key bytes kept all.1 (rw t at is)
  ]) refl

  -- so what answers for a file is what is found, whether it is kept or not
  by_world : (key : Key) (kept : ShelfFiles) → AreOfWorld world root kept → (o : Option (List ℕ)) → lookup (key_eq key) kept ≡ o → option_map_or Holds o (found_at world root key) ≡ found_at world root key
  by_world key kept all None is = refl
  by_world key kept all (Some bytes) is = sym (held key bytes kept all is)

  abbrev alone : Bool → Found → Option Found
  alone good found = cond good (Some found) None

  source_alone : (key : Key) (kept : ShelfFiles) → AreOfWorld world root kept → source kept key (found_at world root key) ≡ alone (is_good key) (found_at world root key)
  source_alone key kept all = ap (alone (is_good key)) (by_world key kept all (lookup (key_eq key) kept) refl)

  module _ (cap : ℕ) (opts : FindSymOpts) where
    at_table : (key : Key) (bytes : List ℕ) (o : Option Table) (kept : ShelfFiles) → IsOf world root (key, bytes) → AreOfWorld world root kept → AreOfWorld world root (stays o (keep cap key bytes kept) kept)
    at_table key bytes None kept is all = all
    at_table key bytes (Some table) kept is all = all_kept cap key bytes kept is all

    at_found : (key : Key) (good : Bool) (found : Found) (kept : ShelfFiles) → found_at world root key ≡ found → AreOfWorld world root kept → AreOfWorld world root (kept_after cap key (alone good found) kept)
    at_found key false found kept is all = all
    at_found key true Absent kept is all = all
    at_found key true Denied kept is all = all
    at_found key true (Holds bytes) kept is all = at_table key bytes (table_in bytes) kept is all

    answer_alone : (offset : ℕ) (good : Bool) (found : Found) → by_source opts offset (alone good found) ≡ cond good (by_found opts offset found) BadName
    answer_alone offset false found = refl
    answer_alone offset true found = refl

    -- frames are answered by the world alone, and what is kept stays that of the world
    pub answers_on : (frames : List Frame) (s : State) → AreOfWorld world root s.kept →
        AreOfWorld world root (visited cap opts (found_each world root frames) s).kept × ((visited cap opts (found_each world root frames) s).answers ≡ s.answers ++ map (answer_in world root opts) frames)
    answers_on [] s all = (all, sym (append-nil s.answers))
    answers_on (f ∷ fs) s all =
        let found = found_at world root f.file in
        let same = source_alone f.file s.kept all in
        let kept : AreOfWorld world root (visit cap opts (f, found) s).kept =
        subst (λ from. AreOfWorld world root (kept_after cap f.file from s.kept)) (sym same) (at_found f.file (is_good f.file) found s.kept refl all) in
        let one : by_source opts f.offset (source s.kept f.file found) ≡ answer_in world root opts f = ap (by_source opts f.offset) same ∙ answer_alone f.offset (is_good f.file) found in
        let on = answers_on fs (visit cap opts (f, found) s) kept in
        (on.0, on.1 ∙ ap (λ r. (s.answers ++ r ∷ []) ++ map (answer_in world root opts) fs) one ∙ append_assoc s.answers (answer_in world root opts f ∷ []) (map (answer_in world root opts) fs))

keys_without : (key : Key) (kept : ShelfFiles) → keys (remove_entry (key_eq key) kept) ≡ without key (keys kept)
keys_without key [] = refl
keys_without key (e ∷ kept) = elim (key_eq key e.0) as (λ b. keys (cond b kept (e ∷ remove_entry (key_eq key) kept)) ≡ cond b (keys kept) (e.0 ∷ without key (keys kept))) [
  | true ↦ refl
  | false ↦ ap (λ l. e.0 ∷ l) (keys_without key kept)
]

keys_kept : (cap : ℕ) (key : Key) (bytes : List ℕ) (kept : ShelfFiles) → keys (keep cap key bytes kept) ≡ keep_key cap key (keys kept)
keys_kept cap key bytes kept = sym (take-map (λ e. e.0) cap ((key, bytes) ∷ remove_entry (key_eq key) kept)) ∙ ap (λ l. take cap (key ∷ l)) (keys_without key kept)

key_there : (key : Key) (kept : ShelfFiles) → is_some (lookup (key_eq key) kept) ≡ list_any (key_eq key) (keys kept)
key_there key [] = refl
key_there key (e ∷ kept) = elim (key_eq key e.0) as (λ b. is_some (cond b (Some e.1) (lookup (key_eq key) kept)) ≡ b || list_any (key_eq key) (keys kept)) [
  | true ↦ refl
  | false ↦ key_there key kept
]

module _ (cap : ℕ) (opts : FindSymOpts) where
  keys_table : (key : Key) (offset : ℕ) (bytes : List ℕ) (o : Option Table) (kept : ShelfFiles) → keys (stays o (keep cap key bytes kept) kept) ≡ keep_answered cap key (by_table opts offset o) (keys kept)
  keys_table key offset bytes None kept = refl
  keys_table key offset bytes (Some table) kept = keys_kept cap key bytes kept

  -- the keys that are kept after a frame go by its answer
  keys_source : (key : Key) (offset : ℕ) (from : Option Found) (kept : ShelfFiles) → keys (kept_after cap key from kept) ≡ keep_answered cap key (by_source opts offset from) (keys kept)
  keys_source key offset None kept = refl
  keys_source key offset (Some Absent) kept = refl
  keys_source key offset (Some Denied) kept = refl
  keys_source key offset (Some (Holds bytes)) kept = keys_table key offset bytes (table_in bytes) kept

  opened_there : (v : Frame × Found) (kept : ShelfFiles) → is_opened kept v.0.file v.1 ≡ is_opened_by (keys kept) v
  opened_there v kept = ap (λ b. is_good v.0.file && (not b && is_read v.1)) (key_there v.0.file kept)

  -- the answers of visits, and the keys that are kept and the files that were read after them
  pub told_all : (vs : List (Frame × Found)) (s : State) → (rs : List FrameReading) × ((visited cap opts vs s).answers ≡ s.answers ++ rs)
      × (keys (visited cap opts vs s).kept ≡ keys_after cap (answered (map (λ v. v.0) vs) rs) (keys s.kept)) × ((visited cap opts vs s).opens ≡ opens_after_all cap vs rs (keys s.kept) s.opens)
  told_all [] s = ([], sym (append-nil s.answers), refl, refl)
  told_all (v ∷ vs) s =
      let r = by_source opts v.0.offset (source s.kept v.0.file v.1) in
      let kept = keys_source v.0.file v.0.offset (source s.kept v.0.file v.1) s.kept in
      let opened = ap (λ b. opens_after b s.opens) (opened_there v s.kept) in
      let on = told_all vs (visit cap opts v s) in (
        r ∷ on.0,
        on.1 ∙ append_assoc s.answers (r ∷ []) on.0,
        on.2 ∙ ap (keys_after cap (answered (map (λ v. v.0) vs) on.0)) kept,
        on.3 ∙ ap₂ (opens_after_all cap vs on.0) kept opened,
      )

  pub keys_told : (vs : List (Frame × Found)) (kept : ShelfFiles) (opens : ℕ) → let s = visited cap opts vs (record { kept = kept; answers = []; opens = opens }) in
      keys s.kept ≡ keys_after cap (answered (map (λ v. v.0) vs) s.answers) (keys kept)
  keys_told vs kept opens = let all = told_all vs (record { kept = kept; answers = []; opens = opens }) in
      all.2 ∙ ap (λ rs. keys_after cap (answered (map (λ v. v.0) vs) rs) (keys kept)) (sym all.1)

  pub opens_told : (vs : List (Frame × Found)) (kept : ShelfFiles) (opens : ℕ) → let s = visited cap opts vs (record { kept = kept; answers = []; opens = opens }) in
      s.opens ≡ opens_after_all cap vs s.answers (keys kept) opens
  opens_told vs kept opens = let all = told_all vs (record { kept = kept; answers = []; opens = opens }) in
      all.3 ∙ ap (λ rs. opens_after_all cap vs rs (keys kept) opens) (sym all.1)
