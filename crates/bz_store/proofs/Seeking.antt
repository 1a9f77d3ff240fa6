-- How a file that was sought answers frames.
use Rattle.std.proofs.Common.{◌≡◌, ◌⊎◌, ℕ, ◌<◌, Bool, true, false, cond, not, ◌&&◌, List, [], ◌∷◌, ◌++◌, map, Option, Some, None, Result, Ok, Err, refl, sym, ap, ◌∙◌, is_some, slice_get, inl, inr, arith}
use Rattle.std.proofs.lemmas.List.{append-nil, append_assoc}
use Rattle.std.specs.List.{AllByRecursion}
use Rattle.std.specs.Map.{lookup}
use Rattle.std.specs.Option.{option_map_or}
use Rattle.std.specs.Prelude.{IfErr, OnOk, IsOkUnless}
use Rattle.bz_base.specs.Refusals.{IsFailure}
use Rattle.bz_base.specs.declared.error.Error.{Error}
use Rattle.bz_base.specs.declared.error.Error.TheVariants as errors
use Rattle.bz_base.specs.declared.types.FindSymOpts.{FindSymOpts}
use Rattle.bz_breakpad.specs.Plain.{batch}
use Rattle.bz_breakpad.specs.Reader.{table_in}
use Rattle.bz_breakpad.specs.Table.{Table}
use Rattle.bz_cache.specs.Look.{opens_after}
use Rattle.bz_files.specs.Count.{counted}
use Rattle.bz_files.specs.Looked.{Faulted, Looked, ReadsOne}
use Rattle.bz_files.specs.World.{Told, World, in_view}
use Rattle.bz_files.specs.declared.files.Files.{Ghosts}
use Rattle.bz_store.specs.Calls.{Seeks, with_files}
use Rattle.bz_store.specs.Frames.{Frame, FrameReading, Key, Known, is_good, key_eq, reading_of}
use Rattle.bz_store.specs.Shelf.{ShelfFiles, Shelf, brought, keep}
use Rattle.bz_store.specs.Visits.{Found, Absent, Holds, by_source, by_table, found_at, is_opened, is_read, kept_after, source, stays, visit, visited}
use Rattle.bz_store.specs.declared.frame.FrameAnswer.{FrameAnswer}
use Rattle.bz_store.specs.declared.frame.FrameAnswer.TheVariants as answers
use Rattle.bz_store.proofs.Keeping.{keep_twice, kept_front, lookup_kept}

-- want of memory is no fault, and a failure
pub unfaulted : {A : Type 0} (r : Result A Error) → IsOkUnless r errors.OutOfMemory → Faulted r → ⊥
unfaulted (Ok a) may fault = fault
unfaulted (Err e) may fault = let no : errors.OutOfMemory ≡ errors.ReadFault = sym may ∙ fault in cc

pub failure : {A : Type 0} (r : Result A Error) → IsOkUnless r errors.OutOfMemory → IfErr r IsFailure
failure (Ok a) may = tt
failure (Err e) may = rw may tt

pub there : {A : Type 0} (o : Option A) → is_some o ≡ true → (a : A) × (o ≡ Some a)
there None is = cc
there (Some a) is = (a, refl)

pub not_there : {A : Type 0} (o : Option A) → is_some o ≡ false → o ≡ None
not_there None is = refl
not_there (Some a) is = cc

some_same : {A : Type 0} (a b : A) → Some a ≡ Some b → a ≡ b
some_same a b same = cc

pub same_looked : {X : Type 0} (files : Ghosts X) (x : X) (failed : Type 0) → (failed → ⊥) → Looked files x x failed
same_looked files x failed never = record { worlds = refl; pid = refl; faults = record { grows = omega arith; fault = λ fails. absurd (never fails); steady = inr refl } }

-- a count after one file was read or not is one more at most
opened_one : (opened : Bool) (before after : ℕ) → after ≡ opens_after opened before → (after ≡ before) ⊎ (after ≡ counted before)
opened_one false before after is = inl is
opened_one true before after is = inr is

pub placed : (before after : Shelf) (kept : ShelfFiles) → after ≡ with_files before kept → after ≡ with_files before after.files
placed before after kept is = is ∙ ap (with_files before) (sym (ap (λ s. s.files) is))

-- where the file isn't kept, nothing is brought
pub stayed : (before after : Shelf) (cap : ℕ) (key : Key) (o : Option (List ℕ)) → o ≡ None → after ≡ with_files before (brought cap key o before.files) → after ≡ before
stayed before after cap key o none is = is ∙ ap (λ o. with_files before (brought cap key o before.files)) none

module _ (kept : ShelfFiles) (key : Key) (found : Found) where
  -- what answers for a file, by its name and by what is kept
  pub source_bad : is_good key ≡ false → source kept key found ≡ None
  source_bad bad = rw bad refl

  pub source_by : (o : Option (List ℕ)) → is_good key ≡ true → lookup (key_eq key) kept ≡ o → source kept key found ≡ Some (option_map_or Holds o found)
  source_by o good is = rw (good, is) refl

  -- a file is read where its name is good and it isn't kept
  pub opened_bad : is_good key ≡ false → is_opened kept key found ≡ false
  opened_bad bad = rw bad refl

  pub opened_by : (o : Option (List ℕ)) → is_good key ≡ true → lookup (key_eq key) kept ≡ o → is_opened kept key found ≡ not (is_some o) && is_read found
  opened_by o good is = rw (good, is) refl

  -- a name under which something answers is good
  pub source_good : (from : Found) → source kept key found ≡ Some from → is_good key ≡ true
  source_good from is = (elim (is_good key) as (λ b. cond b (Some (option_map_or Holds (lookup (key_eq key) kept) found)) None ≡ Some from → b ≡ true) [
    | true ↦ λ is. refl
    | false ↦ λ is. cc
  ]) is

-- the frames are of the file
abbrev pub AreOf : Key → List Frame → Type 0
AreOf key frames = AllByRecursion (λ f. f.file ≡ key) frames

module _ (cap : ℕ) (opts : FindSymOpts) (key : Key) (found : Found) (bytes : List ℕ) where
  -- the answer of the bytes for a frame
  abbrev pub known : Frame → FrameReading
  known frame = by_table opts frame.offset (table_in bytes)

  abbrev pub each : List Frame → List (Frame × Found)
  each frames = map (λ f. (f, found)) frames

  module _ (kept : ShelfFiles) (from : source kept key found ≡ Some (Holds bytes)) (stays_so : kept_after cap key (Some (Holds bytes)) kept ≡ kept) (closed : is_opened kept key found ≡ false) where
    -- frames of a file that answers and stays as it is
    pub answered_all : (frames : List Frame) → AreOf key frames → (answers : List FrameReading) (opens : ℕ) →
        visited cap opts (each frames) (record { kept = kept; answers = answers; opens = opens }) ≡ record { kept = kept; answers = answers ++ map known frames; opens = opens }
    answered_all [] are answers opens = ap (λ l. record { kept = kept; answers = l; opens = opens }) (sym (append-nil answers))
    answered_all (f ∷ fs) are answers opens =
        let one : visit cap opts (f, found) (record { kept = kept; answers = answers; opens = opens }) ≡ record { kept = kept; answers = answers ++ known f ∷ []; opens = opens } =
        rw (are.0, from, closed) (ap (λ k. record { kept = k; answers = answers ++ known f ∷ []; opens = opens }) stays_so) in
        ap (visited cap opts (each fs)) one ∙ answered_all fs are.1 (answers ++ known f ∷ []) opens
        ∙ ap (λ l. record { kept = kept; answers = l; opens = opens }) (append_assoc answers (known f ∷ []) (map known fs))

  module _ (before : ShelfFiles) (room : 0 < cap) (formed : is_some (table_in bytes) ≡ true) (from : source before key found ≡ Some (Holds bytes)) where
    abbrev now : ShelfFiles
    now = keep cap key bytes before

    -- a file that answers is kept
    pub kept_now : kept_after cap key (Some (Holds bytes)) before ≡ now
    kept_now = ap (λ o. stays o now before) (there (table_in bytes) formed).1

    kept_still : kept_after cap key (Some (Holds bytes)) now ≡ now
    kept_still = ap (λ o. stays o (keep cap key bytes now) now) (there (table_in bytes) formed).1 ∙ keep_twice cap key bytes before

    -- frames of one file, the first of which brings it in front
    pub answered_run : (f : Frame) (fs : List Frame) → f.file ≡ key → AreOf key fs → (answers : List FrameReading) (opens : ℕ) →
        visited cap opts (each (f ∷ fs)) (record { kept = before; answers = answers; opens = opens })
        ≡ record { kept = now; answers = answers ++ map known (f ∷ fs); opens = opens_after (is_opened before key found) opens }
    answered_run f fs is are answers opens =
        let good = source_good before key found (Holds bytes) from in
        let held = lookup_kept cap key bytes before room in
        let still : source now key found ≡ Some (Holds bytes) = source_by now key found (Some bytes) good held in
        let closed : is_opened now key found ≡ false = opened_by now key found (Some bytes) good held in
        let count = opens_after (is_opened before key found) opens in
        let one : visit cap opts (f, found) (record { kept = before; answers = answers; opens = opens }) ≡ record { kept = now; answers = answers ++ known f ∷ []; opens = count } =
        rw (is, from) (ap (λ k. record { kept = k; answers = answers ++ known f ∷ []; opens = count }) kept_now) in
        ap (visited cap opts (each fs)) one ∙ answered_all now still kept_still closed fs are (answers ++ known f ∷ []) count
        ∙ ap (λ l. record { kept = now; answers = l; opens = count }) (append_assoc answers (known f ∷ []) (map known fs))

-- what is in front after a file was kept are its bytes
pub front_kept : (cap : ℕ) (key : Key) (bytes now : List ℕ) (before after : ShelfFiles) → 0 < cap → after ≡ keep cap key bytes before → slice_get (map (λ entry. entry.1) after) 0 ≡ Some now → now ≡ bytes
front_kept cap key bytes lent before after room is first =
    some_same _ _ (sym first ∙ ap (λ (l : ShelfFiles). slice_get (map (λ entry. entry.1) l) 0) is ∙ kept_front cap key bytes before room)

-- what is told of the world in view
abbrev told_in : Option World → List ℕ → Key → Found
told_in view root key = option_map_or (λ world. found_at world root key) view Absent

told_there : (view : Option World) (root : List ℕ) (key : Key) → Told view (λ world. told_in view root key ≡ found_at world root key)
told_there view root key = λ world is. ap (λ v. told_in v root key) is

module _ {X : Type 0} (files : Ghosts X) (key : Key) (before after : Shelf) (old new : X) where
  -- a refused look or read leaves the store as it was
  pub seeks_failed : (e : Error) → after ≡ before → ReadsOne files old new → Looked files old new (e ≡ errors.ReadFault) → IsFailure e → Seeks files key (Err e) before after old new
  seeks_failed e same most looked refused = record {
    found = told_in (in_view (files.worlds old)) before.root key;
    told = told_there (in_view (files.worlds old)) before.root key;
    sought = tt;
    opens = tt;
    most = most;
    place = same ∙ ap (with_files before) (sym (ap (λ s. s.files) same));
    err = ap (λ s. s.files) same;
    looked = looked;
    failure = refused;
  }

  -- nothing lies under a bad name
  pub seeks_bad : is_good key ≡ false → Seeks files key (Ok (Some answers.BadName)) before before old old
  seeks_bad bad =
      let found = told_in (in_view (files.worlds old)) before.root key in
      let none = source_bad before.files key found bad in
      record {
        found = found;
        told = told_there (in_view (files.worlds old)) before.root key;
        sought = (refl, ap (λ from. kept_after before.cap key from before.files) none, λ opts offset. ap (by_source opts offset) none);
        opens = sym (ap (λ b. opens_after b (files.opens old)) (opened_bad before.files key found bad));
        most = inl refl;
        place = refl;
        err = tt;
        looked = same_looked files old ⊥ (λ never. never);
        failure = tt;
      }

  -- a file that is kept is put in front
  pub seeks_kept : is_good key ≡ true → is_some (lookup (key_eq key) before.files) ≡ true → 0 < before.cap → after ≡ with_files before (brought before.cap key (lookup (key_eq key) before.files) before.files) →
      Seeks files key (Ok None) before after old old
  seeks_kept good held room moved =
      let one = there (lookup (key_eq key) before.files) held in
      let found = told_in (in_view (files.worlds old)) before.root key in
      record {
        found = found;
        told = told_there (in_view (files.worlds old)) before.root key;
        sought = (one.0, room, source_by before.files key found (Some one.0) good one.1, ap (λ s. s.files) moved ∙ ap (λ o. brought before.cap key o before.files) one.1);
        opens = sym (ap (λ b. opens_after b (files.opens old)) (opened_by before.files key found (Some one.0) good one.1));
        most = inl refl;
        place = placed before after _ moved;
        err = tt;
        looked = same_looked files old ⊥ (λ never. never);
        failure = tt;
      }

  module _ (good : is_good key ≡ true) (none : lookup (key_eq key) before.files ≡ None) (found : Found) (told : Told (in_view (files.worlds old)) (λ world. found ≡ found_at world before.root key))
      (opened : files.opens new ≡ opens_after (is_read found) (files.opens old)) (looked : Looked files old new ⊥) where
    opens_now : files.opens new ≡ opens_after (is_opened before.files key found) (files.opens old)
    opens_now = opened ∙ sym (ap (λ b. opens_after b (files.opens old)) (opened_by before.files key found None good none))

    -- what was found is no file
    pub seeks_missing : (answer : FrameAnswer) → after ≡ before → kept_after before.cap key (Some found) before.files ≡ before.files → ((opts : FindSymOpts) (offset : ℕ) → by_source opts offset (Some found) ≡ reading_of answer) →
        Seeks files key (Ok (Some answer)) before after old new
    seeks_missing answer same unkept reads =
        let from = source_by before.files key found None good none in
        record {
          found = found;
          told = told;
          sought = (ap (λ s. s.files) same, ap (λ from. kept_after before.cap key from before.files) from ∙ unkept, λ opts offset. ap (by_source opts offset) from ∙ reads opts offset);
          opens = opens_now;
          most = opened_one (is_read found) _ _ opened;
          place = same ∙ ap (with_files before) (sym (ap (λ s. s.files) same));
          err = tt;
          looked = looked;
          failure = tt;
        }

    -- a file was read, and is in front
    pub seeks_read : (bytes : List ℕ) → found ≡ Holds bytes → 0 < before.cap → is_some (table_in bytes) ≡ true → after ≡ with_files before (stays (table_in bytes) (keep before.cap key bytes before.files) before.files) →
        Seeks files key (Ok None) before after old new
    seeks_read bytes is room formed moved =
        let from = source_by before.files key found None good none ∙ ap Some is in
        record {
          found = found;
          told = told;
          sought = (bytes, room, from, ap (λ s. s.files) moved ∙ ap (λ o. stays o (keep before.cap key bytes before.files) before.files) (there (table_in bytes) formed).1);
          opens = opens_now;
          most = opened_one (is_read found) _ _ opened;
          place = placed before after _ moved;
          err = tt;
          looked = looked;
          failure = tt;
        }

-- the answers of a batch, as those of frames
pub answered_batch : (opts : FindSymOpts) (table : Table) (offsets : List ℕ) → map Known (batch table opts offsets) ≡ map (λ offset. by_table opts offset (Some table)) offsets
answered_batch opts table [] = refl
answered_batch opts table (offset ∷ offsets) = ap (λ l. by_table opts offset (Some table) ∷ l) (answered_batch opts table offsets)

-- what stands behind answers may be told in another way
pub behind : {A : Type 0} (new old one two : List FrameReading) → one ≡ two → (r : Result A Error) → OnOk r (new ≡ old ++ one) → OnOk r (new ≡ old ++ two)
behind new old one two same (Ok a) is = is ∙ ap (λ l. old ++ l) same
behind new old one two same (Err e) is = tt
