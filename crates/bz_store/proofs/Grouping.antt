-- The frames in front that are answered together.
use Rattle.std.proofs.Common.{◌≡◌, ℕ, suc, ◌+◌, ◌<◌, ◌≤◌, true, false, cond, List, [], ◌∷◌, ◌++◌, length, map, take, Some, None, Ok, Err, refl, sym, ap, ap₂, subst, ◌∙◌, inl, inr, is_some, slice_get, slice_index_or, arith}
use Rattle.std.proofs.lemmas.List.{length-append, length-map, length-take-le}
use Rattle.std.specs.List.{prefix_len}
use Rattle.bz_base.specs.declared.error.Error.{Error}
use Rattle.bz_base.specs.declared.error.Error.TheVariants as errors
use Rattle.bz_base.specs.declared.types.FindSymOpts.{FindSymOpts}
use Rattle.bz_breakpad.specs.Reader.{table_in}
use Rattle.bz_files.specs.Looked.{ReadsOne}
use Rattle.bz_files.specs.World.{World}
use Rattle.bz_files.specs.declared.files.Files.{Ghosts}
use Rattle.bz_files.proofs.LookedLemmas.{looked_unfailed}
use Rattle.bz_store.specs.Calls.{Seeks, Visits, found_each, state}
use Rattle.bz_store.specs.Frames.{Frame, FrameReading, Key, frame_of, is_of, key_of, reading_of}
use Rattle.bz_store.specs.Shelf.{Shelf}
use Rattle.bz_store.specs.Visits.{Found, State, by_table, found_at, visited}
use Rattle.bz_store.specs.declared.frame.CrashFrame.{CrashFrame}
use Rattle.bz_store.specs.declared.frame.FrameAnswer.{FrameAnswer}
use Rattle.bz_store.proofs.Keeping.{key_is, key_itself}
use Rattle.bz_store.proofs.Seeking.{AreOf, answered_run, front_kept, unfaulted}

-- the frames of a run are of its file
pub run_of_file : (key : Key) (cs : List CrashFrame) → AreOf key (map frame_of (take (prefix_len (is_of key) cs) cs))
run_of_file key [] = tt
run_of_file key (c ∷ cs) = (elim (is_of key c) as (λ b. is_of key c ≡ b → AreOf key (map frame_of (take (cond b (1 + prefix_len (is_of key) cs) 0) (c ∷ cs)))) [
  | true ↦ λ t. let more : 1 + prefix_len (is_of key) cs ≡ suc (prefix_len (is_of key) cs) = omega arith in rw more (key_is (key_of c.key) key t, run_of_file key cs)
  | false ↦ λ t. tt
]) refl

-- a run begins with the frame whose file it is
pub run_begins : (c : CrashFrame) (cs : List CrashFrame) → prefix_len (is_of (key_of c.key)) (c ∷ cs) ≡ suc (prefix_len (is_of (key_of c.key)) cs)
run_begins c cs = rw (key_itself (key_of c.key)) (omega arith)

seen_each : (found : Found) (frames : List Frame) → map {B = Frame} (λ v. v.0) (map {B = Frame × Found} (λ f. (f, found)) frames) ≡ frames
seen_each found [] = refl
seen_each found (f ∷ fs) = ap (λ l. f ∷ l) (seen_each found fs)

told_each : (world : World) (root : List ℕ) (key : Key) (found : Found) (frames : List Frame) → AreOf key frames → found ≡ found_at world root key → map {B = Frame × Found} (λ f. (f, found)) frames ≡ found_each world root frames
told_each world root key found [] are told = refl
told_each world root key found (f ∷ fs) are told = ap₂ (λ (one : Found) (l : List (Frame × Found)). (f, one) ∷ l) (told ∙ ap (found_at world root) (sym are.0)) (told_each world root key found fs are.1 told)

-- there are frames where one is in front
some_front : (f : Frame) (frames : List Frame) → take 1 frames ≡ f ∷ [] → 0 < length frames
some_front f [] front = cc
some_front f (g ∷ frames) front = omega arith

-- a file that is read is no more than there are frames, if there are some
few_read : {X : Type 0} (files : Ghosts X) (frames : List Frame) (old new : X) → 0 < length frames → ReadsOne files old new → files.opens new ≤ files.opens old + length frames
few_read files frames old new some (inl same) = omega (arith, some, same)
few_read files frames old new some (inr counts) = omega (arith, some, counts)

module _ {X : Type 0} (files : Ghosts X) (opts : FindSymOpts) (frames : List Frame) (key : Key) (earlier : List FrameReading) (before after : Shelf) (old new : X) where
  -- a refusal before any answer
  pub visits_unsought : (e : Error) → 0 < length frames → Seeks files key (Err e) before after old new → (answers : List FrameReading) → Visits {A = Unit {0}} files opts frames (Err e) earlier answers before after old new
  visits_unsought e some sought answers = record {
    visits = [];
    told = λ world told. refl;
    count = 0;
    first = refl;
    ok = tt;
    more = tt;
    err = sought.err;
    most = few_read files frames old new some sought.most;
    place = sought.place;
    looked = sought.looked;
    failure = sought.failure;
  }

  -- the frame in front
  module _ (f : Frame) (is : f.file ≡ key) (front : take 1 frames ≡ f ∷ []) where
    -- no file answers it
    module _ (answer : FrameAnswer) (sought : Seeks files key (Ok (Some answer)) before after old new) where
      abbrev one : List (Frame × Found)
      one = (f, sought.found) ∷ []

      visited_one : state after (earlier ++ reading_of answer ∷ []) (files.opens new) ≡ visited before.cap opts one (state before earlier (files.opens old))
      visited_one = rw is (λ i. record {
        kept = (sought.sought.0 ∙ sym sought.sought.1) i;
        answers = earlier ++ sym (sought.sought.2 opts f.offset) i ∷ [];
        opens = sought.opens i;
      })

      pub visits_one : (answers : List FrameReading) → answers ≡ earlier ++ reading_of answer ∷ [] → Visits {A = Unit {0}} files opts frames (Ok tt) earlier answers before after old new
      visits_one answers are = record {
        visits = one;
        told = λ world told. told_each world before.root key sought.found (f ∷ []) (is, tt) (sought.told world told);
        count = 1;
        first = sym front;
        ok = ap (λ l. state after l (files.opens new)) are ∙ visited_one;
        more = ap length are ∙ length-append earlier (reading_of answer ∷ []);
        err = tt;
        most = few_read files frames old new (some_front f frames front) sought.most;
        place = sought.place;
        looked = sought.looked;
        failure = tt;
      }

      pub visits_unpushed : (answers : List FrameReading) → Visits {A = Unit {0}} files opts frames (Err errors.OutOfMemory) earlier answers before after old new
      visits_unpushed answers = record {
        visits = one;
        told = λ world told. told_each world before.root key sought.found (f ∷ []) (is, tt) (sought.told world told);
        count = 1;
        first = sym front;
        ok = tt;
        more = tt;
        err = ap (λ (s : State). s.kept) visited_one;
        most = few_read files frames old new (some_front f frames front) sought.most;
        place = sought.place;
        looked = looked_unfailed files old new _ (unfaulted {A = Unit {0}} (Err errors.OutOfMemory) refl) sought.looked;
        failure = tt;
      }

    -- their file answers it, and those of a run with it
    module _ (sought : Seeks files key (Ok None) before after old new) (now : List ℕ) (first : slice_get (map (λ entry. entry.1) after.files) 0 ≡ Some now) (formed : is_some (table_in now) ≡ true) where
      same : now ≡ sought.sought.0
      same = front_kept before.cap key sought.sought.0 now before.files after.files sought.sought.1 sought.sought.3 first

      visited_run : (fs : List Frame) → AreOf key fs →
          state after (earlier ++ map (λ f. by_table opts f.offset (table_in now)) (f ∷ fs)) (files.opens new) ≡ visited before.cap opts (map (λ f. (f, sought.found)) (f ∷ fs)) (state before earlier (files.opens old))
      visited_run fs are =
          (λ i. record {
            kept = sought.sought.3 i;
            answers = earlier ++ map (λ f. by_table opts f.offset (table_in (same i))) (f ∷ fs);
            opens = sought.opens i;
          }) ∙ sym (answered_run before.cap opts key sought.found sought.sought.0 before.files sought.sought.1 (subst (λ b. is_some (table_in b) ≡ true) same formed) sought.sought.2 f fs is are earlier (files.opens old))

      pub visits_run : (n : ℕ) (fs : List Frame) → AreOf key fs → take n frames ≡ f ∷ fs → n ≡ length (f ∷ fs) → (answers : List FrameReading) →
          answers ≡ earlier ++ map (λ f. by_table opts f.offset (table_in now)) (f ∷ fs) → Visits {A = Unit {0}} files opts frames (Ok tt) earlier answers before after old new
      visits_run n fs are run long answers answers_are = record {
        visits = map (λ f. (f, sought.found)) (f ∷ fs);
        told = λ world told. told_each world before.root key sought.found (f ∷ fs) (is, are) (sought.told world told) ∙ ap (found_each world before.root) (sym (seen_each sought.found (f ∷ fs)));
        count = n;
        first = seen_each sought.found (f ∷ fs) ∙ sym run;
        ok = ap (λ l. state after l (files.opens new)) answers_are ∙ visited_run fs are;
        more = ap length answers_are ∙ length-append earlier (map (λ f. by_table opts f.offset (table_in now)) (f ∷ fs))
            ∙ ap (λ n. length earlier + n) (length-map (f ∷ fs) (λ (f : Frame). by_table opts f.offset (table_in now)) ∙ sym long);
        err = tt;
        most = few_read files frames old new (some_front f frames front) sought.most;
        place = sought.place;
        looked = sought.looked;
        failure = tt;
      }

      pub visits_unrun : (answers : List FrameReading) → Visits {A = Unit {0}} files opts frames (Err errors.OutOfMemory) earlier answers before after old new
      visits_unrun answers = record {
        visits = map (λ f. (f, sought.found)) (f ∷ []);
        told = λ world told. told_each world before.root key sought.found (f ∷ []) (is, tt) (sought.told world told);
        count = 1;
        first = sym front;
        ok = tt;
        more = tt;
        err = ap (λ (s : State). s.kept) (visited_run [] tt);
        most = few_read files frames old new (some_front f frames front) sought.most;
        place = sought.place;
        looked = looked_unfailed files old new _ (unfaulted {A = Unit {0}} (Err errors.OutOfMemory) refl) sought.looked;
        failure = tt;
      }

-- the frame in front
pub first_frame : (cs : List CrashFrame) → 0 < length cs → (c d : CrashFrame) → c ≡ slice_index_or cs 0 d → take 1 (map frame_of cs) ≡ frame_of c ∷ []
first_frame [] some c d is = absurd (omega arith)
first_frame (front ∷ cs) some c d is = ap (λ c. frame_of c ∷ []) (sym is)

-- the frames of its run
abbrev IsRun : List CrashFrame → CrashFrame → Type 0
IsRun cs c = (rest : List Frame) × AreOf (key_of c.key) rest × (map frame_of (take (prefix_len (is_of (key_of c.key)) cs) cs) ≡ frame_of c ∷ rest)

run_front : (c : CrashFrame) (cs : List CrashFrame) → IsRun (c ∷ cs) c
run_front c cs = (map frame_of (take (prefix_len (is_of (key_of c.key)) cs) cs), run_of_file (key_of c.key) cs, rw (run_begins c cs) refl)

pub run_frames : (cs : List CrashFrame) → 0 < length cs → (c d : CrashFrame) → c ≡ slice_index_or cs 0 d → IsRun cs c
run_frames [] some c d is = absurd (omega arith)
run_frames (front ∷ cs) some c d is = subst (IsRun (front ∷ cs)) (sym is) (run_front front cs)

-- a run is as long as it was found to be
pub run_long : (cs : List CrashFrame) (n : ℕ) (f : Frame) (fs : List Frame) → n ≤ length cs → map frame_of (take n cs) ≡ f ∷ fs → n ≡ length (f ∷ fs)
run_long cs n f fs within is = sym (length-take-le n cs within) ∙ sym (length-map (take n cs) frame_of) ∙ ap length is

-- answers that stand behind others are more
pub more_answers : (old new : List FrameAnswer) (r : FrameReading) (rs : List FrameReading) → map reading_of new ≡ map reading_of old ++ r ∷ rs → length old < length new
more_answers old new r rs is = omega (arith, sym (length-map new reading_of), length-map old reading_of, ap length is, length-append (map reading_of old) (r ∷ rs))

-- the answers at the offsets of frames
pub at_offsets : (g : ℕ → FrameReading) (cs : List CrashFrame) → map g (map (λ (c : CrashFrame). c.offset) cs) ≡ map (λ (f : Frame). g f.offset) (map frame_of cs)
at_offsets g [] = refl
at_offsets g (c ∷ cs) = ap (λ l. g c.offset ∷ l) (at_offsets g cs)
