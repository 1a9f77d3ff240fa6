-- Frames one after the other.
use Rattle.std.proofs.Common.{◌≡◌, ℕ, ◌+◌, ◌-◌, ◌≤◌, Bool, true, false, List, [], ◌∷◌, ◌++◌, length, map, take, drop, Some, Result, Ok, Err, refl, sym, ap, ap₂, subst, ◌∙◌, arith}
use Rattle.std.proofs.lemmas.List.{map-append, length-append, length-map, drop-map, drop-take, take-append-drop, take-take, take_all, take_rest}
use Rattle.std.specs.Prelude.{OnErr, OnOk}
use Rattle.bz_base.specs.declared.error.Error.{Error}
use Rattle.bz_base.specs.declared.error.Error.TheVariants as errors
use Rattle.bz_base.specs.declared.types.FindSymOpts.{FindSymOpts}
use Rattle.bz_cache.specs.Look.{opens_after}
use Rattle.bz_files.specs.Looked.{Faulted}
use Rattle.bz_files.specs.World.{World, in_view}
use Rattle.bz_files.specs.declared.files.Files.{Ghosts}
use Rattle.bz_files.proofs.LookedLemmas.{looked_then}
use Rattle.bz_store.specs.Calls.{AnswersFrames, Visits, found_each, state, with_files}
use Rattle.bz_store.specs.Frames.{Frame, FrameReading, frame_of, reading_of}
use Rattle.bz_store.specs.declared.frame.CrashFrame.{CrashFrame}
use Rattle.bz_store.specs.declared.frame.FrameAnswer.{FrameAnswer}
use Rattle.bz_store.specs.Shelf.{Shelf}
use Rattle.bz_store.specs.Visits.{Found, State, found_at, is_opened, visit, visited}
use Rattle.bz_store.proofs.Promised.{promised}
use Rattle.bz_store.proofs.Seeking.{same_looked, unfaulted}

-- the first ones, and the first of the rest
take_both : {A : Type 0} (i n : ℕ) (xs : List A) → take i xs ++ take n (drop i xs) ≡ take (i + n) xs
take_both i n xs = ap₂ (λ a b. a ++ b) (sym (take-take i (i + n) xs (omega arith))) (sym (drop-take i n xs)) ∙ take-append-drop i (take (i + n) xs)

visited_both : (cap : ℕ) (opts : FindSymOpts) (vs ws : List (Frame × Found)) (s : State) → visited cap opts (vs ++ ws) s ≡ visited cap opts ws (visited cap opts vs s)
visited_both cap opts [] ws s = refl
visited_both cap opts (v ∷ vs) ws s = visited_both cap opts vs ws (visit cap opts v s)

-- a frame reads one file at most
opened_most : (opened : Bool) (n : ℕ) → opens_after opened n ≤ n + 1
opened_most false n = omega arith
opened_most true n = omega arith

-- and frames no more than they are
visited_most : (cap : ℕ) (opts : FindSymOpts) (vs : List (Frame × Found)) (s : State) → (visited cap opts vs s).opens ≤ s.opens + length vs
visited_most cap opts [] s = omega arith
visited_most cap opts (v ∷ vs) s =
    let one : (visit cap opts v s).opens ≤ s.opens + 1 = opened_most (is_opened s.kept v.0.file v.1) s.opens in
    omega (arith, one, visited_most cap opts vs (visit cap opts v s))

found_both : (world : World) (root : List ℕ) (vs ws : List (Frame × Found)) → found_each world root (map (λ v. v.0) vs) ++ found_each world root (map (λ v. v.0) ws) ≡ found_each world root (map (λ v. v.0) (vs ++ ws))
found_both world root [] ws = refl
found_both world root (v ∷ vs) ws = ap (λ l. (v.0, found_at world root v.0.file) ∷ l) (found_both world root vs ws)

-- the frames that are left
pub frames_left : (given : List FrameAnswer) (cs : List CrashFrame) (n : ℕ) → n ≡ length given → map frame_of (take (length cs - n) (drop n cs)) ≡ drop (length (map reading_of given)) (map frame_of cs)
frames_left given cs n is = ap (map frame_of) (take_rest cs n) ∙ sym (drop-map frame_of n cs) ∙ ap (λ k. drop k (map frame_of cs)) (is ∙ sym (length-map given reading_of))

-- all frames are answered
pub all_answered : (given : List FrameAnswer) (cs : List CrashFrame) → length cs ≤ length given → length (map frame_of cs) ≤ length (map reading_of given)
all_answered given cs enough = omega (arith, enough, length-map given reading_of, length-map cs frame_of)

on_ok : {A P Q : Type 0} → (P → Q) → (r : Result A Error) → OnOk r P → OnOk r Q
on_ok so (Ok a) p = so p
on_ok so (Err e) p = tt

on_err : {A P Q : Type 0} → (P → Q) → (r : Result A Error) → OnErr r P → OnErr r Q
on_err so (Ok a) p = tt
on_err so (Err e) p = so p

module _ {X : Type 0} (files : Ghosts X) (opts : FindSymOpts) (frames : List Frame) where
  -- no frame yet
  pub visits_begun : (before : Shelf) (old : X) (answers : List FrameReading) → answers ≡ [] → Visits {A = Unit {0}} files opts frames (Ok tt) [] answers before before old old
  visits_begun before old answers none = record {
    visits = [];
    told = λ world told. refl;
    count = 0;
    first = refl;
    ok = ap (λ l. state before l (files.opens old)) none;
    more = ap length none;
    err = tt;
    most = omega arith;
    place = refl;
    looked = same_looked files old ⊥ (λ never. never);
    failure = tt;
  }

  module _ (before mid after : Shelf) (old midway new : X) (answers answers' : List FrameReading) (so_far : Visits {A = Unit {0}} files opts frames (Ok tt) [] answers before mid old midway)
      (r : Result (Unit {0}) Error) (here : Visits files opts (drop (length answers) frames) r answers answers' mid after midway new) where
    root_is : mid.root ≡ before.root
    root_is = ap (λ (s : Shelf). s.root) so_far.place

    cap_is : mid.cap ≡ before.cap
    cap_is = ap (λ (s : Shelf). s.cap) so_far.place

    abbrev both : List (Frame × Found)
    both = so_far.visits ++ here.visits

    told_then : (world : World) → in_view (files.worlds old) ≡ Some world → both ≡ found_each world before.root (map (λ v. v.0) both)
    told_then world told =
        let later = here.told world (ap in_view so_far.looked.worlds ∙ told) ∙ ap (λ root. found_each world root (map (λ v. v.0) here.visits)) root_is in
        ap₂ (λ a b. a ++ b) (so_far.told world told) later ∙ found_both world before.root so_far.visits here.visits

    state_then : visited mid.cap opts here.visits (state mid answers (files.opens midway)) ≡ visited before.cap opts both (state before [] (files.opens old))
    state_then = ap₂ (λ cap s. visited cap opts here.visits s) cap_is so_far.ok ∙ sym (visited_both before.cap opts so_far.visits here.visits (state before [] (files.opens old)))

    count_is : length answers ≡ so_far.count
    count_is = omega (arith, so_far.more)

    first_then : map (λ (v : Frame × Found). v.0) both ≡ take (so_far.count + here.count) frames
    first_then = map-append (λ (v : Frame × Found). v.0) so_far.visits here.visits
        ∙ ap₂ (λ a b. a ++ b) so_far.first (here.first ∙ ap (λ n. take here.count (drop n frames)) count_is)
        ∙ take_both so_far.count here.count frames

    most_then : files.opens new ≤ files.opens old + length frames
    most_then =
        let first : files.opens midway ≤ files.opens old + length so_far.visits = subst (λ n. n ≤ files.opens old + length so_far.visits) (ap (λ (s : State). s.opens) (sym so_far.ok)) (visited_most before.cap opts so_far.visits (state before [] (files.opens old))) in
        let front : length so_far.visits ≡ length (take (length answers) frames) = sym (length-map so_far.visits (λ (v : Frame × Found). v.0)) ∙ ap length so_far.first ∙ ap (λ n. length (take n frames)) (sym count_is) in
        let both : length (take (length answers) frames) + length (drop (length answers) frames) ≡ length frames = sym (length-append (take (length answers) frames) (drop (length answers) frames)) ∙ ap length (take-append-drop (length answers) frames) in
        omega (arith, first, front, both, here.most)

    -- more frames
    pub visits_then : Visits files opts frames r [] answers' before after old new
    visits_then = record {
      visits = both;
      told = told_then;
      count = so_far.count + here.count;
      first = first_then;
      ok = on_ok (λ is. is ∙ state_then) r here.ok;
      more = on_ok (λ is. omega (arith, is, so_far.more)) r here.more;
      err = on_err (λ is. is ∙ ap (λ (s : State). s.kept) state_then) r here.err;
      most = most_then;
      place = here.place ∙ ap (λ s. with_files s after.files) so_far.place;
      looked = looked_then files old midway (Faulted r) new so_far.looked here.looked;
      failure = here.failure;
    }

  module _ {A : Type 0} (readings : A → List FrameReading) (before after : Shelf) (old new : X) where
    -- all frames
    pub answers_done : (answers : List FrameReading) → Visits {A = Unit {0}} files opts frames (Ok tt) [] answers before after old new → length frames ≤ length answers → (a : A) → readings a ≡ answers →
        AnswersFrames files readings opts frames (Ok a) before after old new
    answers_done answers run all a are =
        let enough : length frames ≤ run.count = omega (arith, all, run.more) in
        promised files readings opts frames before after old new (Ok a) (record {
          visits = run.visits;
          told = run.told;
          ok = (run.first ∙ take_all run.count frames enough, ap (λ l. state after l (files.opens new)) are ∙ run.ok);
          err = tt;
        }) run.most run.place run.looked tt

    -- a refusal
    pub answers_failed : (answers : List FrameReading) (e : Error) → Visits {A = Unit {0}} files opts frames (Err e) [] answers before after old new → AnswersFrames files readings opts frames (Err e) before after old new
    answers_failed answers e run = promised files readings opts frames before after old new (Err e) (record {
      visits = run.visits;
      told = run.told;
      ok = tt;
      err = (run.count, run.first, run.err);
    }) run.most run.place run.looked run.failure

  pub answers_unmade : {A : Type 0} (readings : A → List FrameReading) (before : Shelf) (old : X) → AnswersFrames files readings opts frames (Err errors.OutOfMemory) before before old old
  answers_unmade {A} readings before old = promised files readings opts frames before before old old (Err errors.OutOfMemory) (record {
    visits = [];
    told = λ world told. refl;
    ok = tt;
    err = (0, refl, refl);
  }) (omega arith) refl (same_looked files old _ (unfaulted {A = A} (Err errors.OutOfMemory) refl)) tt
