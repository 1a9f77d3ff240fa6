-- How the steps of caching a process follow one another, each taken whole or not at all.
use Rattle.std.proofs.Common.{◌≡◌, ◌⊎◌, ℕ, ◌+◌, ◌≤◌, true, false, List, [], ◌∷◌, ◌++◌, map, Option, Some, None, IsSome, Result, Ok, Err, OnOk, OnErr, IfErr, inl, inr, refl, sym, ap, subst, ◌∙◌, arith}
use Rattle.std.specs.List.{AllByRecursion}
use Rattle.std.proofs.lemmas.Bool.{false≢true}
use Rattle.bz_base.specs.declared.error.Error.{Error}
use Rattle.bz_base.specs.declared.error.Error.TheVariants as errors
use Rattle.bz_base.specs.declared.pid.Pid.{Pid}
use Rattle.bz_files.specs.Looked.{Looked}
use Rattle.bz_files.specs.World.{World, Entry, Told, in_view, entry_at}
use Rattle.bz_files.specs.declared.files.Files.{Ghosts}
use Rattle.bz_files.specs.declared.stamp.Stamp.{Stamp}
use Rattle.bz_cache.specs.Cache.{Cache, with_pin}
use Rattle.bz_cache.specs.Format.{GivesOrFaults, FailsAs, MayFail}
use Rattle.bz_cache.specs.InsertMap.{value_at, with_absent}
use Rattle.bz_cache.specs.Look.{by_fixed, look, will_open}
use Rattle.bz_cache.specs.View.{fixed}
use Rattle.bz_cache.proofs.Pinning.{consistent_pinned}
use Rattle.bz_cache.specs.Pinning.{IsLeft, PinsFile, pinned_by, pinning}
use Rattle.bz_proc.specs.PerfMap as perf
use Rattle.bz_proc.specs.PerfLine.{PerfFunction}
use Rattle.bz_proc.specs.PerfLines.{perf_functions_in}
use Rattle.bz_proc.specs.SystemText.{IsReadRefusal}
use Rattle.bz_process.specs.Caches.{ProcessCaches}
use Rattle.bz_process.specs.Caching.{perf_map_pinning, pins_perf_map, pinned_if_absent}
use Rattle.bz_process.specs.CachingCall.{CachingChange, Called, PinPerfMap, CachingReaches, HasWhole, IsCachedTold, PinsKnown, TakesWhole, after_caching, cached_so}
use Rattle.bz_process.specs.Process.{StepOutcome, Step, and_then, followed, gives, pid_cmp}
use Rattle.bz_process.specs.ProcessCall.{Change, LookPerfMap, IsTold, Reaches, TakesStep, after_changes, changed}
use Rattle.bz_process.specs.Remembered.{Remembered}
use Rattle.bz_process.specs.Untold.{IsKnown, MayLackId}
use Rattle.bz_process.proofs.ProcessLemmas.{looked_both, opened_by, refused, stays, stays_both, unlooked}

-- changes one after another
after_both : (first second : List CachingChange) (kept : ProcessCaches) → after_caching (first ++ second) kept ≡ after_caching second (after_caching first kept)
after_both [] second kept = refl
after_both (change ∷ first) second kept = after_both first second (cached_so change kept)

all_both : (P : CachingChange → Type 0) (first second : List CachingChange) → AllByRecursion P first → AllByRecursion P second → AllByRecursion P (first ++ second)
all_both P [] second one two = two
all_both P (change ∷ first) second one two = (one.0, all_both P first second one.1 two)

-- the changes of a call that answers
after_called : (changes : List Change) (kept : ProcessCaches) → after_caching (map Called changes) kept ≡ after_changes changes kept
after_called [] kept = refl
after_called (change ∷ later) kept = after_called later (changed change kept)

all_called : (own : ℕ) (world : World) (changes : List Change) → AllByRecursion (IsTold own world) changes → AllByRecursion (IsCachedTold own world) (map Called changes)
all_called own world [] all = tt
all_called own world (change ∷ later) all = (all.0, all_called own world later all.1)

module _ (own : ℕ) (view : Option World) where
  pub caching_same : (kept : ProcessCaches) → CachingReaches own view kept kept
  caching_same kept = record { changes = []; told = λ world seen. tt; leads = refl }

  caching_both : (old mid now : ProcessCaches) → CachingReaches own view old mid → CachingReaches own view mid now → CachingReaches own view old now
  caching_both old mid now one two = record {
    changes = one.changes ++ two.changes;
    told = λ world seen. all_both (IsCachedTold own world) one.changes two.changes (one.told world seen) (two.told world seen);
    leads = two.leads ∙ ap (after_caching two.changes) one.leads ∙ sym (after_both one.changes two.changes old);
  }

  caching_called : (old now : ProcessCaches) → Reaches own view old now → CachingReaches own view old now
  caching_called old now reached = record {
    changes = map Called reached.changes;
    told = λ world seen. all_called own world reached.changes (reached.told world seen);
    leads = reached.leads ∙ sym (after_called reached.changes old);
  }

-- what a pinned look leaves
left_of : (cache now : Cache) (path : List ℕ) (looked : Result (List ℕ) Error × Cache) → pinned_by cache path looked ≡ (Ok tt, now) → now ≡ with_pin true looked.1 path
left_of cache now path (Ok version, left) is = sym (ap (λ (x : Result (Unit {0}) Error × Cache). x.1) is)
left_of cache now path (Err e, left) is = let none : ◌≡◌ {A = Result (Unit {0}) Error} (Err e) (Ok tt) = ap (λ (x : Result (Unit {0}) Error × Cache). x.0) is in cc none

module _ (cache : Cache) (path : List ℕ) where
  -- a perf map that is absent is pinned as it is held
  absent_pinned : (pinned : Result (Unit {0}) Error × Cache) → pinned.0 ≡ Err errors.NotFound → pinned_if_absent cache path pinned ≡ (Ok tt, with_pin true cache path)
  absent_pinned (Ok tt, left) is = cc is
  absent_pinned (Err e, left) is = let same : e ≡ errors.NotFound = cc is in rw same refl

  -- another refusal stays
  same_refusal : (e : Error) (left : Cache) → (e ≡ errors.NotFound → ⊥) → (pinned_if_absent cache path (Err e, left)).0 ≡ Err e
  same_refusal errors.NotFound left stays = absurd (stays refl)
  same_refusal _ left stays = refl

  fails_pinned : (pinned : Result (Unit {0}) Error × Cache) (e : Error) → (e ≡ errors.NotFound → ⊥) → FailsAs pinned.0 e → FailsAs (pinned_if_absent cache path pinned).0 e
  fails_pinned pinned errors.ReadFault stays fails = tt
  fails_pinned pinned errors.OutOfMemory stays fails = tt
  fails_pinned pinned errors.NotFound stays fails = absurd (stays refl)
  fails_pinned (Ok tt, left) _ stays fails = cc fails
  fails_pinned (Err x, left) e stays fails = let same : x ≡ e = cc fails in rw same (same_refusal e left stays)

module _ {X : Type 0} (files : Ghosts X) (own : ℕ) where
  abbrev Whole : {B : Type 0} → Step B → Result B Error → ProcessCaches → ProcessCaches → X → X → Type 0
  Whole {B} expected result old now before after = TakesWhole files own (λ (given : B). given) expected result old now before after

  -- nothing is asked for
  pub whole_still : (kept : ProcessCaches) (at : X) → Whole {B = Unit {0}} (gives tt) (Ok tt) kept kept at at
  whole_still kept at = record {
    told = λ world seen. record { answer = refl; left = refl; opened = omega arith };
    err = tt;
    reached = caching_same own _ kept;
    perf_maps = stays perf.format_test kept.perf_maps;
    looked = unlooked files own at (λ none. none);
  }

  -- memory ran out before anything was looked at
  pub whole_wants_memory : {B : Type 0} (expected : Step B) (kept : ProcessCaches) (at : X) → Whole expected (Err errors.OutOfMemory) kept kept at at
  whole_wants_memory expected kept at = record {
    told = λ world seen. record { answer = tt; left = tt; opened = omega arith };
    err = refl;
    reached = caching_same own _ kept;
    perf_maps = stays perf.format_test kept.perf_maps;
    looked = unlooked files own at (λ is. cc is);
  }

  -- a step that is refused and changed nothing
  whole_refusal : {A B : Type 0} (read : A → B) (expected : Step B) (e : Error) (old : ProcessCaches) (before after : X) →
      TakesStep files own read expected (Err e) old old before after → TakesWhole files own read expected (Err e) old old before after
  whole_refusal read expected e old before after step = record {
    told = λ world seen. let here = step.told world seen in record { answer = here.answer; left = tt; opened = here.opened };
    err = refl;
    reached = caching_same own _ old;
    perf_maps = stays perf.format_test old.perf_maps;
    looked = step.looked;
  }

  module _ {A B D : Type 0} (read : A → B) (first : Step B) (next : B → Step D) where
    -- it has no other step behind it
    pub whole_refused : (e : Error) (old now : ProcessCaches) (before after : X) → now ≡ old → TakesStep files own read first (Err e) old now before after → Whole (and_then first next) (Err e) old now before after
    whole_refused e old now before after is step =
        let same : TakesStep files own read first (Err e) old old before after = subst (λ (k : ProcessCaches). TakesStep files own read first (Err e) old k before after) is step in
        rw is (whole_refusal (λ (given : D). given) (and_then first next) e old before after (refused files own read (λ (given : D). given) first next e old old before after same))

    -- what comes of the outcomes of two steps
    told_next : (world : World) (answer : Result B Error) (left mid now : ProcessCaches) (opens : ℕ) (given : B) (result : Result D Error) (before middle after : ℕ) →
        answer ≡ Ok given → mid ≡ left → middle ≤ before + opens → HasWhole (λ (x : D). x) (next given world mid) result now middle after →
        HasWhole (λ (x : D). x) (followed answer left opens (λ g l. next g world l)) result now before after
    told_next world answer left mid now opens given result before middle after is kept_is opened second =
        let two : HasWhole (λ (x : D). x) (next given world left) result now middle after = rw (← kept_is) second in
        rw is (record { answer = two.answer; left = two.left; opened = omega (arith, two.opened, opened) })

    -- nothing is left of a step that is refused
    told_back : (expected : StepOutcome D) (e : Error) (now left : ProcessCaches) (before after : ℕ) → HasWhole (λ (x : D). x) expected (Err e) now before after → HasWhole (λ (x : D). x) expected (Err e) left before after
    told_back expected e now left before after told = record { answer = told.answer; left = tt; opened = told.opened }

    -- a step, and another that is taken whole; where that is refused, the first is taken back
    pub whole_next : (x : A) (result : Result D Error) (old mid now left : ProcessCaches) (before middle after : X) →
        TakesStep files own read first (Ok x) old mid before middle → Whole (next (read x)) result mid now middle after → OnOk result (left ≡ now) → OnErr result (left ≡ old) →
        Whole (and_then first next) result old left before after
    whole_next x (Ok y) old mid now left before middle after one two is back =
        let same : in_view (files.worlds middle) ≡ in_view (files.worlds before) = ap in_view one.looked.worlds in
        rw is (record {
          told = λ world seen.
              let here = one.told world seen in
              told_next world (first world old).answer (first world old).left mid now (first world old).opens (read x) (Ok y) _ _ _ here.answer here.left here.opened (two.told world (same ∙ seen));
          err = tt;
          reached = caching_both own _ old mid now (caching_called own _ old mid one.reached) (subst (λ (v : Option World). CachingReaches own v mid now) same two.reached);
          perf_maps = stays_both perf.format_test old.perf_maps mid.perf_maps now.perf_maps one.perf_maps two.perf_maps;
          looked = looked_both files own before middle after one.looked two.looked;
        })
    whole_next x (Err e) old mid now left before middle after one two is back =
        let same : in_view (files.worlds middle) ≡ in_view (files.worlds before) = ap in_view one.looked.worlds in
        rw back (record {
          told = λ world seen.
              let here = one.told world seen in
              told_back (and_then first next world old) e now old _ _
              (told_next world (first world old).answer (first world old).left mid now (first world old).opens (read x) (Err e) _ _ _ here.answer here.left here.opened (two.told world (same ∙ seen)));
          err = refl;
          reached = caching_same own _ old;
          perf_maps = stays perf.format_test old.perf_maps;
          looked = looked_both files own before middle after one.looked two.looked;
        })

  -- a file that was looked at without a fault
  unfaulting : {failed : Type 0} (before after : X) → Looked files before after failed → (failed → ⊥) → Looked files before after ⊥
  unfaulting {failed} before after looked none = record { worlds = looked.worlds; pid = looked.pid; faults = record { grows = looked.faults.grows; fault = λ f. absurd f; steady = inr (still_in looked.faults.steady) } }
    where
      still_in : {P : Type 0} → failed ⊎ P → P
      still_in (inl is) = absurd (none is)
      still_in (inr is) = is

  module _ (path : List ℕ) (kept : ProcessCaches) (mid : Cache) (before after : X) where
    abbrev Pins : Result (Unit {0}) Error → Type 0
    Pins pinned = PinsFile files perf.format_test path pinned kept.perf_maps mid before after

    abbrev Whole_pins : Result (Unit {0}) Error → Cache → Type 0
    Whole_pins result now = Whole (pins_perf_map path) result kept (record kept { perf_maps = now }) before after

    -- one file at most is read
    opened_at : (pinned : Result (Unit {0}) Error) → Pins pinned → (world : World) → in_view (files.worlds before) ≡ Some world → files.opens after ≤ files.opens before + (pins_perf_map path world kept).opens
    opened_at pinned did world seen = opened_by (will_open (with_pin false kept.perf_maps path) path (entry_at world path)) _ _ (did.reads.spared world seen) did.reads.most

    -- a perf map that is absent is pinned as it is held
    pub pins_absent : Pins (Err errors.NotFound) → Whole_pins (Ok tt) (with_pin true mid path)
    pins_absent did = rw did.err (record {
      told = λ world seen.
          let pinned_anyway : perf_map_pinning kept.perf_maps path (entry_at world path) ≡ (Ok tt, with_pin true kept.perf_maps path) =
          absent_pinned kept.perf_maps path (pinning perf.format_test kept.perf_maps path (entry_at world path)) (did.answer world seen) in
          record {
            answer = ap (λ (x : Result (Unit {0}) Error × Cache). x.0) pinned_anyway;
            left = ap (λ (x : Result (Unit {0}) Error × Cache). record kept { perf_maps = x.1 }) (sym pinned_anyway);
            opened = opened_at (Err errors.NotFound) did world seen;
          };
      err = tt;
      reached = record { changes = PinPerfMap true path ∷ []; told = λ world seen. (tt, tt); leads = refl };
      perf_maps = record { consistent = λ well. consistent_pinned perf.format_test kept.perf_maps path true well; reload = refl };
      looked = unfaulting before after did.looked (λ is. cc is);
    })

    -- any other is pinned at the version of a look, or refused
    pub pins_stays : (pinned : Result (Unit {0}) Error) → IfErr pinned (λ e. e ≡ errors.NotFound → ⊥) → Pins pinned → Whole_pins pinned mid
    pins_stays (Ok tt) is did = record {
      told = λ world seen.
          let there : pinning perf.format_test kept.perf_maps path (entry_at world path) ≡ (Ok tt, mid) =
          subst (λ (o : Option Entry). pinning perf.format_test kept.perf_maps path o ≡ (Ok tt, mid)) (did.left.told world seen) did.left.leaves in
          let pinned : perf_map_pinning kept.perf_maps path (entry_at world path) ≡ (Ok tt, mid) = ap (pinned_if_absent kept.perf_maps path) there in
          record {
            answer = ap (λ (x : Result (Unit {0}) Error × Cache). x.0) pinned;
            left = ap (λ (x : Result (Unit {0}) Error × Cache). record kept { perf_maps = x.1 }) (sym pinned);
            opened = opened_at (Ok tt) did world seen;
          };
      err = tt;
      reached = record {
        changes = PinPerfMap false path ∷ Called (LookPerfMap path did.left.there) ∷ PinPerfMap true path ∷ [];
        told = λ world seen. (tt, (did.left.told world seen, (tt, tt)));
        leads = ap (λ (x : Cache). record kept { perf_maps = x }) (left_of kept.perf_maps mid path (look perf.format_test (with_pin false kept.perf_maps path) path did.left.there) did.left.leaves);
      };
      perf_maps = record { consistent = did.consistent; reload = did.reload };
      looked = did.looked;
    }
    pins_stays (Err e) is did = rw did.err (record {
      told = λ world seen. record {
        answer = fails_pinned kept.perf_maps path (pinning perf.format_test kept.perf_maps path (entry_at world path)) e is (did.answer world seen);
        left = tt;
        opened = opened_at (Err e) did world seen;
      };
      err = refl;
      reached = caching_same own _ kept;
      perf_maps = stays perf.format_test kept.perf_maps;
      looked = did.looked;
    })

-- reading perf maps is refused as reading is
told_refused : (told : Option (List PerfFunction)) (e : Error) → perf.unless_told told ≡ Some e → IsReadRefusal e
told_refused None e is = let same : errors.InvalidData ≡ e = cc is in subst IsReadRefusal same tt
told_refused (Some functions) e is = absurd (cc is)

fails_reading : (e : Error) → MayFail perf.format_test e → IsReadRefusal e
fails_reading errors.NotFound may = tt
fails_reading errors.PermissionDenied may = tt
fails_reading errors.ReadFault may = tt
fails_reading errors.OutOfMemory may = tt
fails_reading e may = told_refused (perf_functions_in may.0) e may.1

pub reads_refused : (result : Result (Unit {0}) Error) → IfErr result (MayFail perf.format_test) → IfErr result IsReadRefusal
reads_refused (Ok tt) may = tt
reads_refused (Err e) may = fails_reading e may

-- and so is remembering a process
pub lacks_read : (kept : Option Remembered) (e : Error) → MayLackId kept e → IsReadRefusal e
lacks_read kept errors.OutOfMemory may = tt
lacks_read (Some known) _ may = absurd may
lacks_read None _ may = may

module _ {X : Type 0} (files : Ghosts X) (path : List ℕ) (cache mid : Cache) (before after : X) where
  abbrev Pins_file : Result (Unit {0}) Error → Type 0
  Pins_file pinned = PinsFile files perf.format_test path pinned cache mid before after

  abbrev Is_left : Option World → Cache → Type 0
  Is_left view now = IsLeft (perf_map_pinning cache path) path view now

  -- where nothing is there, a path that isn't fixed is refused as absent
  absent : (current : Option Stamp) → (IsSome current → ⊥) → (pinned_by cache path (by_fixed perf.format_test (with_pin false cache path) path None current)).0 ≡ Err errors.NotFound
  absent None none = refl
  absent (Some stamp) none = absurd (none refl)

  as_held : (view : Option World) → Told view (λ world. GivesOrFaults (λ (done : Unit {0}). done) (pinning perf.format_test cache path (entry_at world path)).0 (Err errors.NotFound)) →
      (IsSome (fixed (with_pin false cache path) path) → ⊥) → Is_left view (with_pin true cache path)
  as_held None told free = record { there = None; told = λ world seen. absurd (cc seen); leaves = absent_pinned cache path (pinning perf.format_test cache path None) (absent (fixed (with_pin false cache path) path) free) }
  as_held (Some here) told free = record {
    there = entry_at here path;
    told = λ world seen. let same : here ≡ world = cc seen in ap (λ (w : World). entry_at w path) same;
    leaves = absent_pinned cache path (pinning perf.format_test cache path (entry_at here path)) (told here refl);
  }

  -- whatever is told, a perf map that is absent is pinned as it is held
  pub left_absent : Pins_file (Err errors.NotFound) → Is_left (in_view (files.worlds before)) (with_pin true mid path)
  left_absent did = rw did.err (as_held (in_view (files.worlds before)) did.answer (λ held. false≢true ((did.sure held).0)))

  -- any other at the version of a look
  pub left_stays : (pinned : Result (Unit {0}) Error) → Pins_file pinned → OnOk pinned (Is_left (in_view (files.worlds before)) mid)
  left_stays (Ok tt) did = record { there = did.left.there; told = did.left.told; leaves = ap (pinned_if_absent cache path) did.left.leaves }
  left_stays (Err e) did = tt

-- the perf map is pinned by what is remembered
pub pins_known : (pid : Pid) (own : ℕ) (view seen : Option World) (known : Remembered) (old mid : ProcessCaches) (now : Cache) → IsKnown pid own (value_at pid_cmp old.ids pid) known →
    mid ≡ record old { ids = with_absent pid_cmp old.ids pid known } → seen ≡ view → IsLeft (perf_map_pinning mid.perf_maps known.perf_map) known.perf_map seen now →
    PinsKnown pid own view old (record mid { perf_maps = now })
pins_known pid own view seen known old mid now is_known mid_is same left = record {
  known = known;
  is_known = is_known;
  pinned = subst (λ (v : Option World). IsLeft (perf_map_pinning old.perf_maps known.perf_map) known.perf_map v now) same
      (subst (λ (k : ProcessCaches). IsLeft (perf_map_pinning k.perf_maps known.perf_map) known.perf_map seen now) mid_is left);
  rest = ap (λ (k : ProcessCaches). record k { perf_maps = now }) mid_is;
}
