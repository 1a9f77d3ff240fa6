-- How the steps of a call on a process follow one another.
use Rattle.std.proofs.Common.{◌≡◌, ◌⊎◌, ℕ, ◌+◌, ◌≤◌, Bool, true, false, List, [], ◌∷◌, ◌++◌, Option, Some, None, Result, Ok, Err, IfOk, IsOkUnless, rules, inl, inr, refl, sym, ap, subst, ◌∙◌, arith}
use Rattle.std.specs.List.{AllByRecursion}
use Rattle.bz_base.specs.declared.error.Error.{Error}
use Rattle.bz_base.specs.declared.error.Error.TheVariants as errors
use Rattle.bz_base.specs.declared.types.Symbolized.{Symbolized}
use Rattle.bz_base.specs.Answer.{Answer, Gives, reading}
use Rattle.bz_files.specs.Count.{CountsFaults, counted}
use Rattle.bz_files.specs.Looked.{Faulted, Looked, ReadsOne}
use Rattle.bz_files.specs.World.{World, Entry, Told, in_view, entry_at, has_file}
use Rattle.bz_files.specs.declared.files.Files.{Ghosts}
use Rattle.bz_cache.specs.Cache.{Cache}
use Rattle.bz_cache.specs.Format.{GivesOrFaults, FailsAs}
use Rattle.bz_cache.specs.InsertMap.{value_at, with_absent}
use Rattle.bz_cache.specs.Look.{look}
use Rattle.bz_elf.specs.Format as elf
use Rattle.bz_proc.specs.PerfMap as perf
use Rattle.bz_proc.specs.PerfPath.{perf_map_path}
use Rattle.bz_proc.specs.PerfId.{ns_tgid_of, status_path}
use Rattle.bz_base.specs.declared.pid.Pid.{Pid}
use Rattle.bz_cache.specs.FileCall.{Question, CallsFile, FileTold, FileSome, Leaves, file_opens}
use Rattle.bz_process.specs.Process.{StepOutcome, Step, and_then, followed, gives, unless_absent, or_unknown, of_elf, of_perf_map, count_of, pid_cmp, by_id, by_kept, remember, remembered}
use Rattle.bz_process.specs.ProcessCall.{Change, LookElf, LookPerfMap, Remember, changed, after_changes, IsTold, Reaches, LeavesUnlessFailed, HasOutcome, StaysKept, TakesStep, softened}
use Rattle.bz_process.specs.Remembered.{Remembered}
use Rattle.bz_process.specs.Caches.{ProcessCaches}

-- changes one after another
after_both : (first second : List Change) (kept : ProcessCaches) → after_changes (first ++ second) kept ≡ after_changes second (after_changes first kept)
after_both [] second kept = refl
after_both (change ∷ first) second kept = after_both first second (changed change kept)

all_both : (P : Change → Type 0) (first second : List Change) → AllByRecursion P first → AllByRecursion P second → AllByRecursion P (first ++ second)
all_both P [] second one two = two
all_both P (change ∷ first) second one two = (one.0, all_both P first second one.1 two)

module _ (own : ℕ) (view : Option World) where
  pub reaches_same : (kept : ProcessCaches) → Reaches own view kept kept
  reaches_same kept = record { changes = []; told = λ world seen. tt; leads = refl }

  pub reaches_both : (old mid now : ProcessCaches) → Reaches own view old mid → Reaches own view mid now → Reaches own view old now
  reaches_both old mid now one two = record {
    changes = one.changes ++ two.changes;
    told = λ world seen. all_both (IsTold own world) one.changes two.changes (one.told world seen) (two.told world seen);
    leads = two.leads ∙ ap (after_changes two.changes) one.leads ∙ sym (after_both one.changes two.changes old);
  }

pub stays : (test : List ℕ → Option Error) (cache : Cache) → StaysKept test cache cache
stays test cache = record { consistent = λ all. all; reload = refl }

pub stays_both : (test : List ℕ → Option Error) (old mid now : Cache) → StaysKept test old mid → StaysKept test mid now → StaysKept test old now
stays_both test old mid now one two = record { consistent = λ all. two.consistent (one.consistent all); reload = two.reload ∙ one.reload }

-- one of the caches, and the looks at its files
module _ (own : ℕ) (test : List ℕ → Option Error) (cache_of : ProcessCaches → Cache) (with_cache : ProcessCaches → Cache → ProcessCaches) (looks : List ℕ → Option Entry → Change)
    (told_is : (world : World) (path : List ℕ) → IsTold own world (looks path (entry_at world path)))
    (changed_is : (path : List ℕ) (there : Option Entry) (kept : ProcessCaches) → changed (looks path there) kept ≡ with_cache kept (look test (cache_of kept) path there).1)
    (same : (kept : ProcessCaches) → with_cache kept (cache_of kept) ≡ kept) where
  -- a look that is told, or none
  reach_none : (world : World) (kept : ProcessCaches) (now : Cache) → now ≡ cache_of kept → Reaches own (Some world) kept (with_cache kept now)
  reach_none world kept now is = record { changes = []; told = λ w seen. tt; leads = ap (with_cache kept) is ∙ same kept }

  reach_look : (world : World) (path : List ℕ) (kept : ProcessCaches) (now : Cache) → now ≡ (look test (cache_of kept) path (entry_at world path)).1 → Reaches own (Some world) kept (with_cache kept now)
  reach_look world path kept now is = record {
    changes = looks path (entry_at world path) ∷ [];
    told = λ w seen. (let same_world : world ≡ w = cc seen in subst (λ (x : World). IsTold own x (looks path (entry_at world path))) same_world (told_is world path), tt);
    leads = ap (with_cache kept) is ∙ sym (changed_is path (entry_at world path) kept);
  }

  reach_told : {A : Type 0} (result : Result A Error) (world : World) (path : List ℕ) (kept : ProcessCaches) (now : Cache) →
      Leaves result (cache_of kept) (look test (cache_of kept) path (entry_at world path)).1 now → Reaches own (Some world) kept (with_cache kept now)
  reach_told (Ok given) world path kept now is = reach_look world path kept now is
  reach_told (Err errors.ReadFault) world path kept now is = reach_none world kept now is
  reach_told (Err errors.OutOfMemory) world path kept now (inl is) = reach_none world kept now is
  reach_told (Err errors.OutOfMemory) world path kept now (inr is) = reach_look world path kept now is
  reach_told (Err _) world path kept now is = reach_look world path kept now is

  module _ {A B : Type 0} (read : A → B) (given : List ℕ → Result B Error) where
    abbrev asked : Question B
    asked = record { test = test; taken = true; given = given }

    reach_some : (result : Result A Error) (path : List ℕ) (kept : ProcessCaches) (now : Cache) → FileSome read asked path result (cache_of kept) now → Reaches own None kept (with_cache kept now)
    reach_some result path kept now (inl by) = record {
      changes = looks path by.looked.0 ∷ [];
      told = λ w seen. absurd (cc seen);
      leads = ap (λ (x : Result (List ℕ) Error × Cache). with_cache kept x.1) (sym by.looked.1) ∙ sym (changed_is path by.looked.0 kept);
    }
    reach_some result path kept now (inr first) = record { changes = []; told = λ w seen. tt; leads = ap (with_cache kept) first.unchanged ∙ same kept }

    pub reach_file : (view : Option World) (result : Result A Error) (path : List ℕ) (kept : ProcessCaches) (now : Cache) (before after : ℕ) →
        ((world : World) → view ≡ Some world → FileTold read asked path result (cache_of kept) now (entry_at world path) before after) →
        FileSome read asked path result (cache_of kept) now → Reaches own view kept (with_cache kept now)
    reach_file None result path kept now before after told some = reach_some result path kept now some
    reach_file (Some world) result path kept now before after told some = reach_told result world path kept now (told world refl).state

    -- what is left, where it is told what lies at the path
    leaves_file : (result : Result A Error) (kept : ProcessCaches) (expected now : Cache) → Leaves result (cache_of kept) expected now → LeavesUnlessFailed result (with_cache kept expected) (with_cache kept now)
    leaves_file (Ok x) kept expected now is = ap (with_cache kept) is
    leaves_file (Err errors.ReadFault) kept expected now is = tt
    leaves_file (Err errors.OutOfMemory) kept expected now is = tt
    leaves_file (Err _) kept expected now is = ap (with_cache kept) is

-- one file at most is read, and none where none has to be
pub opened_by : (opened : Bool) (before after : ℕ) → (opened ≡ false → after ≡ before) → (after ≡ before) ⊎ (after ≡ counted before) → after ≤ before + count_of opened
opened_by false before after spared most = let is : after ≡ before = spared refl in omega (arith, is)
opened_by true before after spared (inl is) = omega (arith, is)
opened_by true before after spared (inr is) = omega (arith, is)

module _ {X : Type 0} (files : Ghosts X) (own : ℕ) where
  -- a look at a file of one of the two caches
  pub looks_at_elf : {A B : Type 0} (read : A → B) (given : List ℕ → Result B Error) (path : List ℕ) (result : Result A Error) (kept : ProcessCaches) (now : Cache) (before after : X) →
      CallsFile files read (record { test = elf.format_test; taken = true; given = given }) path result kept.elf now before after →
      TakesStep files own read (of_elf (record { test = elf.format_test; taken = true; given = given }) path) result kept (record kept { elf = now }) before after
  looks_at_elf read given path result kept now before after called = record {
    told = λ world seen.
        let told = called.told world seen in
        record {
          answer = told.answer;
          left = leaves_file own elf.format_test (λ k. k.elf) (λ k c. record k { elf = c }) LookElf (λ w p. refl) (λ p t k. refl) (λ k. refl) read given result kept _ now told.state;
          opened = opened_by (file_opens true kept.elf path (entry_at world path)) _ _ told.spared called.most;
        };
    reached = reach_file own elf.format_test (λ k. k.elf) (λ k c. record k { elf = c }) LookElf (λ w p. refl) (λ p t k. refl) (λ k. refl) read given (in_view (files.worlds before)) result path kept now _ _ called.told called.untold;
    elf = record { consistent = called.consistent; reload = called.reload };
    perf_maps = stays perf.format_test kept.perf_maps;
    looked = called.looked;
  }

  pub looks_at_perf_map : {A B : Type 0} (read : A → B) (given : List ℕ → Result B Error) (path : List ℕ) (result : Result A Error) (kept : ProcessCaches) (now : Cache) (before after : X) →
      CallsFile files read (record { test = perf.format_test; taken = true; given = given }) path result kept.perf_maps now before after →
      TakesStep files own read (of_perf_map (record { test = perf.format_test; taken = true; given = given }) path) result kept (record kept { perf_maps = now }) before after
  looks_at_perf_map read given path result kept now before after called = record {
    told = λ world seen.
        let told = called.told world seen in
        record {
          answer = told.answer;
          left = leaves_file own perf.format_test (λ k. k.perf_maps) (λ k c. record k { perf_maps = c }) LookPerfMap (λ w p. refl) (λ p t k. refl) (λ k. refl) read given result kept _ now told.state;
          opened = opened_by (file_opens true kept.perf_maps path (entry_at world path)) _ _ told.spared called.most;
        };
    reached = reach_file own perf.format_test (λ k. k.perf_maps) (λ k c. record k { perf_maps = c }) LookPerfMap (λ w p. refl) (λ p t k. refl) (λ k. refl) read given (in_view (files.worlds before)) result path kept now _ _ called.told called.untold;
    elf = stays elf.format_test kept.elf;
    perf_maps = record { consistent = called.consistent; reload = called.reload };
    looked = called.looked;
  }

  -- files that weren't looked at
  pub unlooked : {failed : Type 0} (at : X) → (failed → ⊥) → Looked files at at failed
  unlooked at none = record { worlds = refl; pid = refl; faults = record { grows = omega arith; fault = λ f. absurd (none f); steady = inr refl } }

  -- something is given, and nothing is looked at
  pub still : {A B : Type 0} (read : A → B) (given : B) (x : A) (kept : ProcessCaches) (at : X) → given ≡ read x → TakesStep files own read (gives given) (Ok x) kept kept at at
  still read given x kept at is = record {
    told = λ world seen. record { answer = ap Ok is; left = refl; opened = omega arith };
    reached = reaches_same own _ kept;
    elf = stays elf.format_test kept.elf;
    perf_maps = stays perf.format_test kept.perf_maps;
    looked = unlooked at (λ none. none);
  }

  -- memory ran out before anything was looked at
  pub wants_memory : {A B : Type 0} (read : A → B) (expected : Step B) (kept : ProcessCaches) (at : X) → TakesStep files own read expected (Err errors.OutOfMemory) kept kept at at
  wants_memory read expected kept at = record {
    told = λ world seen. record { answer = tt; left = tt; opened = omega arith };
    reached = reaches_same own _ kept;
    elf = stays elf.format_test kept.elf;
    perf_maps = stays perf.format_test kept.perf_maps;
    looked = unlooked at (λ is. cc is);
  }

  -- files that were looked at twice
  pub looked_both : {failed : Type 0} (before mid after : X) → Looked files before mid ⊥ → Looked files mid after failed → Looked files before after failed
  looked_both {failed} before mid after one two =
      let still : files.faults mid ≡ files.faults before = steady_in one.faults.steady in
      record { worlds = two.worlds ∙ one.worlds; pid = two.pid ∙ one.pid; faults = subst (λ (n : ℕ). CountsFaults n (files.faults after) failed) still two.faults }
    where
      steady_in : {P : Type 0} → ⊥ ⊎ P → P
      steady_in (inl none) = absurd none
      steady_in (inr is) = is

  module _ {A B C D : Type 0} (read : A → B) (read_next : C → D) (first : Step B) (next : B → Step D) where
    -- what comes of the outcomes of two steps
    told_next : (world : World) (answer : Result B Error) (left mid now : ProcessCaches) (opens : ℕ) (given : B) (result : Result C Error) (before middle after : ℕ) →
        answer ≡ Ok given → mid ≡ left → middle ≤ before + opens → HasOutcome read_next (next given world mid) result now middle after →
        HasOutcome read_next (followed answer left opens (λ g l. next g world l)) result now before after
    told_next world answer left mid now opens given result before middle after is kept_is opened second =
        let two : HasOutcome read_next (next given world left) result now middle after = rw (← kept_is) second in
        rw is (record { answer = two.answer; left = two.left; opened = omega (arith, two.opened, opened) })

    -- a step that isn't refused, and the next one
    pub in_order : (x : A) (result : Result C Error) (old mid now : ProcessCaches) (before middle after : X) →
        TakesStep files own read first (Ok x) old mid before middle → TakesStep files own read_next (next (read x)) result mid now middle after →
        TakesStep files own read_next (and_then first next) result old now before after
    in_order x result old mid now before middle after one two =
        let same : in_view (files.worlds middle) ≡ in_view (files.worlds before) = ap in_view one.looked.worlds in
        record {
          told = λ world seen.
              let here = one.told world seen in
              told_next world (first world old).answer (first world old).left mid now (first world old).opens (read x) result _ _ _ here.answer here.left here.opened (two.told world (same ∙ seen));
          reached = reaches_both own _ old mid now one.reached (subst (λ (v : Option World). Reaches own v mid now) same two.reached);
          elf = stays_both elf.format_test old.elf mid.elf now.elf one.elf two.elf;
          perf_maps = stays_both perf.format_test old.perf_maps mid.perf_maps now.perf_maps one.perf_maps two.perf_maps;
          looked = looked_both before middle after one.looked two.looked;
        }

    -- what comes of a step that is refused
    fails_next : (answer : Result B Error) (left : ProcessCaches) (opens : ℕ) (then : B → ProcessCaches → StepOutcome D) (e : Error) → FailsAs answer e → FailsAs (followed answer left opens then).answer e
    fails_next answer left opens then errors.ReadFault fails = tt
    fails_next answer left opens then errors.OutOfMemory fails = tt
    fails_next answer left opens then _ fails = rw fails refl

    leaves_next : (answer : Result B Error) (left now : ProcessCaches) (opens : ℕ) (then : B → ProcessCaches → StepOutcome D) (e : Error) → FailsAs answer e →
        LeavesUnlessFailed {A = A} (Err e) left now → LeavesUnlessFailed {A = C} (Err e) (followed answer left opens then).left now
    leaves_next answer left now opens then errors.ReadFault fails is = tt
    leaves_next answer left now opens then errors.OutOfMemory fails is = tt
    leaves_next answer left now opens then _ fails is = rw fails is

    opens_next : (answer : Result B Error) (left : ProcessCaches) (opens : ℕ) (then : B → ProcessCaches → StepOutcome D) (before after : ℕ) → after ≤ before + opens → after ≤ before + (followed answer left opens then).opens
    opens_next (Ok given) left opens then before after le = omega (arith, le)
    opens_next (Err e) left opens then before after le = le

    -- a step that is refused, with no other
    pub refused : (e : Error) (old now : ProcessCaches) (before after : X) →
        TakesStep files own read first (Err e) old now before after → TakesStep files own read_next (and_then first next) (Err e) old now before after
    refused e old now before after one = record {
      told = λ world seen.
          let here = one.told world seen in
          let o = first world old in
          record {
            answer = fails_next o.answer o.left o.opens (λ g l. next g world l) e here.answer;
            left = leaves_next o.answer o.left now o.opens (λ g l. next g world l) e here.answer here.left;
            opened = opens_next o.answer o.left o.opens (λ g l. next g world l) _ _ here.opened;
          };
      reached = one.reached;
      elf = one.elf;
      perf_maps = one.perf_maps;
      looked = one.looked;
    }

  -- a step whose refusal by an absent file makes the address unknown
  answer_softened : (answer : Result Answer Error) (result : Result Symbolized Error) → GivesOrFaults reading answer result → GivesOrFaults reading (or_unknown answer) (softened result)
  answer_softened answer (Ok x) is = ap or_unknown is
  answer_softened answer (Err errors.NotFound) is = ap or_unknown is
  answer_softened answer (Err errors.ReadFault) is = tt
  answer_softened answer (Err errors.OutOfMemory) is = tt
  answer_softened answer (Err _) is = ap or_unknown is

  left_softened : (result : Result Symbolized Error) (expected now : ProcessCaches) → LeavesUnlessFailed result expected now → LeavesUnlessFailed (softened result) expected now
  left_softened (Ok x) expected now is = is
  left_softened (Err errors.NotFound) expected now is = is
  left_softened (Err errors.ReadFault) expected now is = tt
  left_softened (Err errors.OutOfMemory) expected now is = tt
  left_softened (Err _) expected now is = is

  looked_softened : (result : Result Symbolized Error) (before after : X) → Looked files before after (Faulted result) → Looked files before after (Faulted (softened result))
  looked_softened (Ok x) before after looked = looked
  looked_softened (Err errors.NotFound) before after looked = record { worlds = looked.worlds; pid = looked.pid; faults = record { grows = looked.faults.grows; fault = λ none. absurd none; steady = no_fault looked.faults.steady } }
    where
      no_fault : {P : Type 0} → (errors.NotFound ≡ errors.ReadFault) ⊎ P → ⊥ ⊎ P
      no_fault (inl is) = inl (cc is)
      no_fault (inr is) = inr is
  looked_softened (Err _) before after looked = looked

  pub softens : (expected : Step Answer) (result : Result Symbolized Error) (old now : ProcessCaches) (before after : X) →
      TakesStep files own reading expected result old now before after → TakesStep files own reading (unless_absent expected) (softened result) old now before after
  softens expected result old now before after step = record {
    told = λ world seen.
        let here = step.told world seen in
        record { answer = answer_softened _ result here.answer; left = left_softened result _ now here.left; opened = here.opened };
    reached = step.reached;
    elf = step.elf;
    perf_maps = step.perf_maps;
    looked = looked_softened result before after step.looked;
  }

-- want of memory is no fault of a file
pub unfaulted : (A : Type 0) → Faulted {A = A} (Err errors.OutOfMemory) → ⊥
unfaulted A is = cc is

-- an answer that is known, unless memory ran out
pub gives_known : (result : Result Symbolized Error) (known : Answer) → IfOk result (λ answer. reading answer ≡ known) → IsOkUnless result errors.OutOfMemory → Gives reading (Ok known) result
gives_known (Ok answer) known is memory = ap Ok (sym is)
gives_known (Err errors.OutOfMemory) known is memory = tt
gives_known (Err _) known is memory = search (rules, memory)

module _ {X : Type 0} (files : Ghosts X) (pid : Pid) (own : ℕ) where
  -- what is remembered is told, unless memory ran out
  pub recalls : (result : Result Remembered Error) (known : Remembered) (kept : ProcessCaches) (at : X) → value_at pid_cmp kept.ids pid ≡ Some known →
      IfOk result (λ k. k ≡ known) → IsOkUnless result errors.OutOfMemory → TakesStep files own (λ (k : Remembered). k) (remember pid own) result kept kept at at
  recalls (Ok k) known kept at found is memory = record {
    told = λ world seen. rw found (record { answer = ap Ok (sym is); left = refl; opened = omega arith });
    reached = reaches_same own _ kept;
    elf = stays elf.format_test kept.elf;
    perf_maps = stays perf.format_test kept.perf_maps;
    looked = unlooked files own at (λ none. none);
  }
  recalls (Err e) known kept at found is memory = rw memory (wants_memory files own (λ (k : Remembered). k) (remember pid own) kept at)

  -- whether the status was read
  abbrev Spares : X → X → Type 0
  Spares before after = Told (in_view (files.worlds before)) (λ world. has_file (entry_at world (status_path pid)) ≡ false → files.opens after ≡ files.opens before)

  fails_known : (there : Option Entry) (world : World) (kept : ProcessCaches) (e : Error) → entry_at world (status_path pid) ≡ there → FailsAs (ns_tgid_of pid own there) e →
      FailsAs (by_id pid own (count_of (has_file there)) kept (ns_tgid_of pid own there)).answer e
  fails_known there world kept errors.ReadFault is fails = tt
  fails_known there world kept errors.OutOfMemory is fails = tt
  fails_known there world kept _ is fails = rw fails refl

  left_known : (there : Option Entry) (kept : ProcessCaches) (e : Error) → FailsAs (ns_tgid_of pid own there) e →
      LeavesUnlessFailed {A = Remembered} (Err e) (by_id pid own (count_of (has_file there)) kept (ns_tgid_of pid own there)).left kept
  left_known there kept errors.ReadFault fails = tt
  left_known there kept errors.OutOfMemory fails = tt
  left_known there kept _ fails = rw fails refl

  opens_known : (opens : ℕ) (kept : ProcessCaches) (id : Result ℕ Error) → (by_id pid own opens kept id).opens ≡ opens
  opens_known opens kept (Ok id) = refl
  opens_known opens kept (Err e) = refl

  -- a process that isn't remembered, since its status is refused or memory ran out
  pub forgets : (e : Error) (kept : ProcessCaches) (before after : X) → value_at pid_cmp kept.ids pid ≡ None →
      Told (in_view (files.worlds before)) (λ world. FailsAs (ns_tgid_of pid own (entry_at world (status_path pid))) e) → Spares before after → ReadsOne files before after →
      Looked files before after (Faulted {A = Remembered} (Err e)) → TakesStep files own (λ (k : Remembered). k) (remember pid own) (Err e) kept kept before after
  forgets e kept before after absent fails spared most looked = record {
    told = λ world seen.
        let there = entry_at world (status_path pid) in
        let le : files.opens after ≤ files.opens before + count_of (has_file there) = opened_by (has_file there) _ _ (spared world seen) most in
        rw absent (record {
          answer = fails_known there world kept e refl (fails world seen);
          left = left_known there kept e (fails world seen);
          opened = rw opens_known le;
        });
    reached = reaches_same own _ kept;
    elf = stays elf.format_test kept.elf;
    perf_maps = stays perf.format_test kept.perf_maps;
    looked = looked;
  }

  -- files that were looked at by a call that isn't a failed one
  pub unfailed : {failed : Type 0} (before after : X) → Looked files before after ⊥ → (failed → ⊥) → Looked files before after failed
  unfailed {failed} before after looked none = record { worlds = looked.worlds; pid = looked.pid; faults = record { grows = looked.faults.grows; fault = λ f. absurd (none f); steady = inr (still_in looked.faults.steady) } }
    where
      still_in : {P : Type 0} → ⊥ ⊎ P → P
      still_in (inl none) = absurd none
      still_in (inr is) = is

  -- what is expected where nothing is remembered, and the status tells an id
  told_none : (result : Result Remembered Error) (world : World) (kept now : ProcessCaches) (o : Option Remembered) (before after : ℕ) → o ≡ None →
      HasOutcome (λ (k : Remembered). k) (by_kept pid own world kept None) result now before after → HasOutcome (λ (k : Remembered). k) (by_kept pid own world kept o) result now before after
  told_none result world kept now o before after is told = rw is told

  told_id : (result : Result Remembered Error) (kept now : ProcessCaches) (opens id : ℕ) (told : Result ℕ Error) (before after : ℕ) → told ≡ Ok id →
      HasOutcome (λ (k : Remembered). k) (by_id pid own opens kept (Ok id)) result now before after → HasOutcome (λ (k : Remembered). k) (by_id pid own opens kept told) result now before after
  told_id result kept now opens id told before after is outcome = rw is outcome

  -- a process that is remembered by its status
  pub remembers : (known : Remembered) (kept : ProcessCaches) (before after : X) → value_at pid_cmp kept.ids pid ≡ None → known ≡ remembered pid own known.id →
      Told (in_view (files.worlds before)) (λ world. ns_tgid_of pid own (entry_at world (status_path pid)) ≡ Ok known.id) → Spares before after → ReadsOne files before after →
      Looked files before after ⊥ →
      TakesStep files own (λ (k : Remembered). k) (remember pid own) (Ok known) kept (record kept { ids = with_absent pid_cmp kept.ids pid known }) before after
  remembers known kept before after absent same is spared most looked = record {
    told = λ world seen.
        let there = entry_at world (status_path pid) in
        let le : files.opens after ≤ files.opens before + count_of (has_file there) = opened_by (has_file there) _ _ (spared world seen) most in
        let now : ProcessCaches = record kept { ids = with_absent pid_cmp kept.ids pid known } in
        told_none (Ok known) world kept now (value_at pid_cmp kept.ids pid) _ _ absent
        (told_id (Ok known) kept now (count_of (has_file there)) known.id (ns_tgid_of pid own there) _ _ (is world seen) (record {
          answer = ap Ok (sym same);
          left = ap (λ (k : Remembered). record kept { ids = with_absent pid_cmp kept.ids pid k }) same;
          opened = le;
        }));
    reached = record {
      changes = Remember pid known ∷ [];
      told = λ world seen. ((known.id, is world seen, same), tt);
      leads = refl;
    };
    elf = stays elf.format_test kept.elf;
    perf_maps = stays perf.format_test kept.perf_maps;
    looked = looked;
  }

  -- what is made to be remembered, with the path of its perf map
  pub made : (result : Result Remembered Error) (id : ℕ) (path : List ℕ) → IfOk result (λ k. k ≡ record { id = id; perf_map = path }) → path ≡ perf_map_path pid own id →
      IfOk result (λ k. k ≡ remembered pid own k.id)
  made (Ok k) id path is same =
      let known : k ≡ remembered pid own id = is ∙ ap (λ (p : List ℕ). record { id = id; perf_map = p }) same in
      known ∙ sym (ap (λ (r : Remembered). remembered pid own r.id) known)
  made (Err e) id path is same = tt
