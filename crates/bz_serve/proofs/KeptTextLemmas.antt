-- Some text tells the kept mappings of each process, and each call of the symbolizer leaves that so.
use Rattle.std.proofs.Common.{◌≡◌, Bool, true, false, cond, List, [], ◌∷◌, Option, Some, None, Result, Ok, Err, refl, sym, ap, subst, ◌∙◌}
use Rattle.std.proofs.lemmas.Bool.{eqb-true}
use Rattle.std.specs.BTreeMap.{insert_entry, is_at}
use Rattle.std.specs.Cmp.{unsigned_tied}
use Rattle.std.specs.Int.NonZero.{non_zero_u32_get}
use Rattle.std.specs.Option.{option_map_or}
use Rattle.std.specs.Ordering.{is_eq, match_ordering}
use Rattle.std.specs.declared.cmp.Ordering.{Ordering}
use Rattle.std.specs.declared.cmp.Ordering.TheVariants.{Less, Equal, Greater}
use Rattle.bz_base.specs.declared.error.Error.{Error}
use Rattle.bz_base.specs.declared.pid.Pid.{Pid}
use Rattle.bz_base.specs.declared.pid.Pid.TheVariants as pids
use Rattle.bz_base.proofs.PidLemmas.{ids_same}
use Rattle.bz_files.specs.declared.files.Files as files_trait
use Rattle.bz_cache.specs.InsertMap.{value_at, with_value, without}
use Rattle.bz_proc.specs.Maps.{Mapping}
use Rattle.bz_proc.specs.MapsFile.{AreOfText}
use Rattle.bz_process.specs.Caching.{Caching, KeptMappings, with_mappings}
use Rattle.bz_process.specs.CachingCall.{MayKeep}
use Rattle.bz_process.specs.Mapped.{AreUsed}
use Rattle.bz_process.specs.Process.{pid_cmp}
use Rattle.bz_process.specs.Processes.{KeptProcesses}
use Rattle.bz_process.specs.declared.query.ProcessQuery.{ProcessQuery}
use Rattle.bz_symbolize.specs.Caching.{CachesAsAsked}
use Rattle.bz_symbolize.specs.Evicting.{evicting}
use Rattle.bz_symbolize.specs.OfProcess.{OfProcess}
use Rattle.bz_symbolize.specs.Requests.{ToCache, ToEvict, CacheElf as KeepElf, CacheProcess as KeepProcess, EvictElf as ForgetElf, EvictProcess as ForgetProcess}
use Rattle.bz_symbolize.specs.Sources.{Handed, OneFile, OneProcess, OnProcessForm, SourceForm, UnlessProcessForm, form_of}
use Rattle.bz_symbolize.specs.State.{WholeState}
use Rattle.bz_symbolize.specs.declared.source.Source.{Source}
use Rattle.bz_serve.specs.Serving.{AreKeptOfText}

-- processes that the order doesn't tell apart are the same
pid_is : (a b : Pid) → is_at (pid_cmp a) b ≡ true → a ≡ b
pid_is pids.Slf pids.Slf is = refl
pid_is pids.Slf (pids.Pid n) is = cc is
pid_is (pids.Pid n) pids.Slf is = cc is
pid_is (pids.Pid n) (pids.Pid m) is = ap pids.Pid (ids_same n m (eqb-true _ _ (sym (unsigned_tied (non_zero_u32_get n) (non_zero_u32_get m)) ∙ is)))

module _ (pid : Pid) where
  -- some text tells those of a process
  pub found_of_text : (kept : KeptMappings) (mappings : List Mapping) → AreKeptOfText kept → value_at pid_cmp kept pid ≡ Some mappings → AreOfText pid mappings
  found_of_text [] mappings all found = cc found
  found_of_text (entry ∷ kept) mappings all found = by_test (is_at (pid_cmp pid) entry.0) refl (found_of_text kept mappings all.1) found
    where
      by_test : (here : Bool) → is_at (pid_cmp pid) entry.0 ≡ here → (value_at pid_cmp kept pid ≡ Some mappings → AreOfText pid mappings) →
          cond here (Some entry.1) (value_at pid_cmp kept pid) ≡ Some mappings → AreOfText pid mappings
      by_test true here later is =
          let same : entry.1 ≡ mappings = cc is in
          subst (AreOfText pid) same (subst (λ (p : Pid). AreOfText p entry.1) (sym (pid_is pid entry.0 here)) all.0)
      by_test false here later is = later is

  -- without them all others are
  without_of_text : (kept : KeptMappings) → AreKeptOfText kept → AreKeptOfText (without pid_cmp kept pid)
  without_of_text [] all = tt
  without_of_text (entry ∷ kept) all = by_test (is_at (pid_cmp pid) entry.0) (without_of_text kept all.1)
    where
      by_test : (here : Bool) → AreKeptOfText (without pid_cmp kept pid) → AreKeptOfText (cond here kept (entry ∷ without pid_cmp kept pid))
      by_test true later = all.1
      by_test false later = (all.0, later)

  -- and with others, which are of some text
  module _ (mappings : List Mapping) (told : AreOfText pid mappings) where
    -- a key that ties is this process
    tied_told : (entry : Pid × List Mapping) → is_at (pid_cmp pid) entry.0 ≡ true → AreOfText entry.0 mappings
    tied_told entry tied = subst (λ (p : Pid). AreOfText p mappings) (pid_is pid entry.0 tied) told

    set_of_text : (kept : KeptMappings) → AreKeptOfText kept → AreKeptOfText (with_value pid_cmp kept pid mappings)
    set_of_text [] all = tt
    set_of_text (entry ∷ kept) all = by_test (is_at (pid_cmp pid) entry.0) refl (set_of_text kept all.1)
      where
        by_test : (here : Bool) → is_at (pid_cmp pid) entry.0 ≡ here → AreKeptOfText (with_value pid_cmp kept pid mappings) →
            AreKeptOfText (cond here ((entry.0, mappings) ∷ kept) (entry ∷ with_value pid_cmp kept pid mappings))
        by_test true here later = (tied_told entry here, all.1)
        by_test false here later = (all.0, later)

    put_of_text : (kept : KeptMappings) → AreKeptOfText kept → AreKeptOfText (insert_entry pid_cmp kept pid mappings)
    put_of_text [] all = (told, tt)
    put_of_text (entry ∷ kept) all = by_order (pid_cmp pid entry.0) refl (put_of_text kept all.1)
      where
        by_order : (r : Ordering) → pid_cmp pid entry.0 ≡ r → AreKeptOfText (insert_entry pid_cmp kept pid mappings) →
            AreKeptOfText (match_ordering r ((pid, mappings) ∷ entry ∷ kept) ((entry.0, mappings) ∷ kept) (entry ∷ insert_entry pid_cmp kept pid mappings))
        by_order Less order later = (told, all)
        by_order Equal order later = (tied_told entry (ap is_eq order), all.1)
        by_order Greater order later = (all.0, later)

    with_of_text : (kept : KeptMappings) → AreKeptOfText kept → AreKeptOfText (with_mappings pid kept mappings)
    with_of_text kept all = by_found (value_at pid_cmp kept pid)
      where
        by_found : (found : Option (List Mapping)) → AreKeptOfText (option_map_or (λ former. with_value pid_cmp kept pid mappings) found (insert_entry pid_cmp kept pid mappings))
        by_found None = put_of_text kept all
        by_found (Some former) = set_of_text kept all

-- so whether they were kept or not, a process is answered by those of some text
pub used_of_text : (pid : Pid) (kept : KeptMappings) (mappings : List Mapping) → AreKeptOfText kept → AreUsed pid (value_at pid_cmp kept pid) mappings → AreUsed pid None mappings
used_of_text pid kept mappings all used = by_found (value_at pid_cmp kept pid) refl used
  where
    by_found : (found : Option (List Mapping)) → value_at pid_cmp kept pid ≡ found → AreUsed pid found mappings → AreUsed pid None mappings
    by_found None is used = used
    by_found (Some former) is used = record { from = found_of_text pid kept mappings all (is ∙ ap Some (sym used.from)); positive = used.positive }

module _ {D R : Type 0} (old now : WholeState D R) (all : AreKeptOfText old.processes.mappings) where
  -- keeping a process leaves those of some text
  may_of_text : (asked : Caching) → MayKeep asked old.processes.mappings now.processes.mappings → AreKeptOfText now.processes.mappings
  may_of_text asked may = subst AreKeptOfText (sym may.kept) (by_vmas asked.vmas may.untold)
    where
      by_vmas : (vmas : Bool) → (vmas ≡ true → AreOfText asked.pid may.mappings) → AreKeptOfText (cond vmas (with_mappings asked.pid old.processes.mappings may.mappings) old.processes.mappings)
      by_vmas true told = with_of_text asked.pid may.mappings (told refl) old.processes.mappings all
      by_vmas false told = all

module _ {D R X : Type 0} (old now : WholeState D R) (all : AreKeptOfText old.processes.mappings) where
  -- a call that asks addresses leaves the mappings as they were
  pub asked_of_text : (files : files_trait.Ghosts X) (source : Source) (promise : ProcessQuery → Type 0) (before : X) → OfProcess files source promise old now before →
      ((query : ProcessQuery) → promise query → now.processes.mappings ≡ old.processes.mappings) → AreKeptOfText now.processes.mappings
  asked_of_text files source promise before call same = subst AreKeptOfText (sym (by_form (form_of source) call.asked call.others)) all
    where
      by_form : (form : SourceForm) → OnProcessForm form promise → UnlessProcessForm form (now.processes ≡ old.processes) → now.processes.mappings ≡ old.processes.mappings
      by_form (OneFile file) asked others = ap (λ (p : KeptProcesses D R). p.mappings) others
      by_form (Handed given) asked others = ap (λ (p : KeptProcesses D R). p.mappings) others
      by_form (OneProcess query) asked others = same query asked

  pub keeping_of_text : (files : files_trait.Ghosts X) (asked : ToCache) (result : Result (Unit {0}) Error) (before after : X) → CachesAsAsked files asked result old now before after → AreKeptOfText now.processes.mappings
  keeping_of_text files (KeepElf path) result before after called = subst AreKeptOfText (sym (ap (λ (whole : WholeState D R). whole.processes.mappings) called.rest)) all
  keeping_of_text files (KeepProcess process) (Ok done) before after called = may_of_text old now all _ called.keeps.untold
  keeping_of_text files (KeepProcess process) (Err e) before after called = subst AreKeptOfText (sym (ap (λ (p : KeptProcesses D R). p.mappings) called.keeps.err)) all

-- and so does forgetting
pub forgotten_of_text : {D R : Type 0} (asked : ToEvict) (whole : WholeState D R) → AreKeptOfText whole.processes.mappings → AreKeptOfText (evicting asked whole).processes.mappings
forgotten_of_text (ForgetElf path) whole all = all
forgotten_of_text (ForgetProcess pid) whole all = without_of_text pid whole.processes.mappings all
