-- At which side of a run a call failed.
use Rattle.std.proofs.Common.{◌≡◌, ◌⊎◌, ◌↔◌, ℕ, Option, Some, None, IsSome, refl, ap, inl, inr, arith}
use Rattle.std.proofs.lemmas.Bool.{false≢true}
use Rattle.bz_files.specs.Count.{CountsFaults, counted}
use Rattle.bz_files.specs.Looked.{Looked}
use Rattle.bz_files.specs.declared.files.Files as files_trait
use Rattle.bz_files.specs.declared.text.TextIn as input_trait
use Rattle.bz_files.specs.declared.text.TextOut as output_trait
use Rattle.bz_symq.specs.Run.{Side, AtInput, AtFiles, AtOutput, Fails}
use Rattle.bz_symq.specs.Turns.{FailsAtOne}
use Rattle.bz_symq.specs.declared.status.Status.{Status}
use Rattle.bz_symq.specs.declared.status.Status.TheVariants as statuses

-- the side at which a run that ended so has failed, where it can only be this one
abbrev pub failed_at : Side → Status → Option Side
failed_at side statuses.Fault = Some side
failed_at side _ = None

-- it is named exactly where the run ended by a fault
pub fault_iff : (side : Side) (ended : Status) → (ended ≡ statuses.Fault) ↔ IsSome (failed_at side ended)
fault_iff side statuses.Fault = (λ _. refl, λ _. refl)
fault_iff side _ = (λ is. cc, λ some. absurd (false≢true some))

fault_at : (side other : Side) (ended : Status) → failed_at side ended ≡ Some other → (ended ≡ statuses.Fault) × (side ≡ other)
fault_at side other statuses.Fault is = (refl, cc)
fault_at side other _ is = cc

-- and where it can only be this one, it is no other
pub nowhere_else : (side other : Side) (ended : Status) → (side ≡ other → ⊥) → failed_at side ended ≡ Some other → ⊥
nowhere_else side other ended apart at = apart (fault_at side other ended at).1

-- what counts faults where one thing holds counts them where the same holds in other words
pub counts_as : {A B : Type 0} (before after : ℕ) → (A → B) → (B → A) → CountsFaults before after A → CountsFaults before after B
counts_as {A} {B} before after to from counts = record { grows = counts.grows; fault = λ is. counts.fault (from is); steady = by_steady counts.steady }
  where
    by_steady : A ⊎ (after ≡ before) → B ⊎ (after ≡ before)
    by_steady (inl is) = inl (to is)
    by_steady (inr same) = inr same

pub fails_as : {R F A B : Type 0} (reads : input_trait.Ghosts R) (looks : files_trait.Ghosts F) {input_before input_after : R} {files_before files_after : F} → (A → B) → (B → A) →
    FailsAtOne reads looks A input_before input_after files_before files_after → FailsAtOne reads looks B input_before input_after files_before files_after
fails_as reads looks to from (inl (unlooked, counts)) = inl (unlooked, counts_as _ _ to from counts)
fails_as reads looks to from (inr (steady, looked)) = inr (steady, record { worlds = looked.worlds; pid = looked.pid; faults = counts_as _ _ to from looked.faults })

-- a count that stands still counts what never failed
pub counts_still : (before after : ℕ) (failed : Type 0) → (failed → ⊥) → after ≡ before → CountsFaults before after failed
counts_still before after failed never same = record { grows = omega (arith, same); fault = λ is. absurd (never is); steady = inr same }

-- where no call failed, a count stands still
pub no_fault : (before after : ℕ) (failed : Type 0) → (failed → ⊥) → CountsFaults before after failed → after ≡ before
no_fault before after failed never counts = by_steady counts.steady
  where
    by_steady : failed ⊎ (after ≡ before) → after ≡ before
    by_steady (inl is) = absurd (never is)
    by_steady (inr same) = same

-- the counts at the side that failed, and at the others
pub counts_here : (side : Side) (ended : Status) (before after : ℕ) → CountsFaults before after (ended ≡ statuses.Fault) → CountsFaults before after (failed_at side ended ≡ Some side)
counts_here side ended before after counts = counts_as before after (λ is. ap (failed_at side) is) (λ at. (fault_at side side ended at).0) counts

pub counts_there : (side other : Side) (ended : Status) (before after : ℕ) → (side ≡ other → ⊥) → after ≡ before → CountsFaults before after (failed_at side ended ≡ Some other)
counts_there side other ended before after apart same = counts_still before after _ (nowhere_else side other ended apart) same

module _ {R W F : Type 0} (reads : input_trait.Ghosts R) (writes : output_trait.Ghosts W) (looks : files_trait.Ghosts F) (ended : Status)
    (input_before input_after : R) (output_before output_after : W) (files_before files_after : F) where
  -- a run without a reply failed at the input or at the files
  pub fails_before : FailsAtOne reads looks (ended ≡ statuses.Fault) input_before input_after files_before files_after → output_after ≡ output_before →
      Fails reads writes looks ended input_before input_after output_before output_after files_before files_after
  fails_before (inl (unlooked, counts)) unwritten = record {
    failed = failed_at AtInput ended;
    fault = fault_iff AtInput ended;
    input_faults = counts_here AtInput ended _ _ counts;
    output_faults = counts_there AtInput AtOutput ended _ _ (λ same. cc) (ap writes.faults unwritten);
    files = record { worlds = ap looks.worlds unlooked; pid = ap looks.pid unlooked; faults = counts_there AtInput AtFiles ended _ _ (λ same. cc) (ap looks.faults unlooked) };
    unreached = λ _. (unlooked, unwritten);
    untouched = λ _. unwritten;
  }
  fails_before (inr (steady, looked)) unwritten = record {
    failed = failed_at AtFiles ended;
    fault = fault_iff AtFiles ended;
    input_faults = counts_there AtFiles AtInput ended _ _ (λ same. cc) steady;
    output_faults = counts_there AtFiles AtOutput ended _ _ (λ same. cc) (ap writes.faults unwritten);
    files = record { worlds = looked.worlds; pid = looked.pid; faults = counts_here AtFiles ended _ _ looked.faults };
    unreached = λ at. absurd (nowhere_else AtFiles AtInput ended (λ same. cc) at);
    untouched = λ _. unwritten;
  }

  -- a run with a reply failed at the output alone
  pub fails_after : (failed : Type 0) → (failed → ⊥) → FailsAtOne reads looks failed input_before input_after files_before files_after →
      CountsFaults (writes.faults output_before) (writes.faults output_after) (ended ≡ statuses.Fault) →
      Fails reads writes looks ended input_before input_after output_before output_after files_before files_after
  fails_after failed never counts wrote = record {
    failed = failed_at AtOutput ended;
    fault = fault_iff AtOutput ended;
    input_faults = counts_there AtOutput AtInput ended _ _ (λ same. cc) (read counts);
    output_faults = counts_here AtOutput ended _ _ wrote;
    files = looked counts;
    unreached = λ at. absurd (nowhere_else AtOutput AtInput ended (λ same. cc) at);
    untouched = λ at. absurd (nowhere_else AtOutput AtFiles ended apart at);
  }
    where
      apart : AtOutput ≡ AtFiles → ⊥
      apart same = cc

      read : FailsAtOne reads looks failed input_before input_after files_before files_after → reads.faults input_after ≡ reads.faults input_before
      read (inl (unlooked, counts)) = no_fault _ _ failed never counts
      read (inr (steady, looked)) = steady

      looked : FailsAtOne reads looks failed input_before input_after files_before files_after → Looked looks files_before files_after (failed_at AtOutput ended ≡ Some AtFiles)
      looked (inl (unlooked, counts)) = record { worlds = ap looks.worlds unlooked; pid = ap looks.pid unlooked; faults = counts_there AtOutput AtFiles ended _ _ apart (ap looks.faults unlooked) }
      looked (inr (steady, only)) = record { worlds = only.worlds; pid = only.pid; faults = counts_there AtOutput AtFiles ended _ _ apart (no_fault _ _ failed never only.faults) }

module _ {R W F : Type 0} (reads : input_trait.Ghosts R) (writes : output_trait.Ghosts W) (looks : files_trait.Ghosts F) (status : Status)
    (input_before input_after : R) (output_before output_after : W) (files_before files_after : F)
    (fails : Fails reads writes looks status input_before input_after output_before output_after files_before files_after) where
  -- a fault comes only where one call failed
  pub fault_from_fails : status ≡ statuses.Fault → (reads.faults input_after ≡ counted (reads.faults input_before))
      ⊎ ((writes.faults output_after ≡ counted (writes.faults output_before)) ⊎ (looks.faults files_after ≡ counted (looks.faults files_before)))
  fault_from_fails fault = by_side fails.failed refl (fails.fault.0 fault)
    where
      by_side : (failed : Option Side) → fails.failed ≡ failed → IsSome failed → (reads.faults input_after ≡ counted (reads.faults input_before))
          ⊎ ((writes.faults output_after ≡ counted (writes.faults output_before)) ⊎ (looks.faults files_after ≡ counted (looks.faults files_before)))
      by_side None is some = absurd (false≢true some)
      by_side (Some AtInput) is some = inl (fails.input_faults.fault is)
      by_side (Some AtOutput) is some = inr (inl (fails.output_faults.fault is))
      by_side (Some AtFiles) is some = inr (inr (fails.files.faults.fault is))

  still : (e : Side) (before after : ℕ) → fails.failed ≡ None → (fails.failed ≡ Some e) ⊎ (after ≡ before) → after ≡ before
  still e before after none (inl at) = cc
  still e before after none (inr same) = same

  -- at any other status no call failed
  pub steady_from_fails : (status ≡ statuses.Fault) ⊎ ((reads.faults input_after ≡ reads.faults input_before)
      × (writes.faults output_after ≡ writes.faults output_before) × (looks.faults files_after ≡ looks.faults files_before))
  steady_from_fails = by_side fails.failed refl
    where
      by_side : (failed : Option Side) → fails.failed ≡ failed → (status ≡ statuses.Fault) ⊎ ((reads.faults input_after ≡ reads.faults input_before)
          × (writes.faults output_after ≡ writes.faults output_before) × (looks.faults files_after ≡ looks.faults files_before))
      by_side None is = inr (still AtInput _ _ is fails.input_faults.steady, still AtOutput _ _ is fails.output_faults.steady, still AtFiles _ _ is fails.files.faults.steady)
      by_side (Some e) is = inl (fails.fault.1 (rw is refl))

  by_untouched : (fails.failed ≡ Some AtFiles) ⊎ (looks.faults files_after ≡ looks.faults files_before) → (looks.faults files_after ≡ looks.faults files_before) ⊎ (output_after ≡ output_before)
  by_untouched (inl at) = inr (fails.untouched at)
  by_untouched (inr same) = inl same

  -- files failed only before the output
  pub before_from_fails : (looks.faults files_after ≡ looks.faults files_before) ⊎ (output_after ≡ output_before)
  before_from_fails = by_untouched fails.files.faults.steady
