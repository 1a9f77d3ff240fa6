-- At which side of a run a call failed.
use Rattle.std.proofs.Common.{◌≡◌, ap}
use Rattle.bz_files.specs.Count.{CountsFaults}
use Rattle.bz_files.specs.declared.files.Files as files_trait
use Rattle.bz_files.specs.declared.text.TextIn as input_trait
use Rattle.bz_files.specs.declared.text.TextOut as output_trait
use Rattle.bz_symq.proofs.FaultLemmas.{counts_here, counts_there, failed_at, fault_iff, nowhere_else}
use Rattle.bz_symq.specs.Run.{AtInput, AtFiles, AtOutput}
use Rattle.bz_symq.specs.declared.status.Status.{Status}
use Rattle.bz_symq.specs.declared.status.Status.TheVariants as statuses
use Rattle.bz_serve.specs.Sides.{FailsAtOneSide}

module _ {R W F : Type 0} (reads : input_trait.Ghosts R) (writes : output_trait.Ghosts W) (looks : files_trait.Ghosts F) (ended : Status)
    (input_before input_after : R) (output_before output_after : W) (files_before files_after : F) where
  -- a run that can have failed at its input alone
  pub fails_at_input : CountsFaults (reads.faults input_before) (reads.faults input_after) (ended ≡ statuses.Fault) → output_after ≡ output_before →
      files_after ≡ files_before → FailsAtOneSide reads writes looks ended input_before input_after output_before output_after files_before files_after
  fails_at_input counts unwritten unlooked = record {
    failed = failed_at AtInput ended;
    fault = fault_iff AtInput ended;
    input_faults = counts_here AtInput ended _ _ counts;
    output_faults = counts_there AtInput AtOutput ended _ _ (λ same. cc) (ap writes.faults unwritten);
    files_faults = counts_there AtInput AtFiles ended _ _ (λ same. cc) (ap looks.faults unlooked);
    unreached = λ _. (unlooked, unwritten);
  }

  -- at its output alone
  pub fails_at_output : reads.faults input_after ≡ reads.faults input_before → CountsFaults (writes.faults output_before) (writes.faults output_after) (ended ≡ statuses.Fault) →
      looks.faults files_after ≡ looks.faults files_before → FailsAtOneSide reads writes looks ended input_before input_after output_before output_after files_before files_after
  fails_at_output read counts looked = record {
    failed = failed_at AtOutput ended;
    fault = fault_iff AtOutput ended;
    input_faults = counts_there AtOutput AtInput ended _ _ (λ same. cc) read;
    output_faults = counts_here AtOutput ended _ _ counts;
    files_faults = counts_there AtOutput AtFiles ended _ _ (λ same. cc) looked;
    unreached = λ at. absurd (nowhere_else AtOutput AtInput ended (λ same. cc) at);
  }

  -- at the files alone
  pub fails_at_files : reads.faults input_after ≡ reads.faults input_before → writes.faults output_after ≡ writes.faults output_before →
      CountsFaults (looks.faults files_before) (looks.faults files_after) (ended ≡ statuses.Fault) → FailsAtOneSide reads writes looks ended input_before input_after output_before output_after files_before files_after
  fails_at_files read written counts = record {
    failed = failed_at AtFiles ended;
    fault = fault_iff AtFiles ended;
    input_faults = counts_there AtFiles AtInput ended _ _ (λ same. cc) read;
    output_faults = counts_there AtFiles AtOutput ended _ _ (λ same. cc) written;
    files_faults = counts_here AtFiles ended _ _ counts;
    unreached = λ at. absurd (nowhere_else AtFiles AtInput ended (λ same. cc) at);
  }
