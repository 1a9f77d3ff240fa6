-- One request: from what is said to what is written.
use Rattle.std.proofs.Common.{◌≡◌, List, [], ◌++◌, ℕ, Some, Result, Ok, Err, refl, sym, ap, subst, ◌∙◌, append-nil}
use Rattle.bz_base.specs.declared.error.Error.{Error}
use Rattle.bz_base.specs.declared.error.Error.TheVariants as errors
use Rattle.bz_files.specs.Looked.{Faulted}
use Rattle.bz_files.specs.World.{World}
use Rattle.bz_files.specs.declared.files.Files as files_trait
use Rattle.bz_files.specs.declared.text.IoFault.{IoFault}
use Rattle.bz_files.specs.declared.text.IoFault.TheVariants as faults
use Rattle.bz_files.specs.declared.text.TextOut as output_trait
use Rattle.bz_symq.specs.Reply.{text_of}
use Rattle.bz_symq.specs.Run.{WritesFront}
use Rattle.bz_symq.specs.Writing.{WritesText}
use Rattle.bz_symq.specs.declared.reply.Said.{Said}
use Rattle.bz_symq.proofs.FaultLemmas.{counts_as, counts_still}
use Rattle.bz_symq.specs.Kept.{KeptState}
use Rattle.bz_serve.specs.Serving.{Replied, Served, StopsAs, stop_by}
use Rattle.bz_serve.specs.RequestSteps.{RequestOutcome}
use Rattle.bz_serve.specs.declared.serving.Stop.{Stop}
use Rattle.bz_serve.specs.declared.serving.Stop.TheVariants as stops
use Rattle.bz_serve.proofs.RequestReplyLemmas.{looked_as}

module _ {W F : Type 0} (writes : output_trait.Ghosts W) (looks : files_trait.Ghosts F) (step : KeptState → World → RequestOutcome) (MaySay : List ℕ → Type 0) (old now : KeptState)
    (output_before output_after : W) (files_before files_after : F) where
  -- what is said is written, or a front of it
  pub served_said : (say : Said) (put : Result (Unit {0}) IoFault) (result : Result (Unit {0}) Stop) → Replied looks step (Ok say) old now files_before files_after → MaySay (text_of say) →
      WritesText writes (text_of say) put output_before output_after → StopsAs put result → Served writes looks step MaySay result old now output_before output_after files_before files_after
  served_said say (Ok given) result replied may wrote is = rw is (record {
    whole = λ world told was written. wrote.whole was written ∙ ap (λ text. Some (was ++ text)) (replied.said world told);
    front = λ world told was written. tt;
    untold = λ was written. (text_of say, may, wrote.whole was written);
    silent = λ world told nothing. wrote.silent (replied.said world told ∙ nothing);
    state = replied.state;
    reads = replied.reads;
    output_faults = counts_as _ _ (λ failed. cc) (λ never. absurd never) wrote.counts;
    looked = replied.looked;
  })
  served_said say (Err faults.Fault) result replied may wrote is = rw is (record {
    whole = λ world told was written. tt;
    front = λ world told was written. subst (λ text. WritesFront text was (writes.written output_after)) (replied.said world told) (wrote.front was written);
    untold = λ was written. tt;
    silent = λ world told nothing. wrote.silent (replied.said world told ∙ nothing);
    state = λ world told. tt;
    reads = replied.reads;
    output_faults = counts_as _ _ (λ failed. refl) (λ failed. refl) wrote.counts;
    looked = looked_as looks files_before files_after (λ never. absurd never) (λ other. cc) replied.looked;
  })
  served_said say (Err faults.OutOfMemory) result replied may wrote is = rw is (record {
    whole = λ world told was written. tt;
    front = λ world told was written. subst (λ text. WritesFront text was (writes.written output_after)) (replied.said world told) (wrote.front was written);
    untold = λ was written. tt;
    silent = λ world told nothing. wrote.silent (replied.said world told ∙ nothing);
    state = λ world told. tt;
    reads = replied.reads;
    output_faults = counts_as _ _ (λ failed. cc) (λ failed. cc) wrote.counts;
    looked = looked_as looks files_before files_after (λ never. absurd never) (λ other. cc) replied.looked;
  })

module _ {W F : Type 0} (writes : output_trait.Ghosts W) (looks : files_trait.Ghosts F) (step : KeptState → World → RequestOutcome) (MaySay : List ℕ → Type 0) (old now : KeptState) (output : W) (files_before files_after : F) where
  front_of_none : (text was : List ℕ) → writes.written output ≡ Some was → WritesFront text was (writes.written output)
  front_of_none text was written = ([], text, refl, written ∙ ap Some (sym (append-nil was)))

  -- where nothing is said, nothing is written, and what failed stops it
  failed_by : (error : Error) (stop : Stop) → (stop ≡ stops.Output → ⊥) → (Faulted {A = Said} (Err error) → stop ≡ stops.Files) → (stop ≡ stops.Files → Faulted {A = Said} (Err error)) →
      Replied looks step (Err error) old now files_before files_after → Served writes looks step MaySay (Err stop) old now output output files_before files_after
  failed_by error stop unput to from replied = record {
    whole = λ world told was written. tt;
    front = λ world told was written. front_of_none _ was written;
    untold = λ was written. tt;
    silent = λ world told nothing. refl;
    state = λ world told. tt;
    reads = replied.reads;
    output_faults = counts_still _ _ _ unput refl;
    looked = looked_as looks files_before files_after to from replied.looked;
  }

  pub served_failed : (error : Error) → Replied looks step (Err error) old now files_before files_after → Served writes looks step MaySay (Err (stop_by error)) old now output output files_before files_after
  served_failed errors.ReadFault replied = failed_by errors.ReadFault stops.Files (λ other. cc) (λ failed. refl) (λ failed. refl) replied
  served_failed errors.OutOfMemory replied = failed_by errors.OutOfMemory stops.Memory (λ other. cc) (λ failed. cc) (λ other. cc) replied
  served_failed _ replied = absurd replied.failure
