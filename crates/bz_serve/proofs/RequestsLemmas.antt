-- A run over an input of requests, from what was read of the input.
use Rattle.std.proofs.Common.{Global, Vec, ◌≡◌, ◌⊎◌, ◌↔◌, ◌+◌, ◌≤◌, ℕ, List, [], ◌∷◌, option_map, Ok, Err, IfOk, map, refl, sym, subst, ◌∙◌, inl, inr, arith}
use Rattle.std.proofs.lemmas.Bool.{false≢true}
use Rattle.bz_base.specs.declared.error.Error.{Error}
use Rattle.bz_base.specs.declared.error.Error.TheVariants as errors
use Rattle.bz_files.specs.Count.{CountsFaults}
use Rattle.bz_files.specs.declared.files.Files as files_trait
use Rattle.bz_files.specs.declared.text.TextIn as input_trait
use Rattle.bz_files.specs.declared.text.TextOut as output_trait
use Rattle.bz_requests.specs.Requests.{IsRequest, Request, request_of}
use Rattle.bz_requests.specs.declared.requests.Config.{Config}
use Rattle.bz_requests.specs.declared.requests.Request as made
use Rattle.bz_serve.specs.RequestRuns.{worlds_after}
use Rattle.bz_serve.specs.Serving.{Serves}
use Rattle.bz_symq.proofs.EndLemmas.{IsFailure, done_no_failure, failed_ends, input_no_failure, never}
use Rattle.bz_symq.proofs.FaultLemmas.{counts_as, no_fault}
use Rattle.bz_requests.specs.InputText.{IsBadInput}
use Rattle.bz_symq.specs.Reply.{outcome_of, text_of}
use Rattle.bz_symq.specs.Run.{Ends, IsNoFailure, IsOrFails}
use Rattle.bz_symq.specs.Writing.{Finishes}
use Rattle.bz_symq.specs.declared.reply.Reply.{Reply}
use Rattle.bz_symq.specs.declared.status.Status.{Status}
use Rattle.bz_symq.specs.declared.status.Status.TheVariants as statuses
use Rattle.bz_serve.specs.Asked.{asked_in, outcome_by, reads_by}
use Rattle.bz_serve.specs.Requests.{ReadsRequests, RunsRequests}
use Rattle.bz_serve.specs.Sides.{FailsAtOneSide}
use Rattle.bz_serve.specs.declared.input.Asked.TheVariants as askeds
use Rattle.bz_serve.proofs.AskedLemmas.{asked_found, bad_again, bad_found, bad_named}
use Rattle.bz_serve.proofs.SideLemmas.{fails_at_files, fails_at_input, fails_at_output}

-- a status that isn't expected, and is no failure, doesn't come
other_status : (expected other ended : Status) → (expected ≡ other → ⊥) → IsNoFailure other → IsOrFails expected ended → ended ≡ other → ⊥
other_status expected other ended apart no_failure (inl same) is = apart (sym same ∙ is)
other_status expected other ended apart no_failure (inr (inl fault)) is = no_failure.0 (sym is ∙ fault)
other_status expected other ended apart no_failure (inr (inr memory)) is = no_failure.1 (sym is ∙ memory)

-- an input of which requests are read isn't bad
never_bad : (text : List ℕ) (requests : List Request) → asked_in text ≡ Ok requests → IsBadInput IsRequest text → ⊥
never_bad text requests is bad = absurd (false≢true (rw is at (bad_again text bad)))

module _ {R W F : Type 0} (reads : input_trait.Ghosts R) (writes : output_trait.Ghosts W) (looks : files_trait.Ghosts F) (config : Config) (ended : Status)
    (input_before input_after : R) (output_before output_after : W) (files_before files_after : F) where
  -- the requests were served
  pub requests_served : (requests : Vec made.Request Global) → ReadsRequests reads (Ok (askeds.Requests requests)) input_before input_after →
      Serves writes looks config (map request_of requests.items) ended output_before output_after files_before files_after →
      RunsRequests reads writes looks config ended input_before input_after output_before output_after files_before files_after
  requests_served requests given serves = record {
    ends = λ text left world later told old written.
        subst (λ asked. Ends (outcome_by config (world ∷ later) (looks.pid files_before) asked) old ended (writes.written output_after)) (given.asked text left) (serves.ends world later told old written);
    done = λ done text left world later told old written. record {
      requests = map request_of requests.items;
      asks = asked_found text _ (sym (given.asked text left));
      written = (rw done at (serves.ends world later told old written)).1;
    };
    answered = λ done text left old written. record {
      requests = map request_of requests.items;
      asks = asked_found text _ (sym (given.asked text left));
      written = serves.answered done old written;
    };
    input = λ text left. (
      λ is. absurd (other_status statuses.Done statuses.Input ended (λ same. cc) input_no_failure serves.status is),
      λ bad. absurd (never_bad text _ (sym (given.asked text left)) bad),
    );
    named = λ is. absurd (other_status statuses.Done statuses.Input ended (λ same. cc) input_no_failure serves.status is);
    status = inr serves.status;
    unlooked = λ text left bad. absurd (never_bad text _ (sym (given.asked text left)) bad);
    read = λ _. given.read;
    bounded = given.bounded;
    order = inr given.read;
    silent = λ text left world later told. subst (λ asked. (outcome_by config (world ∷ later) (looks.pid files_before) asked).text ≡ [] → output_after ≡ output_before) (given.asked text left) (serves.silent world later told);
    opens = λ text left world later told.
        subst (λ asked. looks.opens files_after ≤ looks.opens files_before + reads_by config (world ∷ later) (looks.pid files_before) asked) (given.asked text left) (serves.reads world later told);
    turned = λ done text left. subst (λ asked. IfOk asked (λ requests. looks.worlds files_after ≡ option_map (worlds_after requests) (looks.worlds files_before))) (given.asked text left) (serves.turned done);
    fails = by_side serves.fails;
    pid = serves.pid;
  }
    where
      steady : reads.faults input_after ≡ reads.faults input_before
      steady = no_fault _ _ _ (λ never. never) given.counts

      by_side : (CountsFaults (writes.faults output_before) (writes.faults output_after) (ended ≡ statuses.Fault) × (looks.faults files_after ≡ looks.faults files_before))
          ⊎ (CountsFaults (looks.faults files_before) (looks.faults files_after) (ended ≡ statuses.Fault) × (writes.faults output_after ≡ writes.faults output_before)) →
          FailsAtOneSide reads writes looks ended input_before input_after output_before output_after files_before files_after
      by_side (inl (counts, same)) = fails_at_output reads writes looks ended _ _ _ _ _ _ steady counts same
      by_side (inr (counts, same)) = fails_at_files reads writes looks ended _ _ _ _ _ _ steady same counts

module _ {R W F : Type 0} (reads : input_trait.Ghosts R) (writes : output_trait.Ghosts W) (looks : files_trait.Ghosts F) (config : Config) (ended : Status)
    (input_before input_after : R) (output_before output_after : W) (files : F) where
  -- the input is bad, and that was written
  pub requests_bad : (reply : Reply) → ReadsRequests reads (Ok (askeds.Bad reply)) input_before input_after → Finishes writes (outcome_of reply) ended output_before output_after →
      RunsRequests reads writes looks config ended input_before input_after output_before output_after files files
  requests_bad reply given finished = record {
    ends = λ text left world later told old written.
        subst (λ asked. Ends (outcome_by config (world ∷ later) (looks.pid files) asked) old ended (writes.written output_after)) (given.asked text left) (finished.ends old written);
    done = λ done. absurd (other_status statuses.Input statuses.Done ended (λ same. cc) done_no_failure status done);
    answered = λ done. absurd (other_status statuses.Input statuses.Done ended (λ same. cc) done_no_failure status done);
    input = λ text left. (λ is. bad_found text _ (sym (given.asked text left)), λ bad. status);
    named = λ is text left old written. (text_of reply.said, bad_named text _ (sym (given.asked text left)), (rw is at (finished.ends old written)).1);
    status = by_status status;
    unlooked = λ text left bad. refl;
    read = λ _. given.read;
    bounded = given.bounded;
    order = inr given.read;
    silent = λ text left world later told. subst (λ asked. (outcome_by config (world ∷ later) (looks.pid files) asked).text ≡ [] → output_after ≡ output_before) (given.asked text left) finished.silent;
    opens = λ text left world later told.
        subst (λ asked. looks.opens files ≤ looks.opens files + reads_by config (world ∷ later) (looks.pid files) asked) (given.asked text left) (omega arith);
    turned = λ done. absurd (other_status statuses.Input statuses.Done ended (λ same. cc) done_no_failure status done);
    fails = fails_at_output reads writes looks ended _ _ _ _ _ _ (no_fault _ _ _ (λ never. never) given.counts) finished.counts refl;
    pid = refl;
  }
    where
      status : IsOrFails statuses.Input ended
      status = rw given.status at finished.status

      by_status : IsOrFails statuses.Input ended → (ended ≡ statuses.Input) ⊎ IsOrFails statuses.Done ended
      by_status (inl is) = inl is
      by_status (inr failed) = inr (inr failed)

module _ {R W F : Type 0} (reads : input_trait.Ghosts R) (writes : output_trait.Ghosts W) (looks : files_trait.Ghosts F) (config : Config) (ended : Status)
    (input_before input_after : R) (output : W) (files : F) where
  -- the input wasn't read to its end
  pub requests_unread : (error : Error) → ReadsRequests reads (Err error) input_before input_after → IsFailure ended → (error ≡ errors.ReadFault) ↔ (ended ≡ statuses.Fault) →
      RunsRequests reads writes looks config ended input_before input_after output output files files
  requests_unread error given failed same_fault = record {
    ends = λ text left world later told old written. failed_ends _ old ended _ failed written;
    done = λ done. absurd (never ended statuses.Done done_no_failure failed done);
    answered = λ done. absurd (never ended statuses.Done done_no_failure failed done);
    input = λ text left. (λ is. absurd (never ended statuses.Input input_no_failure failed is), λ bad. inr failed);
    named = λ is. absurd (never ended statuses.Input input_no_failure failed is);
    status = inr (inr failed);
    unlooked = λ text left bad. refl;
    read = λ no_failure. absurd (never ended ended no_failure failed refl);
    bounded = given.bounded;
    order = inl (refl, refl);
    silent = λ text left world later told nothing. refl;
    opens = λ text left world later told. omega arith;
    turned = λ done. absurd (never ended statuses.Done done_no_failure failed done);
    fails = fails_at_input reads writes looks ended _ _ _ _ _ _ (counts_as _ _ same_fault.0 same_fault.1 given.counts) refl refl;
    pid = refl;
  }
