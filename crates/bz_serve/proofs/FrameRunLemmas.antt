-- A run over an input of frames, from what its reply came to, and how the run ended.
use Rattle.std.proofs.Common.{◌≡◌, ◌⊎◌, ◌↔◌, ℕ, List, ◌++◌, Some, Ok, Err, refl, ap, subst, ◌∙◌, inl, inr}
use Rattle.bz_base.specs.declared.error.Error.{Error}
use Rattle.bz_base.specs.declared.types.FindSymOpts.{FindSymOpts}
use Rattle.bz_files.specs.Looked.{Faulted}
use Rattle.bz_files.specs.World.{Told, in_view}
use Rattle.bz_files.specs.declared.files.Files as files_trait
use Rattle.bz_files.specs.declared.text.TextIn as input_trait
use Rattle.bz_files.specs.declared.text.TextOut as output_trait
use Rattle.bz_store.specs.Frames.{Frame}
use Rattle.bz_symq.proofs.EndLemmas.{IsFailure, done_no_failure, failed_ends, input_no_failure, never, order_unwritten, status_from}
use Rattle.bz_symq.proofs.FaultLemmas.{fails_after, fails_as, fails_before, fault_from_fails, steady_from_fails}
use Rattle.bz_requests.proofs.InputTextLemmas.{never_bad}
use Rattle.bz_requests.specs.InputText.{AsksFor}
use Rattle.bz_symq.specs.Outcome.{Outcome, NamesBad}
use Rattle.bz_symq.specs.Reply.{outcome_of, text_of}
use Rattle.bz_symq.specs.Run.{Ends, Fails, IsBadNamed, IsNoFailure, IsOrFails}
use Rattle.bz_symq.specs.Writing.{Finishes}
use Rattle.bz_symq.specs.declared.reply.Reply.{Reply}
use Rattle.bz_symq.specs.declared.status.Status.{Status}
use Rattle.bz_symq.specs.declared.status.Status.TheVariants as statuses
use Rattle.bz_serve.proofs.FrameLemmas.{frame_agrees}
use Rattle.bz_serve.proofs.FrameInputLemmas.{answered_from_ends}
use Rattle.bz_serve.specs.FrameLines.{IsFrame, frame_in}
use Rattle.bz_serve.specs.FrameRun.{AreSomeAnswered, RunsFrames, frames_outcome}
use Rattle.bz_serve.specs.FrameTurns.{IsRunReply, RepliesToInput}

module _ {R W F : Type 0} (reads : input_trait.Ghosts R) (writes : output_trait.Ghosts W) (looks : files_trait.Ghosts F) (root : List ℕ) (opts : FindSymOpts) (ended : Status)
    (input_before input_after : R) (output_before output_after : W) (files_before files_after : F) where
  -- a reply was given, and its writing ended the run
  pub runs_with_reply : (reply : Reply) → RepliesToInput reads looks root opts (Ok reply) input_before input_after files_before files_after →
      Finishes writes (outcome_of reply) ended output_before output_after → RunsFrames reads writes looks root opts ended input_before input_after output_before output_after files_before files_after
  runs_with_reply reply given finished = record {
    ends = ends;
    status = by_status given.status;
    done = λ done text left world told old written. answered_from_ends world root opts text old _ (rw done at (ends text left world told old written));
    answered = λ done text left old written. answered_from text old (rw done at (finished.ends old written)) (given.answered text left (by_reply statuses.Done done_no_failure done));
    input = λ text left. (
      λ is. (given.input text left).0 (by_reply statuses.Input input_no_failure is),
      λ bad. rw ((given.input text left).1 bad) at finished.status,
    );
    named = λ is text left old written. named_from text old (rw is at (finished.ends old written)) (given.named text left (by_reply statuses.Input input_no_failure is));
    complete = λ text left frames asks. by_frames text left frames asks given.status;
    opens = λ done text left world told. given.opens text left world told (by_reply statuses.Done done_no_failure done);
    most = given.most;
    unlooked = given.unlooked;
    read = λ _. given.read;
    bounded = given.bounded;
    order = inr given.read;
    silent = λ text left world told nothing. finished.silent (ap (λ (o : Outcome). o.text) (given.reply text left world told) ∙ nothing);
    fails = fails;
    fault = fault_from_fails _ _ _ _ _ _ _ _ _ _ fails;
    steady = steady_from_fails _ _ _ _ _ _ _ _ _ _ fails;
  }
    where
      by_reply : (status : Status) → IsNoFailure status → ended ≡ status → reply.status ≡ status
      by_reply status no_failure is = status_from reply.status ended status no_failure finished.status is

      ends : Told (reads.left input_before) (λ text. Told (in_view (looks.worlds files_before)) (λ world. Told (writes.written output_before) (λ old.
          Ends (frames_outcome world root opts text) old ended (writes.written output_after))))
      ends text left world told old written = subst (λ expected. Ends expected old ended (writes.written output_after)) (given.reply text left world told) (finished.ends old written)

      by_input : IsOrFails statuses.Input ended → (ended ≡ statuses.Input) ⊎ IsOrFails statuses.Done ended
      by_input (inl is) = inl is
      by_input (inr failed) = inr (inr failed)

      by_status : (reply.status ≡ statuses.Input) ⊎ (reply.status ≡ statuses.Done) → (ended ≡ statuses.Input) ⊎ IsOrFails statuses.Done ended
      by_status (inl input) = by_input (rw input at finished.status)
      by_status (inr done) = inr (rw done at finished.status)

      by_frames : (text : List ℕ) → reads.left input_before ≡ Some text → (frames : List Frame) → AsksFor IsFrame text frames → (reply.status ≡ statuses.Input) ⊎ (reply.status ≡ statuses.Done) → IsOrFails statuses.Done ended
      by_frames text left frames asks (inl input) = absurd (never_bad frame_in IsFrame frame_agrees text frames asks ((given.input text left).0 input))
      by_frames text left frames asks (inr done) = rw done at finished.status

      answered_from : (text old : List ℕ) → Ends (outcome_of reply) old statuses.Done (writes.written output_after) →
          IsRunReply root opts text (text_of reply.said) (looks.opens files_before) (looks.opens files_after) →
          AreSomeAnswered root opts text old (writes.written output_after) (looks.opens files_before) (looks.opens files_after)
      answered_from text old ended is = record {
        frames = is.frames;
        readings = is.readings;
        asks = is.asks;
        readings_are = is.readings_are;
        written = ended.1 ∙ ap (λ said. Some (old ++ said)) is.said_is;
      }

      named_from : (text old : List ℕ) → Ends (outcome_of reply) old statuses.Input (writes.written output_after) → NamesBad IsFrame text (text_of reply.said) →
          IsBadNamed IsFrame text old (writes.written output_after)
      named_from text old ended is = (text_of reply.said, is, ended.1)

      fails : Fails reads writes looks ended input_before input_after output_before output_after files_before files_after
      fails = fails_after reads writes looks ended _ _ _ _ _ _ (Faulted (Ok reply)) (λ fault. fault) given.fails finished.counts

  -- no reply was given, and nothing was written
  pub runs_without_reply : (e : Error) → IsFailure ended → (Faulted {A = Reply} (Err e) ↔ (ended ≡ statuses.Fault)) → RepliesToInput reads looks root opts (Err e) input_before input_after files_before files_after →
      output_after ≡ output_before → RunsFrames reads writes looks root opts ended input_before input_after output_before output_after files_before files_after
  runs_without_reply e failed same_fault given unwritten = record {
    ends = λ text left world told old written. failed_ends _ old ended _ failed (ap writes.written unwritten ∙ written);
    status = inr (inr failed);
    done = λ done. absurd (never ended statuses.Done done_no_failure failed done);
    answered = λ done. absurd (never ended statuses.Done done_no_failure failed done);
    input = λ text left. (λ is. absurd (never ended statuses.Input input_no_failure failed is), λ bad. inr failed);
    named = λ is. absurd (never ended statuses.Input input_no_failure failed is);
    complete = λ text left frames asks. inr failed;
    opens = λ done. absurd (never ended statuses.Done done_no_failure failed done);
    most = given.most;
    unlooked = given.unlooked;
    read = λ no_failure. absurd (never ended ended no_failure failed refl);
    bounded = given.bounded;
    order = order_unwritten unwritten given.order;
    silent = λ text left world told nothing. unwritten;
    fails = fails;
    fault = fault_from_fails _ _ _ _ _ _ _ _ _ _ fails;
    steady = steady_from_fails _ _ _ _ _ _ _ _ _ _ fails;
  }
    where
      fails : Fails reads writes looks ended input_before input_after output_before output_after files_before files_after
      fails = fails_before reads writes looks ended _ _ _ _ _ _ (fails_as reads looks same_fault.0 same_fault.1 given.fails) unwritten
