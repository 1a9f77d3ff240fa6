-- What a run promises, from what its reply is, what the reply came to, and how the run ended.
use Rattle.std.proofs.Common.{◌≡◌, ◌↔◌, ℕ, List, ◌++◌, Some, Ok, Err, refl, ap, subst, ◌∙◌, inr}
use Rattle.bz_base.specs.declared.error.Error.{Error}
use Rattle.bz_files.specs.Looked.{Faulted}
use Rattle.bz_files.specs.World.{Told, in_view}
use Rattle.bz_files.specs.declared.files.Files as files_trait
use Rattle.bz_files.specs.declared.text.TextIn as input_trait
use Rattle.bz_files.specs.declared.text.TextOut as output_trait
use Rattle.bz_requests.specs.declared.requests.Config.{Config}
use Rattle.bz_symq.specs.Outcome.{Outcome}
use Rattle.bz_symq.specs.Reply.{IsDoneReply, outcome_of, text_of}
use Rattle.bz_symq.specs.Run.{Ends, Fails, IsNoFailure, IsOrFails}
use Rattle.bz_symq.specs.Turns.{FailsAtOne, ReadsOneFor}
use Rattle.bz_symq.specs.Writing.{Finishes}
use Rattle.bz_symq.specs.declared.reply.Reply.{Reply}
use Rattle.bz_symq.specs.declared.status.Status.{Status}
use Rattle.bz_symq.specs.declared.status.Status.TheVariants as statuses
use Rattle.bz_symq.proofs.EndLemmas.{IsFailure, done_no_failure, failed_ends, input_no_failure, never, order_unwritten, refused_no_failure, status_from, usage_no_failure}
use Rattle.bz_symq.proofs.FaultLemmas.{before_from_fails, fails_after, fails_as, fails_before, fault_from_fails, steady_from_fails}
use Rattle.bz_run.specs.StackOutcome.{stacks_outcome}
use Rattle.bz_run.specs.StackReply.{RepliesToStacks, TakesTurns}
use Rattle.bz_run.specs.StackRun.{IsSomeFolded, IsSomeRefused, RunsStacks}
use Rattle.bz_run.proofs.StackOutcomeLemmas.{done_from_ends, foldable_is_done, refusable_is_refused, refused_from_ends}

module _ {R W F : Type 0} (reads : input_trait.Ghosts R) (writes : output_trait.Ghosts W) (looks : files_trait.Ghosts F) (path : List ℕ) (config : Config) (ended : Status)
    (input_before input_after : R) (output_before output_after : W) (files_before files_after : F) where
  -- a reply was given, and its writing ended the run
  pub runs_with_reply : (reply : Reply) → RepliesToStacks path config (reads.left input_before) (in_view (looks.worlds files_before)) (Ok reply) →
      TakesTurns reads (Ok reply) input_before input_after files_before files_after → ReadsOneFor looks (IsDoneReply (Ok reply)) files_before files_after →
      FailsAtOne reads looks (Faulted (Ok reply)) input_before input_after files_before files_after → Finishes writes (outcome_of reply) ended output_before output_after →
      RunsStacks reads writes looks path config ended input_before input_after output_before output_after files_before files_after
  runs_with_reply reply given turns opens counts finished = record {
    ends = ends;
    status = status;
    done = λ done text left world seen old written. done_from_ends path config text world old _ (rw done at (ends text left world seen old written));
    answered = answered;
    refused = λ refused text left world seen old written. refused_from_ends path config text world old _ (rw refused at (ends text left world seen old written));
    refusal = refusal;
    usage = λ usage. given.usage (by_reply statuses.Usage usage_no_failure usage);
    input = λ text left. (
      λ bad. (given.input text left).0 (by_reply statuses.Input input_no_failure bad),
      λ bad. rw ((given.input text left).1 bad) at finished.status,
    );
    named = λ is text left old written. (text_of reply.said, given.named text left (by_reply statuses.Input input_no_failure is), (rw is at (finished.ends old written)).1);
    complete = λ text left world seen is. rw (foldable_is_done path config text world is) at (status text left world seen);
    refuses = λ text left world seen is. rw (refusable_is_refused path config text world is) at (status text left world seen);
    unlooked = turns.unlooked;
    read = λ _. turns.read;
    bounded = turns.bounded;
    order = inr turns.read;
    silent = λ text left world seen nothing. finished.silent (ap (λ (o : Outcome). o.text) (given.reply text left world seen) ∙ nothing);
    most = opens.most;
    opened = λ world seen done. opens.opened world seen (by_reply statuses.Done done_no_failure done);
    fails = fails;
    fault = fault_from_fails _ _ _ _ _ _ _ _ _ _ fails;
    steady = steady_from_fails _ _ _ _ _ _ _ _ _ _ fails;
    before_output = before_from_fails _ _ _ _ _ _ _ _ _ _ fails;
  }
    where
      by_reply : (status : Status) → IsNoFailure status → ended ≡ status → reply.status ≡ status
      by_reply other no_failure is = status_from reply.status ended other no_failure finished.status is

      ends : Told (reads.left input_before) (λ text. Told (in_view (looks.worlds files_before)) (λ world. Told (writes.written output_before) (λ old.
          Ends (stacks_outcome path config text world) old ended (writes.written output_after))))
      ends text left world seen old written = subst (λ expected. Ends expected old ended (writes.written output_after)) (given.reply text left world seen) (finished.ends old written)

      status : Told (reads.left input_before) (λ text. Told (in_view (looks.worlds files_before)) (λ world. IsOrFails (stacks_outcome path config text world).status ended))
      status text left world seen = subst (λ (expected : Outcome). IsOrFails expected.status ended) (given.reply text left world seen) finished.status

      answered : ended ≡ statuses.Done → Told (reads.left input_before) (λ text. Told (writes.written output_before) (λ old. IsSomeFolded config text old (writes.written output_after)))
      answered done text left old written =
          let some = given.answered text left (by_reply statuses.Done done_no_failure done) in
          let wrote = (rw done at (finished.ends old written)).1 in
          record { stacks = some.0; answers = some.2.answers; bytes = some.2.bytes; asks = some.1; answers_are = some.2.answers_are; written = wrote ∙ ap (λ text. Some (old ++ text)) some.2.text_is }

      refusal : ended ≡ statuses.Refused → Told (reads.left input_before) (λ text. Told (writes.written output_before) (λ old. IsSomeRefused path text old (writes.written output_after)))
      refusal refused text left old written =
          let some = given.refusal text left (by_reply statuses.Refused refused_no_failure refused) in
          let wrote = (rw refused at (finished.ends old written)).1 in
          record { stacks = some.0; refusal = some.2.refusal; asks = some.1; cause = some.2.cause; written = wrote ∙ ap (λ text. Some (old ++ text)) some.2.text_is }

      fails : Fails reads writes looks ended input_before input_after output_before output_after files_before files_after
      fails = fails_after reads writes looks ended _ _ _ _ _ _ (Faulted (Ok reply)) (λ fault. fault) counts finished.counts

  -- no reply was given, and nothing was written
  pub runs_without_reply : (e : Error) → IsFailure ended → (Faulted {A = Reply} (Err e) ↔ (ended ≡ statuses.Fault)) → TakesTurns reads (Err e) input_before input_after files_before files_after →
      ReadsOneFor looks (IsDoneReply (Err e)) files_before files_after → FailsAtOne reads looks (Faulted {A = Reply} (Err e)) input_before input_after files_before files_after →
      output_after ≡ output_before →
      RunsStacks reads writes looks path config ended input_before input_after output_before output_after files_before files_after
  runs_without_reply e failed same_fault turns opens counts unwritten = record {
    ends = λ text left world seen old written. failed_ends _ old ended _ failed (ap writes.written unwritten ∙ written);
    status = λ text left world seen. inr failed;
    done = λ done. absurd (never ended statuses.Done done_no_failure failed done);
    answered = λ done. absurd (never ended statuses.Done done_no_failure failed done);
    refused = λ refused. absurd (never ended statuses.Refused refused_no_failure failed refused);
    refusal = λ refused. absurd (never ended statuses.Refused refused_no_failure failed refused);
    usage = λ usage. never ended statuses.Usage usage_no_failure failed usage;
    input = λ text left. (λ bad. absurd (never ended statuses.Input input_no_failure failed bad), λ bad. inr failed);
    named = λ is. absurd (never ended statuses.Input input_no_failure failed is);
    complete = λ text left world seen is. inr failed;
    refuses = λ text left world seen is. inr failed;
    unlooked = turns.unlooked;
    read = λ no_failure. absurd (never ended ended no_failure failed refl);
    bounded = turns.bounded;
    order = order_unwritten unwritten turns.order;
    silent = λ text left world seen nothing. unwritten;
    most = opens.most;
    opened = λ world seen done. absurd (never ended statuses.Done done_no_failure failed done);
    fails = fails;
    fault = fault_from_fails _ _ _ _ _ _ _ _ _ _ fails;
    steady = steady_from_fails _ _ _ _ _ _ _ _ _ _ fails;
    before_output = before_from_fails _ _ _ _ _ _ _ _ _ _ fails;
  }
    where
      fails : Fails reads writes looks ended input_before input_after output_before output_after files_before files_after
      fails = fails_before reads writes looks ended _ _ _ _ _ _ (fails_as reads looks same_fault.0 same_fault.1 counts) unwritten
