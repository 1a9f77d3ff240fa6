-- What a run promises, from what its reply is, what the reply came to, and how the run ended.
use Rattle.std.proofs.Common.{◌≡◌, ◌⊎◌, ◌↔◌, List, [], Option, Some, Ok, Err, refl, sym, ap, subst, ◌∙◌, inl, inr, append-nil, ℕ}
use Rattle.bz_base.specs.declared.error.Error.{Error}
use Rattle.bz_files.specs.Looked.{Faulted}
use Rattle.bz_files.specs.World.{Told, in_view}
use Rattle.bz_files.specs.declared.files.Files as files_trait
use Rattle.bz_files.specs.declared.text.TextIn as input_trait
use Rattle.bz_files.specs.declared.text.TextOut as output_trait
use Rattle.bz_symq.specs.Command.{Command, seen_by}
use Rattle.bz_symq.specs.Outcome.{Outcome, run_outcome}
use Rattle.bz_symq.specs.Reply.{outcome_of, text_of, IsDoneReply, RepliesToCommand}
use Rattle.bz_symq.specs.Run.{Ends, Fails, IsNoFailure, IsOrFails, Runs}
use Rattle.bz_symq.specs.Turns.{FailsAtOne, ReadsFor, TakesTurns}
use Rattle.bz_symq.specs.Writing.{Finishes}
use Rattle.bz_symq.specs.declared.reply.Reply.{Reply}
use Rattle.bz_symq.specs.declared.status.Status.{Status}
use Rattle.bz_symq.specs.declared.status.Status.TheVariants as statuses
use Rattle.bz_symq.proofs.FaultLemmas.{before_from_fails, fails_after, fails_as, fails_before, fault_from_fails, steady_from_fails}
use Rattle.bz_symq.proofs.ReadLemmas.{few_read, most_read, one_opened}
use Rattle.bz_symq.proofs.RunLemmas.{answerable_is_done, done_from_ends, refusable_is_refused, refused_from_ends}

-- a run that ended by no failure ended by its reply's status
pub status_from : (expected ended status : Status) → IsNoFailure status → IsOrFails expected ended → ended ≡ status → expected ≡ status
status_from expected ended status no_failure (inl same) is = sym same ∙ is
status_from expected ended status no_failure (inr (inl fault)) is = absurd (no_failure.0 (sym is ∙ fault))
status_from expected ended status no_failure (inr (inr memory)) is = absurd (no_failure.1 (sym is ∙ memory))

-- the statuses that aren't failures
pub done_no_failure : IsNoFailure statuses.Done
done_no_failure = (λ other. cc, λ other. cc)

pub refused_no_failure : IsNoFailure statuses.Refused
refused_no_failure = (λ other. cc, λ other. cc)

pub usage_no_failure : IsNoFailure statuses.Usage
usage_no_failure = (λ other. cc, λ other. cc)

pub input_no_failure : IsNoFailure statuses.Input
input_no_failure = (λ other. cc, λ other. cc)

-- the run failed
abbrev pub IsFailure : Status → Type 0
IsFailure ended = (ended ≡ statuses.Fault) ⊎ (ended ≡ statuses.Memory)

-- and then its status is no other
pub never : (ended status : Status) → IsNoFailure status → IsFailure ended → ended ≡ status → ⊥
never ended status no_failure (inl fault) is = no_failure.0 (sym is ∙ fault)
never ended status no_failure (inr memory) is = no_failure.1 (sym is ∙ memory)

-- and it has written a front, if only the empty one
pub failed_ends : (expected : Outcome) (old : List ℕ) (ended : Status) (new : Option (List ℕ)) → IsFailure ended → new ≡ Some old → Ends expected old ended new
failed_ends expected old ended new (inl fault) unwritten = rw fault ([], expected.text, refl, unwritten ∙ ap Some (sym (append-nil old)))
failed_ends expected old ended new (inr memory) unwritten = rw memory ([], expected.text, refl, unwritten ∙ ap Some (sym (append-nil old)))

-- where nothing was written, the output too is as it was until the input is read
pub order_unwritten : {W F P : Type 0} {output_before output_after : W} {files_before files_after : F} → output_after ≡ output_before → (files_after ≡ files_before) ⊎ P →
    ((files_after ≡ files_before) × (output_after ≡ output_before)) ⊎ P
order_unwritten unwritten (inl unlooked) = inl (unlooked, unwritten)
order_unwritten unwritten (inr read) = inr read

module _ {R W F : Type 0} (reads : input_trait.Ghosts R) (writes : output_trait.Ghosts W) (looks : files_trait.Ghosts F) (command : Command) (ended : Status)
    (input_before input_after : R) (output_before output_after : W) (files_before files_after : F) where
  -- a reply was given, and its writing ended the run
  pub runs_with_reply : (reply : Reply) → RepliesToCommand command (seen_by command (reads.left input_before)) (in_view (looks.worlds files_before)) (looks.pid files_before) (Ok reply) →
      TakesTurns reads looks command (Ok reply) input_before input_after files_before files_after → ReadsFor looks command (reads.left input_before) (IsDoneReply (Ok reply)) files_before files_after →
      FailsAtOne reads looks (Faulted (Ok reply)) input_before input_after files_before files_after → Finishes writes (outcome_of reply) ended output_before output_after →
      Runs reads writes looks command ended input_before input_after output_before output_after files_before files_after
  runs_with_reply reply given turns opens counts finished = record {
    ends = ends;
    status = status;
    done = λ done text left world seen old written. done_from_ends _ _ _ _ _ _ (rw done at (ends text left world seen old written));
    answered = λ done text left old written. given.answered text left (by_reply statuses.Done done_no_failure done) old _ ((rw done at (finished.ends old written)).1);
    refused = λ refused text left world seen old written. refused_from_ends _ _ _ _ _ _ (rw refused at (ends text left world seen old written));
    refusal = λ refused text left old written. given.refusal text left (by_reply statuses.Refused refused_no_failure refused) old _ ((rw refused at (finished.ends old written)).1);
    usage = λ usage. given.usage (by_reply statuses.Usage usage_no_failure usage);
    input = λ text left. (
      λ bad. (given.input text left).0 (by_reply statuses.Input input_no_failure bad),
      λ bad. rw ((given.input text left).1 bad) at finished.status,
    );
    named = λ is text left old written. (text_of reply.said, given.named text left (by_reply statuses.Input input_no_failure is), (rw is at (finished.ends old written)).1);
    complete = λ text left world seen is. rw (answerable_is_done command text world (looks.pid files_before) is) at (status text left world seen);
    refuses = λ text left world seen is. rw (refusable_is_refused command text world (looks.pid files_before) is) at (status text left world seen);
    unasked = turns.unasked;
    unlooked = turns.unlooked;
    untaken = turns.untaken;
    read = λ _. turns.read;
    bounded = turns.bounded;
    order = inr turns.read;
    silent = λ text left world seen nothing. finished.silent (ap (λ (o : Outcome). o.text) (given.reply text left world seen) ∙ nothing);
    most = most_read looks (IsDoneReply (Ok reply)) files_before files_after command _ opens;
    opened = one_opened looks (IsDoneReply (Ok reply)) files_before files_after (ended ≡ statuses.Done) command _ (λ done. by_reply statuses.Done done_no_failure done) opens;
    process = few_read looks (IsDoneReply (Ok reply)) files_before files_after command _ opens;
    fails = fails;
    fault = fault_from_fails _ _ _ _ _ _ _ _ _ _ fails;
    steady = steady_from_fails _ _ _ _ _ _ _ _ _ _ fails;
    before_output = before_from_fails _ _ _ _ _ _ _ _ _ _ fails;
  }
    where
      by_reply : (status : Status) → IsNoFailure status → ended ≡ status → reply.status ≡ status
      by_reply other no_failure is = status_from reply.status ended other no_failure finished.status is

      ends : Told (seen_by command (reads.left input_before)) (λ text. Told (in_view (looks.worlds files_before)) (λ world. Told (writes.written output_before) (λ old.
          Ends (run_outcome command text world (looks.pid files_before)) old ended (writes.written output_after))))
      ends text left world seen old written = subst (λ expected. Ends expected old ended (writes.written output_after)) (given.reply text left world seen) (finished.ends old written)

      status : Told (seen_by command (reads.left input_before)) (λ text. Told (in_view (looks.worlds files_before)) (λ world. IsOrFails (run_outcome command text world (looks.pid files_before)).status ended))
      status text left world seen = subst (λ (expected : Outcome). IsOrFails expected.status ended) (given.reply text left world seen) finished.status

      fails : Fails reads writes looks ended input_before input_after output_before output_after files_before files_after
      fails = fails_after reads writes looks ended _ _ _ _ _ _ (Faulted (Ok reply)) (λ fault. fault) counts finished.counts

  -- no reply was given, and nothing was written
  pub runs_without_reply : (e : Error) → IsFailure ended → (Faulted {A = Reply} (Err e) ↔ (ended ≡ statuses.Fault)) → TakesTurns reads looks command (Err e) input_before input_after files_before files_after →
      ReadsFor looks command (reads.left input_before) (IsDoneReply (Err e)) files_before files_after → FailsAtOne reads looks (Faulted {A = Reply} (Err e)) input_before input_after files_before files_after →
      output_after ≡ output_before →
      Runs reads writes looks command ended input_before input_after output_before output_after files_before files_after
  runs_without_reply e failed same_fault turns opens counts unwritten = record {
    ends = λ text left world seen old written. failed_ends _ old ended _ failed (ap writes.written unwritten ∙ written);
    status = λ text left world seen. inr failed;
    done = λ done. absurd (never ended statuses.Done done_no_failure failed done);
    answered = λ done. absurd (never ended statuses.Done done_no_failure failed done);
    refused = λ refused. absurd (never ended statuses.Refused refused_no_failure failed refused);
    refusal = λ refused. absurd (never ended statuses.Refused refused_no_failure failed refused);
    usage = λ usage. never ended statuses.Usage usage_no_failure failed usage;
    input = λ text left. (λ bad. absurd (never ended statuses.Input input_no_failure failed bad), λ bad. inr failed);
    named = λ is. absurd (never ended statuses.Input input_no_failure failed is);
    complete = λ text left world seen is. inr failed;
    refuses = λ text left world seen is. inr failed;
    unasked = turns.unasked;
    unlooked = turns.unlooked;
    untaken = turns.untaken;
    read = λ no_failure. absurd (never ended ended no_failure failed refl);
    bounded = turns.bounded;
    order = order_unwritten unwritten turns.order;
    silent = λ text left world seen nothing. unwritten;
    most = most_read looks (IsDoneReply (Err e)) files_before files_after command _ opens;
    opened = one_opened looks (IsDoneReply (Err e)) files_before files_after (ended ≡ statuses.Done) command _ (λ done. absurd (never ended statuses.Done done_no_failure failed done)) opens;
    process = few_read looks (IsDoneReply (Err e)) files_before files_after command _ opens;
    fails = fails;
    fault = fault_from_fails _ _ _ _ _ _ _ _ _ _ fails;
    steady = steady_from_fails _ _ _ _ _ _ _ _ _ _ fails;
    before_output = before_from_fails _ _ _ _ _ _ _ _ _ _ fails;
  }
    where
      fails : Fails reads writes looks ended input_before input_after output_before output_after files_before files_after
      fails = fails_before reads writes looks ended _ _ _ _ _ _ (fails_as reads looks same_fault.0 same_fault.1 counts) unwritten
