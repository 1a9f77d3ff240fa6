-- What a reply to an input of frames comes to, from what was read of the input.
use Rattle.std.proofs.Common.{◌≡◌, ◌↔◌, ◌+◌, ◌≤◌, ◌<◌, ℕ, List, length, Result, Some, Ok, Err, IfOk, IsErrOf, refl, sym, ap, subst, ◌∙◌, inl, inr, arith}
use Rattle.bz_base.specs.declared.error.Error.{Error}
use Rattle.bz_base.specs.declared.error.Error.TheVariants as errors
use Rattle.bz_base.specs.declared.types.FindSymOpts.{FindSymOpts}
use Rattle.bz_files.specs.Count.{CountsFaults}
use Rattle.bz_files.specs.Looked.{Faulted}
use Rattle.bz_files.specs.World.{Told}
use Rattle.bz_files.specs.declared.files.Files as files_trait
use Rattle.bz_files.specs.declared.text.TextIn as input_trait
use Rattle.bz_requests.proofs.LineGrammarLemmas.{items_again}
use Rattle.bz_store.specs.Frames.{Frame}
use Rattle.bz_symq.proofs.EndLemmas.{input_no_failure}
use Rattle.bz_symq.proofs.FaultLemmas.{counts_as, counts_still, no_fault}
use Rattle.bz_requests.proofs.InputTextLemmas.{err_from_bad}
use Rattle.bz_symq.proofs.ReplyLemmas.{when_given}
use Rattle.bz_requests.specs.InputText.{IsBadInput, IsReadWhole, MovesAtMost, greatest_input, left_over}
use Rattle.bz_symq.specs.Outcome.{Outcome, NamesBad, too_long}
use Rattle.bz_symq.specs.Reply.{Replies, RepliesUnread, outcome_of, text_of}
use Rattle.bz_symq.specs.Run.{IsNoFailure}
use Rattle.bz_requests.specs.declared.input.ReadStop.{ReadStop}
use Rattle.bz_requests.specs.declared.input.ReadStop.TheVariants as stops
use Rattle.bz_symq.specs.declared.reply.Reply.{Reply}
use Rattle.bz_symq.specs.declared.status.Status.TheVariants as statuses
use Rattle.bz_serve.proofs.FrameLemmas.{frame_agrees}
use Rattle.bz_serve.proofs.FrameInputLemmas.{bad_read, either_status, outcome_long, outcome_short, reply_read, status_read}
use Rattle.bz_serve.specs.FrameLines.{IsFrame, frame_in, frames_in}
use Rattle.bz_serve.specs.FrameReply.{IsFramesReply, RepliesFrames, frame_count, opens_by}
use Rattle.bz_serve.specs.FrameRun.{frames_outcome}
use Rattle.bz_serve.specs.FrameTurns.{IsRunReply, RepliesToInput}

-- what holds of a given reply, by two things that do
when_both : {A E : Type 0} {P Q S : A → Type 0} (result : Result A E) → ((given : A) → P given → Q given → S given) → IfOk result P → IfOk result Q → IfOk result S
when_both (Ok given) follows is also = follows given is also
when_both (Err e) follows is also = tt

module _ {R F : Type 0} (reads : input_trait.Ghosts R) (looks : files_trait.Ghosts F) (root : List ℕ) (opts : FindSymOpts) (input_before input_after : R)
    (bounded : MovesAtMost (greatest_input + 1) (reads.left input_before) (reads.left input_after)) where
  -- the input was read to its end, and its lines were replied to
  pub turns_replied : (text : List ℕ) (result : Result Reply Error) (files_before files_after : F) → length text ≤ greatest_input → Told (reads.left input_before) (λ whole. text ≡ whole) →
      IsReadWhole (reads.left input_before) (reads.left input_after) → reads.faults input_after ≡ reads.faults input_before →
      RepliesFrames looks root opts (frames_in text) result files_before files_after →
      IfOk result (IsFramesReply root opts (frames_in text) (looks.opens files_before) (looks.opens files_after)) → RepliesToInput reads looks root opts result input_before input_after files_before files_after
  turns_replied text result files_before files_after short whole read still replied answered = record {
    reply = λ all left world told. subst (λ outcome. Replies outcome result) (outcome_short world root opts text all short (whole all left)) (replied.reply world told);
    status = when_given result (λ given is. either_status (frames_in text) given.status is) replied.status;
    no_failure = replied.no_failure;
    answered = λ all left. when_both result
        (λ given status are done. subst (λ lines. IsRunReply root opts lines (text_of given.said) (looks.opens files_before) (looks.opens files_after)) (whole all left)
        (reply_read text short root opts (frames_in text) _ _ refl given status are done)) replied.status answered;
    named = λ all left. when_both result
        (λ given status are input. subst (λ lines. NamesBad IsFrame lines (text_of given.said)) (whole all left) (bad_read text short root opts (frames_in text) _ _ refl given status are input)) replied.status answered;
    input = λ all left. when_given result (λ given is. subst (λ lines. (given.status ≡ statuses.Input) ↔ IsBadInput IsFrame lines) (whole all left) (status_read text short (frames_in text) refl given.status is)) replied.status;
    opens = λ all left world told. when_given result
        (λ given is done. subst (λ lines. looks.opens files_after ≡ opens_by world root opts (frames_in lines) (looks.opens files_before)) (whole all left) is) (replied.opens world told);
    most = λ all left frames asks.
        subst (λ (asked : Result (List Frame) ℕ). looks.opens files_after ≤ looks.opens files_before + frame_count asked)
        (ap frames_in (whole all left) ∙ items_again frame_in IsFrame frame_agrees all frames asks.items_are) replied.most;
    unlooked = λ all left bad. replied.unlooked (err_from_bad frame_in IsFrame frame_agrees text short (subst (IsBadInput IsFrame) (sym (whole all left)) bad));
    order = inr read;
    read = when_given result (λ given is. read) replied.status;
    bounded = bounded;
    fails = inr (still, replied.looked);
  }

  -- the input is too long, and this was the reply
  pub turns_long : (reply : Reply) (files : F) → outcome_of reply ≡ too_long → Told (reads.left input_before) (λ text. greatest_input < length text) →
      IsReadWhole (reads.left input_before) (reads.left input_after) → reads.faults input_after ≡ reads.faults input_before →
      RepliesToInput reads looks root opts (Ok reply) input_before input_after files files
  turns_long reply files is long read still = record {
    reply = λ text left world told. is ∙ outcome_long world root opts text (long text left);
    status = inl status;
    no_failure = subst IsNoFailure (sym status) input_no_failure;
    answered = λ text left done. let both : statuses.Input ≡ statuses.Done = sym status ∙ done in cc;
    named = λ text left input. inl (long text left, ap (λ (o : Outcome). o.text) is);
    input = λ text left. (λ _. inl (long text left), λ _. status);
    opens = λ text left world told done. let both : statuses.Input ≡ statuses.Done = sym status ∙ done in cc;
    most = λ text left frames asks. omega arith;
    unlooked = λ text left bad. refl;
    order = inl refl;
    read = read;
    bounded = bounded;
    fails = inl (refl, counts_still _ _ _ (λ never. never) still);
  }
    where
      status : reply.status ≡ statuses.Input
      status = ap (λ (o : Outcome). o.status) is

  -- the input wasn't read to its end: reading failed, or memory ran out
  pub turns_unread : (e : Error) (files : F) → ((expected : Outcome) → Replies expected (Err e)) → CountsFaults (reads.faults input_before) (reads.faults input_after) (Faulted {A = Reply} (Err e)) →
      RepliesToInput reads looks root opts (Err e) input_before input_after files files
  turns_unread e files failed counts = record {
    reply = λ text left world told. failed (frames_outcome world root opts text);
    status = tt;
    no_failure = tt;
    answered = λ text left. tt;
    named = λ text left. tt;
    input = λ text left. tt;
    opens = λ text left world told. tt;
    most = λ text left frames asks. omega arith;
    unlooked = λ text left bad. refl;
    order = inl refl;
    read = tt;
    bounded = bounded;
    fails = inl (refl, counts);
  }

  -- the reply where the input wasn't read to its end
  pub turns_stopped : {A : Type 0} (stop : ReadStop) (result : Result Reply Error) (files : F) → RepliesUnread stop result →
      Told (reads.left input_before) (λ text. IsErrOf {T = A} (Err stop) stops.TooLong → greatest_input < length text) →
      Told (reads.left input_before) (λ text. IsErrOf {T = A} (Err stop) stops.TooLong → reads.left input_after ≡ Some (left_over text)) →
      CountsFaults (reads.faults input_before) (reads.faults input_after) (IsErrOf {T = A} (Err stop) stops.Fault) → RepliesToInput reads looks root opts result input_before input_after files files
  turns_stopped stops.TooLong (Ok reply) files is long past counts =
      turns_long reply files is (λ text left. long text left refl) (λ text left. past text left refl) (no_fault _ _ _ (λ fault. cc) counts)
  turns_stopped stops.TooLong (Err e) files is long past counts = absurd is
  turns_stopped stops.Fault result files is long past counts = rw is (turns_unread errors.ReadFault files (λ expected. tt) (counts_as _ _ (λ _. refl) (λ _. refl) counts))
  turns_stopped stops.Memory result files is long past counts = rw is (turns_unread errors.OutOfMemory files (λ expected. tt) (counts_as _ _ (λ fault. cc) (λ other. cc) counts))
