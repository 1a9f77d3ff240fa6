-- What the reply to an input of stacks is.
use Rattle.std.proofs.Common.{◌≡◌, ◌↔◌, ℕ, ◌<◌, ◌≤◌, List, length, Option, Result, Ok, Err, IfOk, IsErrOf, refl, ap, subst, inl}
use Rattle.std.proofs.lemmas.Bool.{le-ltb, lt-ltb}
use Rattle.bz_base.specs.declared.error.Error.{Error}
use Rattle.bz_base.specs.declared.error.Error.TheVariants as errors
use Rattle.bz_cache.specs.Format.{FailsAs}
use Rattle.bz_files.specs.World.{World, Told}
use Rattle.bz_requests.specs.declared.requests.Config.{Config}
use Rattle.bz_stacks.specs.Spelling.{IsStack, stack_in, stacks_in}
use Rattle.bz_stacks.proofs.SpellingLemmas.{stack_agrees}
use Rattle.bz_requests.proofs.InputTextLemmas.{asks_from_read, bad_from_read, err_from_bad}
use Rattle.bz_symq.proofs.ReplyLemmas.{input_iff, names_bad, never_usage, no_failure_from, refused_read}
use Rattle.bz_symq.specs.Command.{Breakpad}
use Rattle.bz_requests.specs.InputText.{IsBadInput, greatest_input}
use Rattle.bz_symq.specs.Outcome.{Outcome, too_long}
use Rattle.bz_symq.specs.Reply.{IsInputStatus, IsLineReply, IsRefusalReply, Replies, RepliesTo, RepliesUnread, outcome_of}
use Rattle.bz_symq.specs.Targets.{IsSomeFileCause}
use Rattle.bz_requests.specs.declared.input.ReadStop.{ReadStop}
use Rattle.bz_requests.specs.declared.input.ReadStop.TheVariants as stops
use Rattle.bz_symq.specs.declared.reply.Reply.{Reply}
use Rattle.bz_symq.specs.declared.status.Status.{Status}
use Rattle.bz_symq.specs.declared.status.Status.TheVariants as statuses
use Rattle.bz_run.specs.StackOutcome.{by_stacks, by_text, stacks_outcome}
use Rattle.bz_run.specs.StackReply.{IsInputReply, IsRunRefusal, IsRunReply, RepliesToStacks}

-- where folding was refused, the reply to the refusal is the reply to the stacks
pub replies_refused : (expected : Result (List ℕ) Error) (error : Error) (result : Result Reply Error) → FailsAs expected error → RepliesTo error result → Replies (by_text expected) result
replies_refused expected errors.ReadFault result comes is = rw is tt
replies_refused expected errors.OutOfMemory result comes is = rw is tt
replies_refused expected _ (Ok reply) comes is = rw comes is
replies_refused expected _ (Err e) comes is = rw is tt

module _ (path : List ℕ) (config : Config) where
  module _ (input : List ℕ) (short : length input ≤ greatest_input) where
    -- the stacks that a reply folds are those that the run is asked for
    run_from_input : (reply : Reply) → IsInputReply config input reply → IsRunReply config input reply
    run_from_input reply answered done = let given = answered done in (given.0, asks_from_read stack_in IsStack stack_agrees input short given.0 given.1, given.2)

    -- and so are those that a reply says are refused
    run_refusal : (reply : Reply) → IsInputStatus (stacks_in input) reply.status → IsRefusalReply (IsSomeFileCause (Breakpad path)) reply → IsRunRefusal path input reply
    run_refusal reply status named refused =
        let given = refused_read (stacks_in input) reply.status status refused in
        (given.0, asks_from_read stack_in IsStack stack_agrees input short given.0 given.1, named refused)

    -- a reply's status is that of a bad input exactly where the input is one
    bad_iff : (status : Status) → IsInputStatus (stacks_in input) status → (status ≡ statuses.Input) ↔ IsBadInput IsStack input
    bad_iff status is =
        let read = input_iff (stacks_in input) status is in (
          λ at. bad_from_read stack_in IsStack stack_agrees input (stacks_in input) refl (read.0 at),
          λ bad. read.1 (err_from_bad stack_in IsStack stack_agrees input short bad),
        )

    -- an input that isn't too long is replied to by what is read of it
    outcome_read : (text : List ℕ) (world : World) → input ≡ text → by_stacks path config world (stacks_in input) ≡ stacks_outcome path config text world
    outcome_read text world same = rw (← same, le-ltb _ _ short) refl

    -- so the reply to it is the reply to the run
    pub reply_from_input : (left : Option (List ℕ)) (seen : Option World) (result : Result Reply Error) → Told left (λ text. input ≡ text) →
        Told seen (λ world. Replies (by_stacks path config world (stacks_in input)) result) → IfOk result (λ given. IsInputReply config input given) →
        IfOk result (λ given. IsRefusalReply (IsSomeFileCause (Breakpad path)) given) → IfOk result (λ given. IsInputStatus (stacks_in input) given.status) →
        IfOk result (λ given. IsLineReply (stacks_in input) given) → RepliesToStacks path config left seen result
    reply_from_input left seen (Ok reply) whole replies answered refusal status line = record {
      reply = λ text told world sees. subst (λ expected. Replies expected (Ok reply)) (outcome_read text world (whole text told)) (replies world sees);
      answered = λ text told. rw (← whole text told) (run_from_input reply answered);
      refusal = λ text told. rw (← whole text told) (run_refusal reply status refusal);
      no_failure = no_failure_from (stacks_in input) reply.status status;
      usage = λ is. never_usage (stacks_in input) reply.status status is;
      input = λ text told. rw (← whole text told) (bad_iff reply.status status);
      named = λ text told. rw (← whole text told) (names_bad stack_in IsStack stack_agrees input reply (stacks_in input) short refl status line);
    }
    reply_from_input left seen (Err e) whole replies answered refusal status line = record {
      reply = λ text told world sees. subst (λ expected. Replies expected (Err e)) (outcome_read text world (whole text told)) (replies world sees);
      answered = λ text told. tt;
      refusal = λ text told. tt;
      no_failure = tt;
      usage = tt;
      input = λ text told. tt;
      named = λ text told. tt;
    }

  -- the reply to an input that is too long
  pub reply_from_long : (left : Option (List ℕ)) (seen : Option World) (reply : Reply) → Told left (λ text. greatest_input < length text) → outcome_of reply ≡ too_long →
      RepliesToStacks path config left seen (Ok reply)
  reply_from_long left seen reply long is =
      let status : reply.status ≡ statuses.Input = ap (λ (o : Outcome). o.status) is in
      record {
        reply = λ text told world sees. rw (lt-ltb _ _ (long text told)) is;
        answered = λ text told done. cc;
        refusal = λ text told refused. cc;
        no_failure = (λ other. cc, λ other. cc);
        usage = λ other. cc;
        input = λ text told. (λ _. inl (long text told), λ _. status);
        named = λ text told bad. inl (long text told, ap (λ (o : Outcome). o.text) is);
      }

  -- and to one that wasn't read for another reason
  pub reply_from_unread : {A : Type 0} (left : Option (List ℕ)) (seen : Option World) (stop : ReadStop) (result : Result Reply Error) → RepliesUnread stop result →
      Told left (λ text. IsErrOf {T = A} (Err stop) stops.TooLong → greatest_input < length text) → RepliesToStacks path config left seen result
  reply_from_unread left seen stops.TooLong (Ok reply) is long = reply_from_long left seen reply (λ text told. long text told refl) is
  reply_from_unread left seen stops.TooLong (Err e) is long = absurd is
  reply_from_unread left seen stops.Fault result is long =
      rw is (record { reply = λ text told world sees. tt; answered = λ text told. tt; refusal = λ text told. tt; no_failure = tt; usage = tt; input = λ text told. tt; named = λ text told. tt })
  reply_from_unread left seen stops.Memory result is long =
      rw is (record { reply = λ text told world sees. tt; answered = λ text told. tt; refusal = λ text told. tt; no_failure = tt; usage = tt; input = λ text told. tt; named = λ text told. tt })
