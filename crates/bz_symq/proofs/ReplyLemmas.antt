-- What the reply to a command is.
use Rattle.std.proofs.Common.{◌≡◌, ◌≢◌, ◌↔◌, ℕ, ◌<◌, ◌≤◌, false, List, ◌++◌, length, Option, Some, Result, Ok, Err, IfOk, IsOk, OnOk, IsErr, IsErrOf, refl, sym, ap, subst, ◌∙◌, inl, inr, arith}
use Rattle.std.proofs.lemmas.Bool.{false≢true, le-ltb, lt-ltb}
use Rattle.bz_base.specs.Answer.{Answer}
use Rattle.bz_base.specs.declared.error.Error.{Error}
use Rattle.bz_base.specs.declared.error.Error.TheVariants as errors
use Rattle.bz_cache.specs.Format.{GivesOrFaults}
use Rattle.bz_files.specs.World.{World, Told}
use Rattle.bz_files.specs.declared.files.Files as files_trait
use Rattle.bz_files.specs.declared.text.TextIn as input_trait
use Rattle.bz_lookups.specs.declared.lookups.Lookups.{Lookups}
use Rattle.bz_requests.proofs.AddressLemmas.{address_agrees}
use Rattle.bz_requests.proofs.LineGrammarLemmas.{first_bad_found}
use Rattle.bz_requests.specs.Addresses.{IsAddress, address_in, addresses_in}
use Rattle.bz_requests.specs.Lines.{ReadsAsSpelled, items_in}
use Rattle.bz_symq.specs.Command.{Asking, Command, Batch, Make, Product}
use Rattle.bz_requests.specs.InputText.{greatest_input}
use Rattle.bz_symq.specs.Outcome.{Outcome, by_addresses, by_answer, by_product, run_outcome, too_long}
use Rattle.bz_symq.specs.Products.{made_in}
use Rattle.bz_symq.specs.Reply.{outcome_of, text_of, IsBadReply, IsInputReply, IsInputStatus, IsLineReply, IsProductReply, IsProductStatus, IsRefusalReply, IsRunRefusal, IsRunReply, IsSomeCauseOrFails, IsUnmadeReply, Replies, RepliesTo, RepliesToCommand, RepliesUnread}
use Rattle.bz_symq.specs.Run.{IsBadInput, IsNoFailure}
use Rattle.bz_symq.specs.Targets.{IsSomeCause, takes}
use Rattle.bz_symq.specs.Turns.{TakesTurns}
use Rattle.bz_requests.specs.declared.input.ReadStop.{ReadStop}
use Rattle.bz_requests.specs.declared.input.ReadStop.TheVariants as stops
use Rattle.bz_symq.specs.declared.reply.Reply.{Reply}
use Rattle.bz_symq.specs.declared.status.Status.{Status}
use Rattle.bz_symq.specs.declared.status.Status.TheVariants as statuses
use Rattle.bz_requests.proofs.InputTextLemmas.{addresses_found}
use Rattle.bz_symq.proofs.RunLemmas.{bad_from_read, err_from_bad}

-- the answers that look-ups are read as
abbrev pub answers_read : Lookups → List Answer
answers_read lookups = lookups.answers

-- where a call was refused, the reply to the refusal is the reply to the call
pub replies_refused : {A : Type 0} (view : A → List Answer) (addrs : List ℕ) (expected : Result (List Answer) Error) (error : Error) (result : Result Reply Error) →
    GivesOrFaults view expected (Err error) → RepliesTo error result → Replies (by_answer addrs expected) result
replies_refused view addrs expected errors.ReadFault result comes is = rw is tt
replies_refused view addrs expected errors.OutOfMemory result comes is = rw is tt
replies_refused view addrs expected _ (Ok reply) comes is = rw comes is
replies_refused view addrs expected _ (Err e) comes is = rw is tt

-- and it names a refusal by such a cause as the call had
pub refusal_named : (Cause : Error → Type 0) (error : Error) (result : Result Reply Error) → IsSomeCauseOrFails Cause error → RepliesTo error result → IfOk result (λ given. IsRefusalReply Cause given)
refusal_named Cause errors.ReadFault (Ok reply) cause is = λ refused. cc
refusal_named Cause errors.OutOfMemory (Ok reply) cause is = λ refused. cc
refusal_named Cause error (Ok reply) cause is = λ refused. record { refusal = error; cause = cause; text_is = ap (λ (o : Outcome). o.text) is }
refusal_named Cause error (Err e) cause is = tt

-- what holds holds wherever a reply is given
pub given_always : {A B : Type 0} {P : Type 0} (result : Result A B) → P → IfOk result (λ _. P)
given_always (Ok given) holds = holds
given_always (Err e) holds = tt

-- what holds of a given reply, by what else does
pub when_given : {A E : Type 0} {P Q : A → Type 0} (result : Result A E) → ((given : A) → P given → Q given) → IfOk result P → IfOk result Q
when_given (Ok given) follows is = follows given is
when_given (Err e) follows is = tt

-- what holds of an answered call holds where the call was answered
pub given_from_ok : {A B : Type 0} (result : Result A B) (P : Type 0) → OnOk result P → IsOk result → P
given_from_ok (Ok given) P holds is = holds
given_from_ok (Err e) P holds is = absurd (false≢true is)

-- the status of a reply to an input is no failure
pub no_failure_from : {A : Type 0} (read : Result A ℕ) (status : Status) → IsInputStatus read status → IsNoFailure status
no_failure_from (Err n) status is = (λ other. cc, λ other. cc)
no_failure_from (Ok items) status (inl is) = (λ other. cc, λ other. cc)
no_failure_from (Ok items) status (inr is) = (λ other. cc, λ other. cc)

-- and not that of words that give no command
pub never_usage : {A : Type 0} (read : Result A ℕ) (status : Status) → IsInputStatus read status → status ≢ statuses.Usage
never_usage (Err n) status is other = cc
never_usage (Ok items) status (inl is) other = cc
never_usage (Ok items) status (inr is) other = cc

-- and that of a bad input exactly where the input isn't read
pub input_iff : {A : Type 0} (read : Result A ℕ) (status : Status) → IsInputStatus read status → (status ≡ statuses.Input) ↔ IsErr read
input_iff (Err n) status is = (λ _. refl, λ _. is)
input_iff (Ok items) status (inl is) = (λ other. cc, λ err. absurd (false≢true err))
input_iff (Ok items) status (inr is) = (λ other. cc, λ err. absurd (false≢true err))

-- a reply that something is refused comes only where the lines are read
pub refused_read : {A : Type 0} (read : Result A ℕ) (status : Status) → IsInputStatus read status → status ≡ statuses.Refused → (items : A) × (read ≡ Ok items)
refused_read (Ok items) status is refused = (items, refl)
refused_read (Err n) status is refused = cc

-- a reply that names the line that isn't read names what is bad of the input, if that isn't too long
pub names_bad : {A : Type 0} (reads : List ℕ → Option A) (Spells : List ℕ → A → Type 0) (agrees : ReadsAsSpelled reads Spells) (text : List ℕ) (reply : Reply) (read : Result (List A) ℕ) →
    length text ≤ greatest_input → items_in reads text ≡ read → IsInputStatus read reply.status → IsLineReply read reply → IsBadReply Spells text reply
names_bad reads Spells agrees text reply (Err n) short is status line = λ bad. inr (short, (n, first_bad_found reads Spells agrees text n is, ap (λ (o : Outcome). o.text) line))
names_bad reads Spells agrees text reply (Ok items) short is (inl done) line = λ bad. let never : statuses.Done ≡ statuses.Input = sym done ∙ bad in cc
names_bad reads Spells agrees text reply (Ok items) short is (inr refused) line = λ bad. let never : statuses.Refused ≡ statuses.Input = sym refused ∙ bad in cc

-- nor is that of a reply that says a product
product_no_failure : (status : Status) → IsProductStatus status → IsNoFailure status
product_no_failure status (inl is) = (λ other. cc, λ other. cc)
product_no_failure status (inr is) = (λ other. cc, λ other. cc)

-- and it is neither that of words that give no command nor that of a bad input
product_no_usage : (status : Status) → IsProductStatus status → status ≢ statuses.Usage
product_no_usage status (inl is) other = cc
product_no_usage status (inr is) other = cc

product_no_input : (status : Status) → IsProductStatus status → status ≢ statuses.Input
product_no_input status (inl is) other = cc
product_no_input status (inr is) other = cc

module _ (command : Command) (asking : Asking) (input : List ℕ) (command_is : command ≡ Batch asking) (short : length input ≤ greatest_input) where
  -- the addresses that a reply answers are those that the run is asked for
  run_from_input : (own : ℕ) (reply : Reply) → IsInputReply asking own input reply → IsRunReply command own input reply
  run_from_input own reply answered = λ done old new written.
      let given = answered done in
      inl (record {
        asking = asking;
        addrs = given.0;
        answers = given.2.answers;
        asks = record { command_is = command_is; short = short; input_is = addresses_found input given.0 given.1 };
        answers_are = given.2.answers_are;
        written = written ∙ ap (λ text. Some (old ++ text)) given.2.text_is;
      })

  -- and so are those that a reply says are refused
  run_refusal : (reply : Reply) → IsInputStatus (addresses_in input) reply.status → IsRefusalReply (IsSomeCause asking) reply → IsRunRefusal command input reply
  run_refusal reply status named = λ refused old new written.
      let given = refused_read (addresses_in input) reply.status status refused in
      let some = named refused in
      inl (record {
        asking = asking;
        addrs = given.0;
        refusal = some.refusal;
        asks = record { command_is = command_is; short = short; input_is = addresses_found input given.0 given.1 };
        cause = some.cause;
        written = written ∙ ap (λ text. Some (old ++ text)) some.text_is;
      })

  -- a reply's status is that of a bad input exactly where the input is one
  bad_iff : (status : Status) → IsInputStatus (addresses_in input) status → (status ≡ statuses.Input) ↔ IsBadInput command input
  bad_iff status is =
      let read = input_iff (addresses_in input) status is in (
        λ at. bad_from_read command asking input command_is short (addresses_in input) refl (read.0 at),
        λ bad. read.1 (err_from_bad command asking input command_is short bad),
      )

  -- an input that isn't too long is replied to by what is read of it
  outcome_read : (text : List ℕ) (world : World) (own : ℕ) → input ≡ text → by_addresses asking world own (addresses_in input) ≡ run_outcome command text world own
  outcome_read text world own same = rw (← same, command_is, le-ltb _ _ short) refl

  -- so the reply to it is the reply to the command
  pub reply_from_input : (left : Option (List ℕ)) (seen : Option World) (own : ℕ) (result : Result Reply Error) → Told left (λ text. input ≡ text) →
      Told seen (λ world. Replies (by_addresses asking world own (addresses_in input)) result) → IfOk result (λ given. IsInputReply asking own input given) →
      IfOk result (λ given. IsRefusalReply (IsSomeCause asking) given) → IfOk result (λ given. IsInputStatus (addresses_in input) given.status) →
      IfOk result (λ given. IsLineReply (addresses_in input) given) → RepliesToCommand command left seen own result
  reply_from_input left seen own (Ok reply) whole replies answered refusal status line = record {
    reply = λ text told world sees. subst (λ expected. Replies expected (Ok reply)) (outcome_read text world own (whole text told)) (replies world sees);
    answered = λ text told. rw (← whole text told) (run_from_input own reply answered);
    refusal = λ text told. rw (← whole text told) (run_refusal reply status refusal);
    no_failure = no_failure_from (addresses_in input) reply.status status;
    usage = λ is. never_usage (addresses_in input) reply.status status is;
    input = λ text told. rw (← whole text told) (bad_iff reply.status status);
    named = λ text told. rw (← whole text told) (names_bad address_in IsAddress address_agrees input reply (addresses_in input) short refl status line);
  }
  reply_from_input left seen own (Err e) whole replies answered refusal status line = record {
    reply = λ text told world sees. subst (λ expected. Replies expected (Err e)) (outcome_read text world own (whole text told)) (replies world sees);
    answered = λ text told. tt;
    refusal = λ text told. tt;
    no_failure = tt;
    usage = tt;
    input = λ text told. tt;
    named = λ text told. tt;
  }

-- the reply to an input that is too long
pub reply_from_long : (command : Command) (asking : Asking) → command ≡ Batch asking → (left : Option (List ℕ)) (seen : Option World) (own : ℕ) (reply : Reply) →
    Told left (λ text. greatest_input < length text) → outcome_of reply ≡ too_long → RepliesToCommand command left seen own (Ok reply)
reply_from_long command asking command_is left seen own reply long is =
    let status : reply.status ≡ statuses.Input = ap (λ (o : Outcome). o.status) is in
    record {
      reply = λ text told world sees. rw (command_is, lt-ltb _ _ (long text told)) is;
      answered = λ text told done. cc;
      refusal = λ text told refused. cc;
      no_failure = (λ other. cc, λ other. cc);
      usage = λ other. cc;
      input = λ text told. (λ _. (asking, command_is, inl (long text told)), λ _. status);
      named = λ text told bad. inl (long text told, ap (λ (o : Outcome). o.text) is);
    }

-- and to one that wasn't read for another reason
pub reply_from_unread : {A : Type 0} (command : Command) (asking : Asking) → command ≡ Batch asking → (left : Option (List ℕ)) (seen : Option World) (own : ℕ) (stop : ReadStop)
    (result : Result Reply Error) → RepliesUnread stop result → Told left (λ text. IsErrOf {T = A} (Err stop) stops.TooLong → greatest_input < length text) →
    RepliesToCommand command left seen own result
reply_from_unread command asking command_is left seen own stops.TooLong (Ok reply) is long = reply_from_long command asking command_is left seen own reply (λ text told. long text told refl) is
reply_from_unread command asking command_is left seen own stops.TooLong (Err e) is long = absurd is
reply_from_unread command asking command_is left seen own stops.Fault result is long =
    rw is (record { reply = λ text told world sees. tt; answered = λ text told. tt; refusal = λ text told. tt; no_failure = tt; usage = tt; input = λ text told. tt; named = λ text told. tt })
reply_from_unread command asking command_is left seen own stops.Memory result is long =
    rw is (record { reply = λ text told world sees. tt; answered = λ text told. tt; refusal = λ text told. tt; no_failure = tt; usage = tt; input = λ text told. tt; named = λ text told. tt })

-- a command that asks for answers asks for no product, nor the other way round
pub no_make : (command : Command) (asking : Asking) → command ≡ Batch asking → (product : Product) → command ≡ Make product → ⊥
no_make command asking is product make = cc

no_batch : (command : Command) (product : Product) → command ≡ Make product → (asking : Asking) → command ≡ Batch asking → ⊥
no_batch command product is asking batch = cc

-- a batch that is the same batch is of the same kind
pub takes_same : (asking other : Asking) → Batch asking ≡ Batch other → takes other.target other.kind ≡ false → takes asking.target asking.kind ≡ false
takes_same asking other same untaken = let is : asking ≡ other = cc same in rw is untaken

module _ (command : Command) (product : Product) (command_is : command ≡ Make product) where
  -- what some file makes is what the run is asked for
  run_from_product : (own : ℕ) (input : List ℕ) (reply : Reply) → IsProductReply product reply → IsRunReply command own input reply
  run_from_product own input reply answered = λ done old new written.
      inr (record { product = product; made = text_of reply.said; asks = command_is; made_is = answered done; written = written })

  -- and why nothing is made, the run is refused for
  unmade_from_product : (input : List ℕ) (reply : Reply) → IsUnmadeReply product reply → IsRunRefusal command input reply
  unmade_from_product input reply unmade = λ refused old new written.
      let some = unmade refused in
      inr (record { product = product; name = some.0; asks = command_is; cause = some.1; written = written ∙ ap (λ text. Some (old ++ text)) some.2 })

  -- the reply that says a product, or why there is none, is the reply to the command
  pub reply_from_product : (left : Option (List ℕ)) (seen : Option World) (own : ℕ) (result : Result Reply Error) → Told seen (λ world. Replies (by_product (made_in product world)) result) →
      IfOk result (λ given. IsProductReply product given) → IfOk result (λ given. IsUnmadeReply product given) → IfOk result (λ given. IsProductStatus given.status) →
      RepliesToCommand command left seen own result
  reply_from_product left seen own (Ok reply) replies answered unmade status = record {
    reply = λ text told world sees. subst (λ other. Replies (run_outcome other text world own) (Ok reply)) (sym command_is) (replies world sees);
    answered = λ text told. run_from_product own text reply answered;
    refusal = λ text told. unmade_from_product text reply unmade;
    no_failure = product_no_failure reply.status status;
    usage = λ is. product_no_usage reply.status status is;
    input = λ text told. (λ is. absurd (product_no_input reply.status status is), λ bad. absurd (no_batch command product command_is bad.0 bad.1));
    named = λ text told bad. absurd (product_no_input reply.status status bad);
  }
  reply_from_product left seen own (Err e) replies answered unmade status = record {
    reply = λ text told world sees. subst (λ other. Replies (run_outcome other text world own) (Err e)) (sym command_is) (replies world sees);
    answered = λ text told. tt;
    refusal = λ text told. tt;
    no_failure = tt;
    usage = tt;
    input = λ text told. tt;
    named = λ text told. tt;
  }

  -- no input is asked for, so none is read
  pub turns_from_product : {R F : Type 0} (reads : input_trait.Ghosts R) (looks : files_trait.Ghosts F) (result : Result Reply Error) (input : R) (before after : F) →
      TakesTurns reads looks command result input input before after
  turns_from_product reads looks result input before after = record {
    unasked = λ other is. refl;
    unlooked = λ text told bad. absurd (no_batch command product command_is bad.0 bad.1);
    untaken = λ asking batch untaken. absurd (no_batch command product command_is asking batch);
    read = given_always result (λ asking batch. absurd (no_batch command product command_is asking batch));
    bounded = λ text told. (0, omega arith, told);
    order = inr (λ asking batch. absurd (no_batch command product command_is asking batch));
  }
