-- What a run is about to end with and write.
use Rattle.std.specs.Prelude.{◌≡◌, ◌≢◌, ◌⊎◌, ◌↔◌, ℕ, List, ◌++◌, map, Option, Some, Result, Ok, Err, IfOk}
use Rattle.std.specs.Cow.{cow_str_bytes}
use Rattle.bz_base.specs.Answer.{Answer, reading}
use Rattle.bz_base.specs.declared.error.Error.{Error}
use Rattle.bz_base.specs.declared.error.Error.TheVariants as errors
use Rattle.bz_files.specs.World.{World, Told}
use Rattle.bz_requests.specs.Addresses.{IsAddress, addresses_in}
use Rattle.bz_canon.specs.AnswerText.{answer_texts}
use Rattle.bz_symq.specs.Command.{Asking, Command, Product}
use Rattle.bz_symq.specs.Outcome.{Outcome, NamesBad, bad_line, refused, refused_as, run_outcome, too_long}
use Rattle.bz_symq.specs.Products.{MadeOfSome, UnmadeOfSome}
use Rattle.bz_symq.specs.Run.{IsBadInput, IsNoFailure, IsSomeDone, IsSomeMade, IsSomeRefused, IsSomeUnmade}
use Rattle.bz_symq.specs.Targets.{AnswersSome}
use Rattle.bz_requests.specs.declared.input.ReadStop.{ReadStop}
use Rattle.bz_requests.specs.declared.input.ReadStop.TheVariants as stops
use Rattle.bz_symq.specs.declared.reply.Reply.{Reply}
use Rattle.bz_symq.specs.declared.reply.Said.{Said}
use Rattle.bz_symq.specs.declared.reply.Said.TheVariants as saids
use Rattle.bz_symq.specs.declared.status.Status.{Status}
use Rattle.bz_symq.specs.declared.status.Status.TheVariants as statuses

-- the text that is said
abbrev pub text_of : Said → List ℕ
text_of (saids.Text text) = cow_str_bytes text
text_of (saids.Answers lookups) = answer_texts lookups.addrs lookups.answers
text_of (saids.Owned owned) = answer_texts owned.addrs.items (map reading owned.answers.items)
text_of (saids.Made bytes) = bytes.items

-- the outcome that a reply is
abbrev pub outcome_of : Reply → Outcome
outcome_of reply = record { status = reply.status; text = text_of reply.said }

-- the reply is the expected one; or a fault or want of memory came in its place
abbrev pub Replies : Outcome → Result Reply Error → Type 0
Replies expected (Ok reply) = outcome_of reply ≡ expected
Replies expected (Err errors.ReadFault) = Unit {0}
Replies expected (Err errors.OutOfMemory) = Unit {0}
Replies expected (Err _) = ⊥

-- a refusal is answered by its name, unless memory runs out; a fault and want of
-- memory stay what they are
abbrev pub RepliesTo : Error → Result Reply Error → Type 0
RepliesTo errors.ReadFault result = result ≡ Err errors.ReadFault
RepliesTo errors.OutOfMemory result = result ≡ Err errors.OutOfMemory
RepliesTo refusal (Ok reply) = outcome_of reply ≡ refused refusal
RepliesTo refusal (Err e) = e ≡ errors.OutOfMemory

-- of an input that wasn't read to its end: one that is too long is named so, and a
-- failure stays what it is
abbrev pub RepliesUnread : ReadStop → Result Reply Error → Type 0
RepliesUnread stops.TooLong (Ok reply) = outcome_of reply ≡ too_long
RepliesUnread stops.TooLong (Err e) = ⊥
RepliesUnread stops.Fault result = result ≡ Err errors.ReadFault
RepliesUnread stops.Memory result = result ≡ Err errors.OutOfMemory

-- the text is that of answers to the addresses, such as the target may have
pub record IsBatchText (asking : Asking) (own : ℕ) (addrs text : List ℕ) : Type 0 where
  pub answers : List Answer
  pub answers_are : AnswersSome asking own addrs answers
  pub text_is : text ≡ answer_texts addrs answers

-- a reply that the run is done has such a text
abbrev pub IsBatchReply : Asking → ℕ → List ℕ → Reply → Type 0
IsBatchReply asking own addrs reply = reply.status ≡ statuses.Done → IsBatchText asking own addrs (text_of reply.said)

-- and its addresses are those of the input
abbrev pub IsInputReply : Asking → ℕ → List ℕ → Reply → Type 0
IsInputReply asking own input reply = reply.status ≡ statuses.Done → (addrs : List ℕ) × (addresses_in input ≡ Ok addrs) × IsBatchText asking own addrs (text_of reply.said)

-- a reply that the run is done says what some Breakpad file makes
abbrev pub IsProductReply : Product → Reply → Type 0
IsProductReply product reply = reply.status ≡ statuses.Done → MadeOfSome product (text_of reply.said)

-- the status of a reply to a command that asks for a product
abbrev pub IsProductStatus : Status → Type 0
IsProductStatus status = (status ≡ statuses.Done) ⊎ (status ≡ statuses.Refused)

-- and once a reply that the run is done is written, the run has answered, or has written the product
abbrev pub IsRunReply : Command → ℕ → List ℕ → Reply → Type 0
IsRunReply command own input reply = reply.status ≡ statuses.Done → (old : List ℕ) (new : Option (List ℕ)) → new ≡ Some (old ++ text_of reply.said) →
    IsSomeDone command input own old new ⊎ IsSomeMade command old new

-- a call has such a cause for its refusal, or something failed
abbrev pub IsSomeCauseOrFails : (Error → Type 0) → Error → Type 0
IsSomeCauseOrFails Cause errors.ReadFault = Unit {0}
IsSomeCauseOrFails Cause errors.OutOfMemory = Unit {0}
IsSomeCauseOrFails Cause e = Cause e

-- the text names a refusal by such a cause
pub record IsSomeRefusal (Cause : Error → Type 0) (text : List ℕ) : Type 0 where
  pub refusal : Error
  pub cause : Cause refusal
  pub text_is : text ≡ (refused refusal).text

-- a reply that something is refused has such a text
abbrev pub IsRefusalReply : (Error → Type 0) → Reply → Type 0
IsRefusalReply Cause reply = reply.status ≡ statuses.Refused → IsSomeRefusal Cause (text_of reply.said)

-- and of a product it names a refusal that the product may have
abbrev pub IsUnmadeReply : Product → Reply → Type 0
IsUnmadeReply product reply = reply.status ≡ statuses.Refused → (name : List ℕ) × UnmadeOfSome product name × (text_of reply.said ≡ (refused_as name).text)

-- and once such a reply is written, the run has written such a refusal
abbrev pub IsRunRefusal : Command → List ℕ → Reply → Type 0
IsRunRefusal command input reply = reply.status ≡ statuses.Refused → (old : List ℕ) (new : Option (List ℕ)) → new ≡ Some (old ++ text_of reply.said) →
    IsSomeRefused command input old new ⊎ IsSomeUnmade command old new

-- the call was answered by a reply that the run is done
abbrev pub IsDoneReply : Result Reply Error → Type 0
IsDoneReply (Ok reply) = reply.status ≡ statuses.Done
IsDoneReply (Err e) = ⊥

-- the statuses of replies to what was read of an input: a line isn't well formed, or what the lines
-- say is answered or refused
abbrev pub IsInputStatus : {A : Type 0} → Result A ℕ → Status → Type 0
IsInputStatus (Err n) status = status ≡ statuses.Input
IsInputStatus (Ok items) status = (status ≡ statuses.Done) ⊎ (status ≡ statuses.Refused)

-- a reply to what was read of an input names the line that isn't well formed, if there is one
abbrev pub IsLineReply : {A : Type 0} → Result A ℕ → Reply → Type 0
IsLineReply (Err n) reply = outcome_of reply ≡ bad_line n
IsLineReply (Ok items) reply = Unit {0}

-- and a reply that an input of such lines is bad names what is bad of it
abbrev pub IsBadReply : {A : Type 0} → (List ℕ → A → Type 0) → List ℕ → Reply → Type 0
IsBadReply Spells input reply = reply.status ≡ statuses.Input → NamesBad Spells input (text_of reply.said)

-- a reply to the command was to be made, by what it sees of the input, the world in view,
-- and the own process's id
pub record RepliesToCommand (command : Command) (left : Option (List ℕ)) (seen : Option World) (own : ℕ) (result : Result Reply Error) : Type 0 where
  -- it is the outcome of the run
  pub reply : Told left (λ text. Told seen (λ world. Replies (run_outcome command text world own) result))
  -- and whatever the files tell, answers or product are those that the run was asked for
  pub answered : Told left (λ text. IfOk result (λ given. IsRunReply command own text given))
  -- and a refusal is one that the source or the product may have
  pub refusal : Told left (λ text. IfOk result (λ given. IsRunRefusal command text given))
  pub no_failure : IfOk result (λ given. IsNoFailure given.status)
  -- status 2 is for words that give no command, and command and input alone decide on status 3
  pub usage : IfOk result (λ given. given.status ≢ statuses.Usage)
  pub input : Told left (λ text. IfOk result (λ given. (given.status ≡ statuses.Input) ↔ IsBadInput command text))
  -- and a reply of status 3 names what is bad of the input
  pub named : Told left (λ text. IfOk result (λ given. IsBadReply IsAddress text given))
