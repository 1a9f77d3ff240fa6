-- What is answered where an input wasn't read to its end.
use Rattle.std.proofs.Common.{◌≡◌, ℕ, List, Option, Some, Result, Ok, Err, IfOk, IsErrOf, refl, ap}
use Rattle.bz_base.specs.declared.error.Error.{Error}
use Rattle.bz_files.specs.Count.{CountsFaults}
use Rattle.bz_files.specs.Looked.{Faulted}
use Rattle.bz_files.specs.World.{Told}
use Rattle.bz_requests.specs.InputText.{IsReadWhole, left_over}
use Rattle.bz_symq.specs.Outcome.{Outcome, too_long}
use Rattle.bz_symq.specs.Reply.{IsDoneReply, RepliesUnread, outcome_of}
use Rattle.bz_requests.specs.declared.input.ReadStop.{ReadStop}
use Rattle.bz_requests.specs.declared.input.ReadStop.TheVariants as stops
use Rattle.bz_symq.specs.declared.reply.Reply.{Reply}
use Rattle.bz_symq.specs.declared.status.Status.TheVariants as statuses
use Rattle.bz_symq.proofs.FaultLemmas.{counts_as}

-- a run whose input is too long isn't done
pub never_done : (reply : Reply) → outcome_of reply ≡ too_long → reply.status ≡ statuses.Done → ⊥
never_done reply long done = let status : reply.status ≡ statuses.Input = ap (λ (o : Outcome). o.status) long in cc

-- nor is one whose input wasn't read for another reason
pub unread_undone : (stop : ReadStop) (result : Result Reply Error) → RepliesUnread stop result → IsDoneReply result → ⊥
unread_undone stops.TooLong (Ok reply) is done = never_done reply is done
unread_undone stops.TooLong (Err e) is done = is
unread_undone stops.Fault result is done = rw is at done
unread_undone stops.Memory result is done = rw is at done

-- a reply that is given is to an input that is too long, of which one byte more was read
pub unread_whole : {A : Type 0} (stop : ReadStop) (result : Result Reply Error) (before after : Option (List ℕ)) → RepliesUnread stop result →
    Told before (λ text. IsErrOf {T = A} (Err stop) stops.TooLong → after ≡ Some (left_over text)) → IfOk result (λ given. IsReadWhole before after)
unread_whole stops.TooLong (Ok reply) before after is past = λ text told. past text told refl
unread_whole stops.TooLong (Err e) before after is past = tt
unread_whole stops.Fault result before after is past = rw is tt
unread_whole stops.Memory result before after is past = rw is tt

-- a fault is answered exactly where reading failed
pub unread_counts : {A : Type 0} (stop : ReadStop) (result : Result Reply Error) (before after : ℕ) → RepliesUnread stop result →
    CountsFaults before after (IsErrOf {T = A} (Err stop) stops.Fault) → CountsFaults before after (Faulted result)
unread_counts stops.TooLong (Ok reply) before after is counts = counts_as before after (λ fault. cc) (λ never. absurd never) counts
unread_counts stops.TooLong (Err e) before after is counts = absurd is
unread_counts stops.Fault result before after is counts = rw is (counts_as before after (λ _. refl) (λ _. refl) counts)
unread_counts stops.Memory result before after is counts = rw is (counts_as before after (λ fault. cc) (λ other. cc) counts)
