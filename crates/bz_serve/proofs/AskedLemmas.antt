-- What is read of an input of requests is what it asks for.
use Rattle.std.proofs.Common.{◌≡◌, ◌+◌, ◌<◌, ◌≤◌, ◌∙◌, ℕ, Bool, true, false, List, length, Some, Result, Ok, Err, IfOk, IsErr, IsErrOf, IsOkUnless, cond, refl, sym, ap, inl, inr, ltb}
use Rattle.std.proofs.lemmas.Bool.{le-ltb, lt-ltb, ltb-false, ltb-true}
use Rattle.bz_base.specs.declared.error.Error.{Error}
use Rattle.bz_base.specs.declared.error.Error.TheVariants as errors
use Rattle.bz_files.specs.Count.{CountsFaults}
use Rattle.bz_files.specs.World.{Told}
use Rattle.bz_files.specs.declared.text.TextIn as input_trait
use Rattle.bz_requests.proofs.LineGrammarLemmas.{first_bad_again, first_bad_found}
use Rattle.bz_requests.specs.Lines.{HasBadLine}
use Rattle.bz_requests.proofs.RequestLemmas.{request_agrees}
use Rattle.bz_requests.specs.Requests.{IsRequest, Request, request_in, requests_in}
use Rattle.bz_symq.proofs.FaultLemmas.{counts_as, counts_still, no_fault}
use Rattle.bz_requests.proofs.InputTextLemmas.{asks_from_read, bad_from_read}
use Rattle.bz_requests.specs.InputText.{AsksFor, IsBadInput, IsReadWhole, MovesAtMost, greatest_input, left_over}
use Rattle.bz_symq.specs.Outcome.{Outcome, NamesBad, bad_line, too_long}
use Rattle.bz_symq.specs.Reply.{RepliesUnread}
use Rattle.bz_requests.specs.declared.input.ReadStop.{ReadStop}
use Rattle.bz_requests.specs.declared.input.ReadStop.TheVariants as stops
use Rattle.bz_symq.specs.declared.reply.Reply.{Reply}
use Rattle.bz_serve.specs.Asked.{asked_in, asked_of, or_bad_line}
use Rattle.bz_serve.specs.Requests.{HasInputStatus, ReadsRequests}
use Rattle.bz_serve.specs.declared.input.Asked.{Asked}
use Rattle.bz_serve.specs.declared.input.Asked.TheVariants as askeds

named_ok : (read : Result (List Request) ℕ) (requests : List Request) → or_bad_line read ≡ Ok requests → read ≡ Ok requests
named_ok (Ok all) requests is = cc
named_ok (Err n) requests is = cc

named_err : (read : Result (List Request) ℕ) (bad : Outcome) → or_bad_line read ≡ Err bad → IsErr read
named_err (Ok all) bad is = cc
named_err (Err n) bad is = refl

-- what an input comes to by whether it is too long
abbrev asked_by : List ℕ → Bool → Result (List Request) Outcome
asked_by text long = cond long (Err too_long) (or_bad_line (requests_in text))

found_by : (text : List ℕ) (requests : List Request) (long : Bool) → ltb greatest_input (length text) ≡ long → asked_by text long ≡ Ok requests → AsksFor IsRequest text requests
found_by text requests true is asked = cc
found_by text requests false is asked = asks_from_read request_in IsRequest request_agrees text (ltb-false _ _ is) requests (named_ok (requests_in text) requests asked)

-- requests that are read of an input are those that it asks for
pub asked_found : (text : List ℕ) (requests : List Request) → asked_in text ≡ Ok requests → AsksFor IsRequest text requests
asked_found text requests asked = found_by text requests (ltb greatest_input (length text)) refl asked

bad_by : (text : List ℕ) (bad : Outcome) (long : Bool) → ltb greatest_input (length text) ≡ long → asked_by text long ≡ Err bad → IsBadInput IsRequest text
bad_by text bad true is asked = inl (ltb-true _ _ is)
bad_by text bad false is asked = bad_from_read request_in IsRequest request_agrees text (requests_in text) refl (named_err (requests_in text) bad asked)

-- an input of which none are read is a bad one
pub bad_found : (text : List ℕ) (bad : Outcome) → asked_in text ≡ Err bad → IsBadInput IsRequest text
bad_found text bad asked = bad_by text bad (ltb greatest_input (length text)) refl asked

names_read : (text : List ℕ) (bad : Outcome) → length text ≤ greatest_input → (read : Result (List Request) ℕ) → requests_in text ≡ read → or_bad_line read ≡ Err bad → NamesBad IsRequest text bad.text
names_read text bad short (Ok requests) is asked = cc
names_read text bad short (Err n) is asked =
    let same : bad_line n ≡ bad = cc asked in
    inr (short, (n, first_bad_found request_in IsRequest request_agrees text n is, ap (λ (o : Outcome). o.text) (sym same)))

names_by : (text : List ℕ) (bad : Outcome) (long : Bool) → ltb greatest_input (length text) ≡ long → asked_by text long ≡ Err bad → NamesBad IsRequest text bad.text
names_by text bad true is asked =
    let same : too_long ≡ bad = cc asked in
    inl (ltb-true _ _ is, ap (λ (o : Outcome). o.text) (sym same))
names_by text bad false is asked = names_read text bad (ltb-false _ _ is) (requests_in text) refl asked

-- and what comes of it names what is bad of it
pub bad_named : (text : List ℕ) (bad : Outcome) → asked_in text ≡ Err bad → NamesBad IsRequest text bad.text
bad_named text bad asked = names_by text bad (ltb greatest_input (length text)) refl asked

bad_line_again : (text : List ℕ) → HasBadLine IsRequest text → (long : Bool) → IsErr (asked_by text long)
bad_line_again text bad true = refl
bad_line_again text (n, bad) false = rw (first_bad_again request_in IsRequest request_agrees text n bad) refl

-- and of a bad input none are
pub bad_again : (text : List ℕ) → IsBadInput IsRequest text → IsErr (asked_in text)
bad_again text (inl long) = rw (lt-ltb _ _ long) refl
bad_again text (inr bad) = bad_line_again text bad (ltb greatest_input (length text))

-- what the lines of an input ask for is what the input does, if it isn't too long
asked_whole : (text whole : List ℕ) → length text ≤ greatest_input → text ≡ whole → or_bad_line (requests_in text) ≡ asked_in whole
asked_whole text whole short same = rw (← same, le-ltb _ _ short) refl

-- a reply to a bad input is what is asked for
abbrev pub bad_asked : Result Reply Error → Result Asked Error
bad_asked (Ok reply) = Ok (askeds.Bad reply)
bad_asked (Err e) = Err e

-- what an input that wasn't read to its end asks for
pub stopped_asked : {R A : Type 0} (reads : input_trait.Ghosts R) (stop : ReadStop) (result : Result Reply Error) (before after : R) → RepliesUnread stop result →
    Told (reads.left before) (λ text. IsErrOf {T = A} (Err stop) stops.TooLong → greatest_input < length text) →
    Told (reads.left before) (λ text. IsErrOf {T = A} (Err stop) stops.TooLong → reads.left after ≡ Some (left_over text)) →
    MovesAtMost (greatest_input + 1) (reads.left before) (reads.left after) → CountsFaults (reads.faults before) (reads.faults after) (IsErrOf {T = A} (Err stop) stops.Fault) →
    ReadsRequests reads (bad_asked result) before after
stopped_asked reads stops.TooLong (Ok reply) before after is long past bounded counts = record {
  asked = λ text left. rw (lt-ltb _ _ (long text left refl)) (ap Err is);
  status = ap (λ (o : Outcome). o.status) is;
  read = λ text left. past text left refl;
  bounded = bounded;
  counts = counts_still _ _ _ (λ never. never) (no_fault _ _ _ (λ fault. cc) counts);
}
stopped_asked reads stops.TooLong (Err e) before after is long past bounded counts = absurd is
stopped_asked reads stops.Fault result before after is long past bounded counts =
    rw is (record { asked = λ text left. tt; status = tt; read = tt; bounded = bounded; counts = counts_as _ _ (λ _. refl) (λ _. refl) counts })
stopped_asked reads stops.Memory result before after is long past bounded counts =
    rw is (record { asked = λ text left. tt; status = tt; read = tt; bounded = bounded; counts = counts_as _ _ (λ fault. cc) (λ other. cc) counts })

module _ {R : Type 0} (reads : input_trait.Ghosts R) (text : List ℕ) where
  pub lines_asked : (result : Result Asked Error) (before after : R) → length text ≤ greatest_input → Told (reads.left before) (λ whole. text ≡ whole) →
      IfOk result (λ given. asked_of given ≡ or_bad_line (requests_in text)) → IfOk result HasInputStatus → IsOkUnless result errors.OutOfMemory →
      IsReadWhole (reads.left before) (reads.left after) → MovesAtMost (greatest_input + 1) (reads.left before) (reads.left after) → reads.faults after ≡ reads.faults before →
      ReadsRequests reads result before after
  lines_asked (Ok given) before after short whole asked status memory read bounded steady = record {
    asked = λ all left. asked ∙ asked_whole text all short (whole all left);
    status = status;
    read = read;
    bounded = bounded;
    counts = counts_still _ _ _ (λ never. never) steady;
  }
  lines_asked (Err e) before after short whole asked status memory read bounded steady = record {
    asked = λ all left. tt;
    status = tt;
    read = tt;
    bounded = bounded;
    counts = counts_still _ _ _ (λ fault. cc) steady;
  }
