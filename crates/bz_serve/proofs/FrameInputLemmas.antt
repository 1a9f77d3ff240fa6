-- What an input of frames asks for, when it is bad, and what a run over it comes to.
use Rattle.std.proofs.Common.{◌≡◌, ◌⊎◌, ◌↔◌, ◌≤◌, ◌<◌, ℕ, Bool, true, false, List, length, Option, Result, Ok, Err, cond, refl, sym, ap, ◌∙◌, inl, inr, ltb}
use Rattle.std.proofs.lemmas.Bool.{false≢true, le-ltb, lt-ltb, ltb-false}
use Rattle.bz_base.specs.declared.types.FindSymOpts.{FindSymOpts}
use Rattle.bz_files.specs.World.{World}
use Rattle.bz_requests.proofs.LineGrammarLemmas.{first_bad_found}
use Rattle.bz_store.specs.Frames.{Frame}
use Rattle.bz_requests.proofs.InputTextLemmas.{asks_from_read, err_from_bad}
use Rattle.bz_requests.specs.InputText.{IsBadInput, greatest_input}
use Rattle.bz_symq.specs.Outcome.{Outcome, NamesBad, too_long}
use Rattle.bz_symq.specs.Reply.{text_of}
use Rattle.bz_symq.specs.Run.{Ends}
use Rattle.bz_symq.specs.declared.reply.Reply.{Reply}
use Rattle.bz_symq.specs.declared.status.Status.{Status}
use Rattle.bz_symq.specs.declared.status.Status.TheVariants as statuses
use Rattle.bz_serve.proofs.FrameLemmas.{frame_agrees}
use Rattle.bz_serve.specs.FrameLines.{IsFrame, frame_in, frames_in}
use Rattle.bz_serve.specs.FrameReply.{IsFrameStatus, IsFramesReply, by_frames}
use Rattle.bz_serve.specs.FrameRun.{AreAnswered, frames_outcome}
use Rattle.bz_serve.specs.FrameTurns.{IsRunReply}

module _ (text : List ℕ) (short : length text ≤ greatest_input) where
  -- what is read decides on the status
  pub status_read : (asked : Result (List Frame) ℕ) → frames_in text ≡ asked → (status : Status) → IsFrameStatus asked status → (status ≡ statuses.Input) ↔ IsBadInput IsFrame text
  status_read (Ok frames) is status done = (
    λ input. let both : statuses.Done ≡ statuses.Input = sym done ∙ input in cc,
    λ bad. absurd (false≢true (rw is at (err_from_bad frame_in IsFrame frame_agrees text short bad))),
  )
  status_read (Err n) is status input = (λ _. inr (n, first_bad_found frame_in IsFrame frame_agrees text n is), λ _. input)

  -- and a reply to what is read to the input
  pub reply_read : (root : List ℕ) (opts : FindSymOpts) (asked : Result (List Frame) ℕ) (opens_before opens_after : ℕ) → frames_in text ≡ asked → (reply : Reply) → IsFrameStatus asked reply.status →
      IsFramesReply root opts asked opens_before opens_after reply → reply.status ≡ statuses.Done → IsRunReply root opts text (text_of reply.said) opens_before opens_after
  reply_read root opts (Ok frames) opens_before opens_after is reply status (readings, are, said) done = record {
    frames = frames;
    readings = readings;
    asks = asks_from_read frame_in IsFrame frame_agrees text short frames is;
    readings_are = are;
    said_is = said;
  }
  reply_read root opts (Err n) opens_before opens_after is reply status named done = let never : statuses.Input ≡ statuses.Done = sym status ∙ done in cc

  -- which names the line that is bad
  pub bad_read : (root : List ℕ) (opts : FindSymOpts) (asked : Result (List Frame) ℕ) (opens_before opens_after : ℕ) → frames_in text ≡ asked → (reply : Reply) → IsFrameStatus asked reply.status →
      IsFramesReply root opts asked opens_before opens_after reply → reply.status ≡ statuses.Input → NamesBad IsFrame text (text_of reply.said)
  bad_read root opts (Ok frames) opens_before opens_after is reply status found input = let never : statuses.Done ≡ statuses.Input = sym status ∙ input in cc
  bad_read root opts (Err n) opens_before opens_after is reply status named input =
      inr (short, (n, first_bad_found frame_in IsFrame frame_agrees text n is, ap (λ (o : Outcome). o.text) named))

-- a run that gives a reply is done, or its input is bad
pub either_status : (asked : Result (List Frame) ℕ) (status : Status) → IsFrameStatus asked status → (status ≡ statuses.Input) ⊎ (status ≡ statuses.Done)
either_status (Ok frames) status done = inr done
either_status (Err n) status input = inl input

module _ (world : World) (root : List ℕ) (opts : FindSymOpts) where
  -- an input that isn't too long comes to what its lines do
  pub outcome_short : (text whole : List ℕ) → length text ≤ greatest_input → text ≡ whole → by_frames world root opts (frames_in text) ≡ frames_outcome world root opts whole
  outcome_short text whole short same = rw (← same, le-ltb _ _ short) refl

  pub outcome_long : (text : List ℕ) → greatest_input < length text → too_long ≡ frames_outcome world root opts text
  outcome_long text long = rw (lt-ltb _ _ long) refl

  answered_by : (text old : List ℕ) (new : Option (List ℕ)) → length text ≤ greatest_input → (asked : Result (List Frame) ℕ) → frames_in text ≡ asked →
      Ends (by_frames world root opts asked) old statuses.Done new → AreAnswered world root opts text old new
  answered_by text old new short (Ok frames) is ends = record {
    frames = frames;
    asks = asks_from_read frame_in IsFrame frame_agrees text short frames is;
    written = ends.1;
  }
  answered_by text old new short (Err n) is ends = let never : statuses.Input ≡ statuses.Done = ends.0 in cc

  answered_of : (text old : List ℕ) (new : Option (List ℕ)) (long : Bool) → ltb greatest_input (length text) ≡ long → Ends (cond long too_long (by_frames world root opts (frames_in text))) old statuses.Done new →
      AreAnswered world root opts text old new
  answered_of text old new true is ends = let never : statuses.Input ≡ statuses.Done = ends.0 in cc
  answered_of text old new false is ends = answered_by text old new (ltb-false _ _ is) (frames_in text) refl ends

  -- a run that is done has answered the frames
  pub answered_from_ends : (text old : List ℕ) (new : Option (List ℕ)) → Ends (frames_outcome world root opts text) old statuses.Done new → AreAnswered world root opts text old new
  answered_from_ends text old new ends = answered_of text old new (ltb greatest_input (length text)) refl ends
