-- The texts of frames' answers that are put one behind the other.
use Rattle.std.proofs.Common.{◌≡◌, ◌≤◌, ℕ, List, [], ◌∷◌, length, drop, map, min, refl, inl, inr}
use Rattle.std.proofs.lemmas.List.{drop_all}
use Rattle.bz_store.specs.Frames.{Frame, frame_of, reading_of}
use Rattle.bz_store.specs.declared.frame.CrashFrame.{CrashFrame}
use Rattle.bz_store.specs.declared.frame.FrameAnswer.{FrameAnswer}
use Rattle.bz_canon.proofs.AnswerTextLemmas.{past_either}
use Rattle.bz_serve.specs.FrameText.{frame_texts}

no_answers : (frames : List Frame) → frame_texts frames [] ≡ []
no_answers [] = refl
no_answers (frame ∷ frames) = refl

-- behind the last frame, or the last answer, no text is left
pub texts_end : (n : ℕ) (frames : List CrashFrame) (answers : List FrameAnswer) → min (length frames) (length answers) ≤ n → frame_texts (map frame_of (drop n frames)) (map reading_of (drop n answers)) ≡ []
texts_end n frames answers past = elim (past_either (length frames) (length answers) n past) [
  | inl end ↦ rw (drop_all n frames end) refl
  | inr end ↦ rw (drop_all n answers end) (no_answers (map frame_of (drop n frames)))
]
