-- The text of a frame's answer: the frame's module and id, and the answer at its offset.
use Rattle.std.specs.Prelude.{ℕ, List, [], ◌∷◌, ◌++◌, codes}
use Rattle.bz_store.specs.Frames.{Key, Frame, FrameReading, Known, BadName, NoFile, Denied, BadFile}
use Rattle.bz_canon.specs.AnswerText.{answer_text, hex}

-- MODULE ID, and a space
abbrev pub file_text : Key → List ℕ
file_text file = file.0 ++ (codes " " ++ (file.1 ++ codes " "))

-- 0xOFFSET: ? REASON
abbrev pub unknown_text : ℕ → List ℕ → List ℕ
unknown_text offset reason = hex offset ++ (codes ": ? " ++ (reason ++ codes "\n"))

-- the answer at an offset, or why there is none
abbrev pub reply_text : ℕ → FrameReading → List ℕ
reply_text offset (Known answer) = answer_text offset answer
reply_text offset BadName = unknown_text offset (codes "bad name")
reply_text offset NoFile = unknown_text offset (codes "no symbol file")
reply_text offset Denied = unknown_text offset (codes "access denied")
reply_text offset BadFile = unknown_text offset (codes "bad symbol file")

abbrev pub frame_text : Frame → FrameReading → List ℕ
frame_text frame reading = file_text frame.file ++ reply_text frame.offset reading

-- the texts of the answers to the frames, one after the other
abbrev pub frame_texts : List Frame → List FrameReading → List ℕ
frame_texts [] readings = []
frame_texts (frame ∷ frames) [] = []
frame_texts (frame ∷ frames) (reading ∷ readings) = frame_text frame reading ++ frame_texts frames readings
