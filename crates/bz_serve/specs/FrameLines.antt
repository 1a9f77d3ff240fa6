-- The frames of a crash as lines spell them: a module's name, the module's id and an offset, with one
-- space between each two.
use Rattle.std.specs.Prelude.{ℕ, List, [], ◌∷◌, Option, Some, None, Result, option_map, option_and_then, if◌then◌else◌}
use Rattle.std.specs.Str.{IsUtf8, is_utf8}
use Rattle.bz_requests.specs.Addresses.{IsAddress, address_in}
use Rattle.bz_requests.specs.Fields.{AreFields, fields}
use Rattle.bz_requests.specs.Lines.{AreItems, items_in}
use Rattle.bz_store.specs.Frames.{Frame, frame_of}
use Rattle.bz_serve.specs.declared.frames.reading.FrameLine.{FrameLine}

-- a text is a frame, `MODULE ID ADDR`: the first two are UTF-8 text that may be empty, and the third
-- spells the offset
pub record IsFrame (text : List ℕ) (frame : Frame) : Type 0 where
  pub addr : List ℕ
  pub are_fields : AreFields text (frame.file.0 ∷ frame.file.1 ∷ addr ∷ [])
  pub name_is_text : IsUtf8 frame.file.0
  pub id_is_text : IsUtf8 frame.file.1
  pub offset : IsAddress addr frame.offset

-- the frames are those that the lines of the text say, in order
abbrev pub AreFrames : List ℕ → List Frame → Type 0
AreFrames text frames = AreItems IsFrame text frames

-- What is read of a line, by its fields. That it is what the line spells is a law of this crate.

-- the field, where it is UTF-8 text
abbrev pub text_in : List ℕ → Option (List ℕ)
text_in field = if is_utf8 field then Some field else None

-- a frame of a module's name and id, at an offset
abbrev pub frame_at : List ℕ → List ℕ → ℕ → Frame
frame_at name id offset = record { file = (name, id); offset = offset }

abbrev pub frame_by : List (List ℕ) → Option Frame
frame_by (name ∷ id ∷ addr ∷ []) =
    option_and_then (λ name. option_and_then (λ id. option_map (frame_at name id) (address_in addr)) (text_in id)) (text_in name)
frame_by _ = None

-- the frame that the text spells
unfoldable pub frame_in : List ℕ → Option Frame
frame_in text = frame_by (fields text)

-- the frames of the text, or the number of its first bad line
abbrev pub frames_in : List ℕ → Result (List Frame) ℕ
frames_in text = items_in frame_in text

-- the frame that a line of the code says
abbrev pub frame_of_line : FrameLine → Frame
frame_of_line line = frame_of line.frame
