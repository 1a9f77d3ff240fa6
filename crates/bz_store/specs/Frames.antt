-- The frames of a crash, the paths of their symbol files in a symbol store, and what is answered for
-- them. A store is laid out as Breakpad's tools look for files (Breakpad, docs/linux_starter_guide.md):
-- MODULE/ID/MODULE.sym below its root.
use Rattle.std.specs.Prelude.{ℕ, Bool, ◌||◌, ◌&&◌, ◌==◌, not, nat_eq, List, [], ◌∷◌, ◌++◌, string_bytes, codes, length}
use Rattle.std.specs.List.{list_any}
use Rattle.std.specs.Cmp.Lexicographic.{pointwise}
use Rattle.bz_base.specs.Answer.{Answer, reading}
use Rattle.bz_base.specs.Byte.{zero_byte}
use Rattle.bz_base.specs.Path.{slash, dot}
use Rattle.bz_store.specs.declared.frame.CrashFrame.{CrashFrame}
use Rattle.bz_store.specs.declared.frame.FileKey.{FileKey}
use Rattle.bz_store.specs.declared.frame.FrameAnswer.{FrameAnswer}
use Rattle.bz_store.specs.declared.frame.FrameAnswer.TheVariants as answers

-- a symbol file by the name of its module and the module's id
abbrev pub Key : Type 0
Key = List ℕ × List ℕ

-- two keys name one file
abbrev pub key_eq : Key → Key → Bool
key_eq a b = pointwise nat_eq a.0 b.0 && pointwise nat_eq a.1 b.1

-- an offset in a module
pub record Frame : Type 0 where
  pub file : Key
  pub offset : ℕ

abbrev pub key_of : FileKey → Key
key_of key = (string_bytes key.name, string_bytes key.id)

abbrev pub frame_of : CrashFrame → Frame
frame_of frame = record { file = key_of frame.key; offset = frame.offset }

-- the frame is one of the file
abbrev pub is_of : Key → CrashFrame → Bool
is_of key frame = key_eq (key_of frame.key) key

-- a folder can have the name: it isn't empty, and names neither the folder itself nor the one above. No
-- slash and no zero byte stands in it
abbrev pub is_good_name : List ℕ → Bool
is_good_name name = not ((length name == 0) || (pointwise nat_eq name (dot ∷ []) || (pointwise nat_eq name (dot ∷ dot ∷ []) || (list_any (λ byte. byte == slash) name || list_any (λ byte. byte == zero_byte) name))))

-- the module's name and its id are both such names
abbrev pub is_good : Key → Bool
is_good key = is_good_name key.0 && is_good_name key.1

-- where the symbol file lies, in a store at the root
abbrev pub symbol_path : List ℕ → Key → List ℕ
symbol_path root key = root ++ slash ∷ key.0 ++ slash ∷ key.1 ++ slash ∷ key.0 ++ codes ".sym"

-- what is answered for a frame, as plain data
pub data FrameReading : Type 0 where
  Known : Answer → FrameReading
  BadName : FrameReading
  NoFile : FrameReading
  Denied : FrameReading
  BadFile : FrameReading

abbrev pub reading_of : FrameAnswer → FrameReading
reading_of (answers.Known answer) = Known (reading answer)
reading_of answers.BadName = BadName
reading_of answers.NoFile = NoFile
reading_of answers.Denied = Denied
reading_of answers.BadFile = BadFile
