-- The path of a stack: the frames that its addresses are answered, the outermost first.
use Rattle.std.specs.Prelude.{ℕ, ◌==◌, ◌||◌, Bool, if◌then◌else◌, List, [], ◌∷◌, map, flat_map, codes}
use Rattle.std.specs.List.{join_with_byte}
use Rattle.bz_base.specs.Answer.{Answer}
use Rattle.bz_base.specs.Answer.Answer.{Known, Unknown}
use Rattle.bz_base.specs.Byte.{carriage_return, line_feed}

-- the byte between two frames
abbrev pub semicolon : ℕ
semicolon = 59

abbrev pub colon : ℕ
colon = 58

-- the byte would end a frame or a line
abbrev pub ends_frame : ℕ → Bool
ends_frame b = b == semicolon || (b == carriage_return || b == line_feed)

-- a byte of a name as it stands in a frame
abbrev pub frame_byte : ℕ → ℕ
frame_byte b = if ends_frame b then colon else b

-- a name as a frame
abbrev pub frame : List ℕ → List ℕ
frame name = map frame_byte name

-- the frames of an answer: its name, and the names of the calls that were inlined there
abbrev pub frames_of : Answer → List (List ℕ)
frames_of (Known symbol) = frame symbol.name ∷ map (λ call. frame call.name) symbol.calls
frames_of (Unknown reason) = codes "[unknown]" ∷ []

-- the path of a stack with these answers: all its frames with a semicolon between each two
abbrev pub path_of : List Answer → List ℕ
path_of answers = join_with_byte semicolon (flat_map frames_of answers)
