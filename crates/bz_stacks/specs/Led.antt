-- Frames as they are put one behind the other: each after a semicolon.
use Rattle.std.specs.Prelude.{ℕ, List, ◌∷◌, flat_map}
use Rattle.bz_base.specs.Answer.{Answer}
use Rattle.bz_stacks.specs.Path.{frames_of, semicolon}

abbrev pub led_frames : List (List ℕ) → List ℕ
led_frames frames = flat_map (λ frame. semicolon ∷ frame) frames

-- the frames of an answer
abbrev pub led_answer : Answer → List ℕ
led_answer answer = led_frames (frames_of answer)

-- the frames of answers
abbrev pub led_by : List Answer → List ℕ
led_by answers = flat_map led_answer answers
