-- Frames that stand each after a semicolon are the path, but for the first semicolon.
use Rattle.std.proofs.Common.{◌≡◌, ℕ, List, [], ◌∷◌, ◌++◌, refl, sym, ap, ◌∙◌}
use Rattle.std.specs.Prelude.{drop, flat_map}
use Rattle.std.specs.List.{join_with_byte}
use Rattle.bz_base.specs.Answer.{Answer}
use Rattle.bz_stacks.specs.Path.{frames_of, path_of, semicolon}
use Rattle.bz_stacks.specs.Led.{led_by, led_frames}

nothing_behind : (l : List ℕ) → l ++ [] ≡ l
nothing_behind [] = refl
nothing_behind (x ∷ l) = ap (λ m. x ∷ m) (nothing_behind l)

behind_both : (a b c : List ℕ) → (a ++ b) ++ c ≡ a ++ (b ++ c)
behind_both [] b c = refl
behind_both (x ∷ a) b c = ap (λ m. x ∷ m) (behind_both a b c)

-- frames behind frames
led_behind : (one two : List (List ℕ)) → led_frames (one ++ two) ≡ led_frames one ++ led_frames two
led_behind [] two = refl
led_behind (frame ∷ one) two = ap (λ l. (semicolon ∷ frame) ++ l) (led_behind one two) ∙ sym (behind_both (semicolon ∷ frame) (led_frames one) (led_frames two))

-- the frames of answers are those of each
led_all : (answers : List Answer) → led_by answers ≡ led_frames (flat_map frames_of answers)
led_all [] = refl
led_all (answer ∷ answers) = ap (λ l. led_frames (frames_of answer) ++ l) (led_all answers) ∙ sym (led_behind (frames_of answer) (flat_map frames_of answers))

-- a frame and those after it, joined
joined_from : (frame : List ℕ) (frames : List (List ℕ)) → frame ++ led_frames frames ≡ join_with_byte semicolon (frame ∷ frames)
joined_from frame [] = nothing_behind frame
joined_from frame (next ∷ frames) = ap (λ l. frame ++ (semicolon ∷ l)) (joined_from next frames)

joined : (frames : List (List ℕ)) → drop 1 (led_frames frames) ≡ join_with_byte semicolon frames
joined [] = refl
joined (frame ∷ frames) = joined_from frame frames

-- without the first semicolon they are the path
pub led_path : (answers : List Answer) → drop 1 (led_by answers) ≡ path_of answers
led_path answers = ap (drop 1) (led_all answers) ∙ joined (flat_map frames_of answers)
