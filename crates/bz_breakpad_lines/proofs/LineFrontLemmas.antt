-- The line at the front of a text.
use Rattle.std.proofs.Common.{◌≡◌, ℕ, suc, ◌+◌, not, List, [], ◌∷◌, ◌++◌, nat_eq, refl, ap, arith}
use Rattle.std.specs.List.{list_any, prefix_len}
use Rattle.std.proofs.lemmas.Bool.{or_parts}
use Rattle.bz_base.specs.Byte.{line_feed, HasNo}
use Rattle.bz_base.specs.Line.{ended}
use Rattle.bz_breakpad_lines.specs.Line.{line_front}

-- a line without line feed is the front of a text that begins with it and its end
pub line_front_of : (line after : List ℕ) → HasNo line_feed line → line_front (ended line ++ after) ≡ line
line_front_of [] after none = refl
line_front_of (b ∷ line) after none =
    let parts = or_parts (nat_eq b line_feed) (list_any (λ c. nat_eq c line_feed) line) none in
    let n = prefix_len (λ c. not (nat_eq c line_feed)) (ended line ++ after) in
    let more : 1 + n ≡ suc n = omega arith in
    rw (parts.0, more) (ap (λ rest. b ∷ rest) (line_front_of line after parts.1))
