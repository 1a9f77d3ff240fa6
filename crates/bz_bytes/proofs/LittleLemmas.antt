-- What is read of bytes that lie there is the number at that place.
use Rattle.std.proofs.Common.{◌≡◌, ℕ, ◌+◌, ◌-◌, ◌*◌, ◌≤◌, List, [], ◌∷◌, length, take, drop, Option, Some, None, refl, ap, ◌∙◌, arith}
use Rattle.std.specs.Option.{IsSome}
use Rattle.std.proofs.lemmas.Bool.{le-leb}
use Rattle.std.proofs.lemmas.List.{length-drop, take_rest}
use Rattle.std.proofs.lemmas.Option.{none-some, same_Some}
use Rattle.bz_bytes.specs.Cursor.{little, with_rest, slice_at, word_at, byte_at}
use Rattle.bz_bytes.specs.Little.{number_at}

-- a number that is read with what is left is that number
first_of : (o : Option ℕ) (rest : List ℕ) (x : ℕ × List ℕ) → with_rest o rest ≡ Some x → o ≡ Some x.0
first_of None rest x is = absurd (none-some x is)
first_of (Some n) rest x is = ap (λ (p : ℕ × List ℕ). Some p.0) (same_Some (n, rest) x is)

word_there : (width : ℕ) (bytes : List ℕ) (place : ℕ) → place + width ≤ length bytes →
    word_at width (drop place bytes) ≡ Some (number_at width bytes place, drop width (drop place bytes))
unfolding word_at slice_at number_at
word_there width bytes place within =
    let enough : width ≤ length (drop place bytes) = omega (arith, length-drop place bytes) in
    rw (le-leb width (length (drop place bytes)) enough) refl

-- a byte is a number of one byte
byte_found : (bytes : List ℕ) → 1 ≤ length bytes → byte_at bytes ≡ Some (little (take 1 bytes), drop 1 bytes)
unfolding byte_at
byte_found [] some = absurd (omega arith)
byte_found (b ∷ bytes) some = let e : b ≡ b + 256 * 0 = omega arith in ap (λ (n : ℕ). Some (n, bytes)) e

byte_there : (bytes : List ℕ) (place : ℕ) → place + 1 ≤ length bytes →
    byte_at (drop place bytes) ≡ Some (number_at 1 bytes place, drop 1 (drop place bytes))
unfolding number_at
byte_there bytes place within = byte_found (drop place bytes) (omega (arith, length-drop place bytes))

module _ (bytes : List ℕ) (place : ℕ) (o : Option ℕ) (rest left : List ℕ) (from : left ≡ take (length bytes - place) (drop place bytes)) where
  -- a number that is read of the bytes from a place on
  pub word_read : (width : ℕ) → place + width ≤ length bytes → with_rest o rest ≡ word_at width left → o ≡ Some (number_at width bytes place)
  word_read width within read =
      first_of o rest _ (read ∙ ap (word_at width) (from ∙ take_rest bytes place) ∙ word_there width bytes place within)

  -- a byte that is read there
  pub byte_read : place + 1 ≤ length bytes → with_rest o rest ≡ byte_at left → o ≡ Some (number_at 1 bytes place)
  byte_read within read = first_of o rest _ (read ∙ ap byte_at (from ∙ take_rest bytes place) ∙ byte_there bytes place within)

-- what is a number is there
pub is_some : (o : Option ℕ) (n : ℕ) → o ≡ Some n → IsSome o
is_some None n is = absurd (none-some n is)
is_some (Some m) n is = refl
