-- The numbers of an inline tree: one is read exactly where it lies in front of the bytes, and what is
-- left is shorter.
use Rattle.std.proofs.Common.{◌≡◌, ℕ, ◌<◌, List, [], ◌∷◌, ◌++◌, length, Some, refl, ap, arith}
use Rattle.std.proofs.lemmas.List.{length-append}
use Rattle.std.proofs.lemmas.Option.{none-some, same_Some}
use Rattle.bz_base.specs.Cursor.{IsInFront, IsWord, byte_at, word_at}
use Rattle.bz_base.specs.Leb128.{IsUleb, uleb_at}
use Rattle.bz_base.proofs.LebSpellingLemmas.{uleb_found, uleb_spelled}
use Rattle.bz_base.proofs.PieceOfBytesLemmas.{word_found, word_spelled}

-- a byte
pub byte_front : (bytes : List ℕ) (x : ℕ × List ℕ) → byte_at bytes ≡ Some x → bytes ≡ x.0 ∷ x.1
unfolding byte_at
byte_front [] x read = absurd (none-some x read)
byte_front (b ∷ bytes) x read = ap (λ (p : ℕ × List ℕ). p.0 ∷ p.1) (same_Some (b, bytes) x read)

pub byte-shorter : (bytes : List ℕ) (x : ℕ × List ℕ) → byte_at bytes ≡ Some x → length x.1 < length bytes
byte-shorter bytes x read = let whole = ap length (byte_front bytes x read) in omega arith

-- a number of four bytes
pub word_front : (bytes : List ℕ) (x : ℕ × List ℕ) → word_at 4 bytes ≡ Some x → IsInFront (IsWord 4 x.0) bytes x.1
word_front bytes x read = word_found 4 bytes x.0 x.1 read

pub word_again : (text : List ℕ) (value : ℕ) (rest : List ℕ) → IsWord 4 value text → word_at 4 (text ++ rest) ≡ Some (value, rest)
word_again text value rest is = word_spelled 4 (text ++ rest) value rest (record { text = text; whole = refl; is = is })

pub word-shorter : (bytes : List ℕ) (x : ℕ × List ℕ) → word_at 4 bytes ≡ Some x → length x.1 < length bytes
word-shorter bytes x read =
    let front = word_front bytes x read in
    let many = front.is.many in
    omega (arith, ap length front.whole, length-append front.text x.1, many)

-- a LEB128 number
pub uleb_front : (bytes : List ℕ) (x : ℕ × List ℕ) → uleb_at bytes ≡ Some x → IsInFront (IsUleb x.0) bytes x.1
uleb_front bytes x read = uleb_found bytes x.0 x.1 read

pub uleb_again : (text : List ℕ) (value : ℕ) (rest : List ℕ) → IsUleb value text → uleb_at (text ++ rest) ≡ Some (value, rest)
uleb_again text value rest is = uleb_spelled (text ++ rest) value rest (record { text = text; whole = refl; is = is })

pub uleb-shorter : (bytes : List ℕ) (x : ℕ × List ℕ) → uleb_at bytes ≡ Some x → length x.1 < length bytes
uleb-shorter bytes x read =
    let front = uleb_front bytes x read in
    let is = front.is in
    omega (arith, ap length front.whole, length-append front.text x.1, ap length is.number.whole, length-append is.front (is.last ∷ []))
