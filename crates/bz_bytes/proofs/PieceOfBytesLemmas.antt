-- A piece that is read lies in front, and one that lies there is read.
use Rattle.std.proofs.Common.{◌≡◌, ℕ, suc, ◌+◌, ◌*◌, ◌^◌, true, false, List, [], ◌∷◌, ◌++◌, length, take, drop, Bool, cond, Option, Some, None, option_map, nat_eq, nat_le, refl, sym, ap, subst, ◌∙◌, arith, append_assoc}
use Rattle.std.proofs.lemmas.Bool.{le-leb, leb-true, eqb-true, or_from}
use Rattle.std.proofs.lemmas.List.{length-take-le, take-append-drop, take_at, drop_at, length-append}
use Rattle.std.proofs.lemmas.Option.{none-some, same_Some}
use Rattle.std.proofs.Math.Nat.{mul-add, mul_assoc, mul_comm, pow-suc}
use Rattle.bz_bytes.specs.Byte.{zero_byte, HasNo}
use Rattle.bz_bytes.specs.Cursor.{with_first, slice_at, little, word_at, cstr_at, padding, IsInFront, bytes_sum, IsSlice, IsWord, IsCstr, IsNextAligned}
use Rattle.bz_bytes.proofs.CursorLemmas.{cstr_again}

pub map_some : {A B : Type 0} (f : A → B) (o : Option A) (y : B) → option_map f o ≡ Some y → (x : A) × (o ≡ Some x) × (f x ≡ y)
map_some f None y read = absurd (none-some y read)
map_some f (Some x) y read = (x, refl, same_Some (f x) y read)

-- Slices.

slice_tested : (count : ℕ) (bytes : List ℕ) (enough : Bool) → nat_le count (length bytes) ≡ enough → (cut : List ℕ × List ℕ) →
    cond enough (Some (take count bytes, drop count bytes)) None ≡ Some cut → (length cut.0 ≡ count) × (bytes ≡ cut.0 ++ cut.1)
slice_tested count bytes false test cut read = absurd (none-some cut read)
slice_tested count bytes true test cut read =
    let same = same_Some (take count bytes, drop count bytes) cut read in
    let fits = leb-true count (length bytes) test in (
      ap (λ (c : List ℕ × List ℕ). length c.0) (sym same) ∙ length-take-le count bytes fits,
      sym (take-append-drop count bytes) ∙ ap (λ (c : List ℕ × List ℕ). c.0 ++ c.1) same,
    )

pub slice_parts : (count : ℕ) (bytes : List ℕ) (cut : List ℕ × List ℕ) → slice_at count bytes ≡ Some cut →
    (length cut.0 ≡ count) × (bytes ≡ cut.0 ++ cut.1)
unfolding slice_at
slice_parts count bytes cut read = slice_tested count bytes (nat_le count (length bytes)) refl cut read

pub slice_again : (count : ℕ) (text rest : List ℕ) → length text ≡ count → slice_at count (text ++ rest) ≡ Some (text, rest)
unfolding slice_at
slice_again count text rest many =
    rw (le-leb count (length (text ++ rest)) (omega (arith, length-append text rest)), take_at text rest count many, drop_at text rest count many) refl

pub slice_found : (count : ℕ) (bytes slice rest : List ℕ) → slice_at count bytes ≡ Some (slice, rest) → IsInFront (IsSlice count slice) bytes rest
slice_found count bytes slice rest read =
    let parts = slice_parts count bytes (slice, rest) read in
    record { text = slice; whole = parts.1; is = record { many = parts.0; same = refl } }

pub slice_spelled : (count : ℕ) (bytes slice rest : List ℕ) → IsInFront (IsSlice count slice) bytes rest → slice_at count bytes ≡ Some (slice, rest)
slice_spelled count bytes slice rest front =
    ap (slice_at count) front.whole ∙ slice_again count front.text rest front.is.many ∙ ap (λ t. Some (t, rest)) (sym front.is.same)

-- Words.

-- a number byte by byte is the sum of its bytes by their weights
pub weighed : (base place low high : ℕ) → low * base ^ place + base ^ suc place * high ≡ base ^ place * (low + base * high)
weighed base place low high =
    rw (pow-suc base place, mul-add (base ^ place) low (base * high), mul_comm low (base ^ place), mul_assoc (base ^ place) base high) refl

pub sum_of : (place : ℕ) (bytes : List ℕ) → bytes_sum place bytes ≡ 256 ^ place * little bytes
sum_of place [] = omega arith
sum_of place (b ∷ bytes) =
    let next : 1 + place ≡ suc place = omega arith in
    ap (λ n. b * 256 ^ place + n) (ap (λ p. bytes_sum p bytes) next ∙ sum_of (suc place) bytes)
    ∙ weighed 256 place b (little bytes)

pub sum_is : (bytes : List ℕ) → bytes_sum 0 bytes ≡ little bytes
sum_is bytes = sum_of 0 bytes ∙ omega arith

pub word_found : (size : ℕ) (bytes : List ℕ) (value : ℕ) (rest : List ℕ) → word_at size bytes ≡ Some (value, rest) → IsInFront (IsWord size value) bytes rest
unfolding word_at
word_found size bytes value rest read =
    let found = map_some (λ (cut : List ℕ × List ℕ). (little cut.0, cut.1)) (slice_at size bytes) (value, rest) read in
    let cut = found.0 in
    let parts = slice_parts size bytes cut found.1 in
    record {
      text = cut.0;
      whole = parts.1 ∙ ap (λ (p : ℕ × List ℕ). cut.0 ++ p.1) found.2;
      is = record { many = parts.0; valued = sym (ap (λ (p : ℕ × List ℕ). p.0) found.2) ∙ sym (sum_is cut.0) };
    }

pub word_spelled : (size : ℕ) (bytes : List ℕ) (value : ℕ) (rest : List ℕ) → IsInFront (IsWord size value) bytes rest → word_at size bytes ≡ Some (value, rest)
unfolding word_at
word_spelled size bytes value rest front =
    ap (λ found. option_map (λ (cut : List ℕ × List ℕ). (little cut.0, cut.1)) found) (ap (slice_at size) front.whole ∙ slice_again size front.text rest front.is.many)
    ∙ ap (λ n. Some (n, rest)) (sym (sum_is front.text) ∙ sym front.is.valued)

-- Texts that a zero byte ends.

record CstrParts (bytes : List ℕ) (cut : List ℕ × List ℕ) : Type 0 where
  whole : bytes ≡ cut.0 ++ zero_byte ∷ cut.1
  no_zero : HasNo zero_byte cut.0

cstr_tested : (b : ℕ) (bytes : List ℕ) (found : Option (List ℕ × List ℕ)) (is_zero : Bool) → nat_eq b zero_byte ≡ is_zero →
    ((cut : List ℕ × List ℕ) → found ≡ Some cut → CstrParts bytes cut) → (cut : List ℕ × List ℕ) →
    cond is_zero (Some ([], bytes)) (option_map (with_first b) found) ≡ Some cut → CstrParts (b ∷ bytes) cut
cstr_tested b bytes found true test next cut read =
    let same = same_Some ([], bytes) cut read in
    let zero_is = eqb-true b zero_byte test in
    let P : List ℕ × List ℕ → Type 0 = CstrParts (b ∷ bytes) in
    subst P same (record { whole = ap (λ c. c ∷ bytes) zero_is; no_zero = refl })
cstr_tested b bytes None false test next cut read = absurd (none-some cut read)
cstr_tested b bytes (Some later) false test next cut read =
    let same = same_Some (with_first b later) cut read in
    let parts = next later refl in
    let P : List ℕ × List ℕ → Type 0 = CstrParts (b ∷ bytes) in
    subst P same (record { whole = ap (λ t. b ∷ t) parts.whole; no_zero = or_from _ _ test parts.no_zero })

cstr_parts : (bytes : List ℕ) (cut : List ℕ × List ℕ) → cstr_at bytes ≡ Some cut → CstrParts bytes cut
unfolding cstr_at
cstr_parts [] cut read = absurd (none-some cut read)
cstr_parts (b ∷ bytes) cut read = cstr_tested b bytes (cstr_at bytes) (nat_eq b zero_byte) refl (λ c found. cstr_parts bytes c found) cut read

pub cstr_front : (bytes text rest : List ℕ) → cstr_at bytes ≡ Some (text, rest) → IsInFront (IsCstr text) bytes rest
cstr_front bytes text rest read =
    let parts = cstr_parts bytes (text, rest) read in
    record {
      text = text ++ zero_byte ∷ [];
      whole = parts.whole ∙ sym (append_assoc text (zero_byte ∷ []) rest);
      is = record { ends = refl; no_zero = parts.no_zero };
    }

pub cstr_spelled : (bytes text rest : List ℕ) → IsInFront (IsCstr text) bytes rest → cstr_at bytes ≡ Some (text, rest)
cstr_spelled bytes text rest front =
    ap cstr_at (front.whole ∙ ap (λ t. t ++ rest) front.is.ends ∙ append_assoc text (zero_byte ∷ []) rest)
    ∙ cstr_again text rest front.is.no_zero

-- Places divisible by 4.

pub padding_is : (place : ℕ) → IsNextAligned place (place + padding place)
padding_is place = record {
  after = omega arith;
  divided = omega arith;
  least = λ other after divided. omega arith;
}

pub aligned_is : (place aligned : ℕ) → IsNextAligned place aligned → aligned ≡ place + padding place
aligned_is place aligned is =
    let least = is.least (place + padding place) (omega arith) (omega arith) in
    omega (arith, is.after, is.divided, least)
