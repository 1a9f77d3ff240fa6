-- A LEB128 number, byte by byte.
use Rattle.std.proofs.Common.{◌≡◌, ℕ, zero, suc, ◌+◌, ◌*◌, ◌%◌, ◌^◌, ◌<◌, ◌≤◌, true, false, List, [], ◌∷◌, length, take, drop, Bool, cond, Option, Some, None, option_map, nat_lt, refl, sym, ap, ◌∙◌, arith, add-one}
use Rattle.std.specs.Option.{option_and_then}
use Rattle.std.specs.List.{slice_index, AllByRecursion}
use Rattle.std.proofs.lemmas.Bool.{lt-ltb, le-ltb, lt-leb}
use Rattle.std.proofs.lemmas.Nat.{mul-le}
use Rattle.std.proofs.lemmas.Option.{none-some, same_Some}
use Rattle.std.proofs.Math.Nat.{mul-add, mul_assoc, mul_comm, pow-suc, pow-le-pow_right}
use Rattle.bz_bytes.specs.Cursor.{with_first, with_rest}
use Rattle.bz_bytes.specs.Leb128.{IsMarked, low_bits, leb_at, unsigned, signed, uleb_at, sleb_at, HasNoNumber, IsInParts}

-- a number ends at the first byte that isn't marked
pub leb_ends : (bytes : List ℕ) (k : ℕ) → k < length bytes → AllByRecursion IsMarked (take k bytes) → slice_index bytes k < 128 →
    leb_at bytes ≡ Some (take (suc k) bytes, drop (suc k) bytes)
leb_ends [] k within marked low = absurd (omega arith)
leb_ends (b ∷ bytes) zero within marked low = rw (lt-ltb b 128 low) refl
leb_ends (b ∷ bytes) (suc k) within marked low =
    rw (le-ltb b 128 marked.0, leb_ends bytes k (omega arith) marked.1 low) refl

-- the bytes so far are marked, and one more is
pub one_more : (bytes : List ℕ) (k : ℕ) → k < length bytes → AllByRecursion IsMarked (take k bytes) → 128 ≤ slice_index bytes k →
    AllByRecursion IsMarked (take (suc k) bytes)
one_more [] k within marked high = absurd (omega arith)
one_more (b ∷ bytes) zero within marked high = (high, tt)
one_more (b ∷ bytes) (suc k) within marked high = (marked.0, one_more bytes k (omega arith) marked.1 high)

first_byte : (b : ℕ) (found : Option (List ℕ × List ℕ)) (low : Bool) (bytes : List ℕ) (cut : List ℕ × List ℕ) →
    cond low (Some (b ∷ [], bytes)) (option_map (with_first b) found) ≡ Some cut → 0 < length cut.0
first_byte b found true bytes cut is = rw (← same_Some (b ∷ [], bytes) cut is) (omega arith)
first_byte b None false bytes cut is = absurd (none-some cut is)
first_byte b (Some next) false bytes cut is = rw (← same_Some (with_first b next) cut is) (omega arith)

later : (b : ℕ) (found : Option (List ℕ × List ℕ)) (k : ℕ) (cut : List ℕ × List ℕ) →
    ((c : List ℕ × List ℕ) → found ≡ Some c → k < length c.0) → option_map (with_first b) found ≡ Some cut → suc k < length cut.0
later b None k cut longer is = absurd (none-some cut is)
later b (Some next) k cut longer is =
    let long = longer next refl in
    rw (← same_Some (with_first b next) cut is) (omega (arith, long))

-- after so many marked bytes a number is longer than those
pub leb_longer : (bytes : List ℕ) (k : ℕ) → AllByRecursion IsMarked (take k bytes) → k ≤ length bytes →
    (cut : List ℕ × List ℕ) → leb_at bytes ≡ Some cut → k < length cut.0
leb_longer [] k marked within cut is = absurd (none-some cut is)
leb_longer (b ∷ bytes) zero marked within cut is = first_byte b (leb_at bytes) (nat_lt b 128) bytes cut is
leb_longer (b ∷ bytes) (suc k) marked within cut is =
    let next : option_map (with_first b) (leb_at bytes) ≡ Some cut = sym (rw (le-ltb b 128 marked.0) refl) ∙ is in
    later b (leb_at bytes) k cut (λ c found. leb_longer bytes k marked.1 (omega arith) c found) next

-- without an end there is no number
pub leb_missing : (bytes : List ℕ) → AllByRecursion IsMarked bytes → leb_at bytes ≡ None
leb_missing [] marked = refl
leb_missing (b ∷ bytes) marked = rw (le-ltb b 128 marked.0, leb_missing bytes marked.1) refl

-- the next byte's bits weigh 128 to the power of its place
pub low_next : (bytes : List ℕ) (k : ℕ) → k < length bytes →
    low_bits (take (suc k) bytes) ≡ low_bits (take k bytes) + 128 ^ k * (slice_index bytes k % 128)
low_next [] k within = absurd (omega arith)
low_next (b ∷ bytes) zero within = omega arith
low_next (b ∷ bytes) (suc k) within =
    let digit = slice_index bytes k % 128 in
    let grows : 128 * (128 ^ k * digit) ≡ 128 ^ suc k * digit =
    sym (mul_assoc 128 (128 ^ k) digit) ∙ ap (λ n. n * digit) (mul_comm 128 (128 ^ k) ∙ sym (pow-suc 128 k)) in
    ap (λ n. b % 128 + 128 * n) (low_next bytes k (omega arith)) ∙ omega (arith, grows, mul-add 128 (low_bits (take k bytes)) (128 ^ k * digit))

-- no number, or one that is too long
without : {A : Type 0} (value : ℕ → ℕ → Option A) → ((count bits : ℕ) → 10 < count → value count bits ≡ None) →
    (found : Option (List ℕ × List ℕ)) → ((cut : List ℕ × List ℕ) → found ≡ Some cut → 10 < length cut.0) →
    option_and_then (λ cut. with_rest (value (length cut.0) (low_bits cut.0)) cut.1) found ≡ None
without value refuses None long = refl
without value refuses (Some cut) long = rw (refuses (length cut.0) (low_bits cut.0) (long cut refl)) refl

pub unsigned_long : (count bits : ℕ) → 10 < count → unsigned count bits ≡ None
unsigned_long count bits long = rw (lt-leb count 10 long) refl

pub signed_long : (count bits : ℕ) → 10 < count → signed count bits ≡ None
signed_long count bits long = rw (lt-leb count 10 long) refl

pub no_number : (bytes : List ℕ) → ((cut : List ℕ × List ℕ) → leb_at bytes ≡ Some cut → 10 < length cut.0) → HasNoNumber bytes
unfolding uleb_at sleb_at
no_number bytes long = record {
  unsigned = without unsigned unsigned_long (leb_at bytes) long;
  signed = without signed signed_long (leb_at bytes) long;
}

-- marked bytes without an end are no number
pub no_end : (bytes : List ℕ) → AllByRecursion IsMarked bytes → HasNoNumber bytes
no_end bytes marked = no_number bytes (λ cut is. absurd (none-some cut (sym (leb_missing bytes marked) ∙ is)))

-- ten marked bytes are too many
pub too_long : (bytes : List ℕ) → 9 < length bytes → AllByRecursion IsMarked (take 9 bytes) → 128 ≤ slice_index bytes 9 → HasNoNumber bytes
too_long bytes within marked high =
    no_number bytes (leb_longer bytes 10 (one_more bytes 9 within marked high) (omega arith))

-- the bits so far, and what the next byte weighs
module _ (bytes : List ℕ) (k low weight : ℕ) (within : k < length bytes) (few : k ≤ 9) (marked : AllByRecursion IsMarked (take k bytes))
    (bits : low_bits (take k bytes) ≡ low) (weighs : weight ≡ 128 ^ k) (small : low < weight) where
  weight_most : weight ≤ 9223372036854775808
  weight_most = let most = pow-le-pow_right {n = 128} (omega arith) few in omega (arith, most, weighs)

  pub next_weight : weight * 128 ≡ 128 ^ (k + 1)
  next_weight = ap (λ n. n * 128) weighs ∙ sym (pow-suc 128 k) ∙ ap (λ n. 128 ^ n) (sym (add-one k))

  pub next_bits : low_bits (take (k + 1) bytes) ≡ low + weight * (slice_index bytes k % 128)
  next_bits =
      ap (λ n. low_bits (take n bytes)) (add-one k) ∙ low_next bytes k within
      ∙ ap (λ n. n + 128 ^ k * (slice_index bytes k % 128)) bits
      ∙ ap (λ n. low + n * (slice_index bytes k % 128)) (sym weighs)

  pub next_small : low + weight * (slice_index bytes k % 128) < weight * 128
  next_small = omega (arith, mul-le weight (slice_index bytes k % 128) weight 127 (omega arith) (omega arith))

  pub next_marked : 128 ≤ slice_index bytes k → AllByRecursion IsMarked (take (k + 1) bytes)
  next_marked high = rw (add-one k) (one_more bytes k within marked high)

  pub next_room : (k ≡ 9 → ⊥) → weight * 128 < 18446744073709551616
  next_room before =
      let most = pow-le-pow_right {n = 128} (omega arith) (let h : k + 1 ≤ 9 = omega arith in h) in
      omega (arith, most, next_weight)

  pub in_parts : slice_index bytes k < 128 → IsInParts bytes low weight (slice_index bytes k) (k + 1)
  in_parts low_byte = record {
    few = omega arith;
    within = omega arith;
    number = leb_ends bytes k within marked low_byte ∙ ap (λ n. Some (take n bytes, drop n bytes)) (sym (add-one k));
    bits = next_bits ∙ ap (λ n. low + weight * n) (let same : slice_index bytes k % 128 ≡ slice_index bytes k = omega arith in same);
    weighs = next_weight;
    small = small;
    unmarked = low_byte;
  }
