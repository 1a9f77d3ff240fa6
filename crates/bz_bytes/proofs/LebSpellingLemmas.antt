-- A LEB128 number that is read is spelled in front, and one that is spelled there is read.
use Rattle.std.proofs.Common.{◌≡◌, ℕ, ℤ, pos, suc, ◌+◌, ◌*◌, ◌%◌, ◌^◌, ◌<◌, ◌≤◌, ◌-ℤ◌, ◌⊎◌, inl, inr, true, false, List, [], ◌∷◌, ◌++◌, length, take, drop, Bool, cond, Option, Some, None, option_map, nat_lt, refl, sym, ap, subst, ◌∙◌, arith, append_assoc}
use Rattle.std.specs.Option.{option_and_then}
use Rattle.std.specs.List.{slice_index, AllByRecursion}
use Rattle.std.proofs.lemmas.Bool.{ltb-true, ltb-false, lt-ltb, le-ltb, cases_lt}
use Rattle.std.proofs.lemmas.List.{take_at, drop_at, length-append}
use Rattle.std.proofs.lemmas.Option.{none-some, same_Some}
use Rattle.std.proofs.Math.Nat.{pow-suc}
use Rattle.bz_bytes.specs.Cursor.{with_first, with_rest, IsInFront}
use Rattle.bz_bytes.specs.Leb128.{IsMarked, IsLeb, IsUleb, IsSleb, bits_sum, extended, low_bits, leb_at, unsigned, signed, uleb_at, sleb_at, IsInParts}
use Rattle.bz_bytes.proofs.LebLemmas.{in_parts, unsigned_long, signed_long}
use Rattle.bz_bytes.proofs.LebValueLemmas.{unsigned_read, unsigned_refused, positive_read, positive_refused, negative_read, negative_refused}
use Rattle.bz_bytes.proofs.PieceOfBytesLemmas.{weighed}

-- the bits of a number are the sum of those of its bytes by their weights
sum_of : (place : ℕ) (bytes : List ℕ) → bits_sum place bytes ≡ 128 ^ place * low_bits bytes
sum_of place [] = omega arith
sum_of place (b ∷ bytes) =
    let next : 1 + place ≡ suc place = omega arith in
    ap (λ n. b % 128 * 128 ^ place + n) (ap (λ p. bits_sum p bytes) next ∙ sum_of (suc place) bytes)
    ∙ weighed 128 place (b % 128) (low_bits bytes)

sum_is : (bytes : List ℕ) → bits_sum 0 bytes ≡ low_bits bytes
sum_is bytes = sum_of 0 bytes ∙ omega arith

-- so many bytes have bits below 128 to the power of their number
low_small : (bytes : List ℕ) → low_bits bytes < 128 ^ length bytes
low_small [] = omega arith
low_small (b ∷ bytes) = omega (arith, low_small bytes, pow-suc 128 (length bytes))

-- what stands at the end of the front
at_front : (front : List ℕ) (last : ℕ) (rest : List ℕ) → slice_index (front ++ last ∷ rest) (length front) ≡ last
at_front [] last rest = refl
at_front (b ∷ front) last rest = at_front front last rest

clear_tenth : (last : ℕ) → last < 64 → (last ≡ 0) ⊎ (last ≡ 127) → last ≡ 0
clear_tenth last clear (inl zero_is) = zero_is
clear_tenth last clear (inr ones) = absurd (omega arith)

set_tenth : (last : ℕ) → 64 ≤ last → (last ≡ 0) ⊎ (last ≡ 127) → last ≡ 127
set_tenth last set (inl zero_is) = absurd (omega arith)
set_tenth last set (inr ones) = ones

-- a number that is spelled in front of bytes, in parts
module _ (front : List ℕ) (last : ℕ) (rest : List ℕ) (marked : AllByRecursion IsMarked front) (unmarked : last < 128) (few : length front ≤ 9) where
  abbrev all : List ℕ
  all = front ++ last ∷ rest

  parts : IsInParts all (low_bits front) (128 ^ length front) last (length front + 1)
  parts =
      let here = at_front front last rest in
      let taken : take (length front) all ≡ front = take_at front (last ∷ rest) (length front) refl in
      let P : ℕ → Type 0 = λ b. IsInParts all (low_bits front) (128 ^ length front) b (length front + 1) in
      let Marked : List ℕ → Type 0 = AllByRecursion IsMarked in
      subst P here
      (in_parts all (length front) (low_bits front) (128 ^ length front) (omega (arith, length-append front (last ∷ rest))) few
      (subst Marked (sym taken) marked) (ap low_bits taken) refl (low_small front) (rw here unmarked))

  abbrev text : List ℕ
  text = front ++ last ∷ []

  count : length text ≡ length front + 1
  count = length-append front (last ∷ [])

  whole : all ≡ text ++ rest
  whole = sym (append_assoc front (last ∷ []) rest)

  rest_is : drop (length front + 1) all ≡ rest
  rest_is = ap (drop (length front + 1)) whole ∙ drop_at text rest (length front + 1) count

  bits_are : low_bits front + 128 ^ length front * last ≡ bits_sum 0 text
  bits_are =
      sym parts.bits ∙ ap low_bits (ap (take (length front + 1)) whole ∙ take_at text rest (length front + 1) count)
      ∙ sym (sum_is text)

  number : IsLeb text front last
  number = record { whole = refl; marked = marked; unmarked = unmarked; few = few }

  pub uleb_here : (length front ≡ 9 → last ≤ 1) → uleb_at all ≡ Some (bits_sum 0 text, rest)
  uleb_here tenth =
      sym (unsigned_read all (low_bits front) (128 ^ length front) last (length front + 1) parts (λ ten. tenth (omega arith)))
      ∙ ap (λ n. Some (n, drop (length front + 1) all)) bits_are ∙ ap (λ r. Some (bits_sum 0 text, r)) rest_is

  uleb_tenth : (x : ℕ × List ℕ) → uleb_at all ≡ Some x → length front ≡ 9 → last ≤ 1
  uleb_tenth x read ninth =
      elim (cases_lt 1 last) [
        | inl more ↦
            absurd (none-some x
            (unsigned_refused all (low_bits front) (128 ^ length front) last (length front + 1) parts (omega arith) more ∙ read))
        | inr most ↦ omega arith
      ]

  pub uleb_is : (x : ℕ × List ℕ) → uleb_at all ≡ Some x → IsInFront (IsUleb x.0) all x.1
  uleb_is x read =
      let tenth = uleb_tenth x read in
      let P : ℕ × List ℕ → Type 0 = λ y. IsInFront (IsUleb y.0) all y.1 in
      let is : IsUleb (bits_sum 0 text) text = record { front = front; last = last; number = number; tenth = tenth; valued = refl } in
      subst P (same_Some (bits_sum 0 text, rest) x (sym (uleb_here tenth) ∙ read)) (record { text = text; whole = whole; is = is })

  pub sleb_here : (length front ≡ 9 → (last ≡ 0) ⊎ (last ≡ 127)) → sleb_at all ≡ Some (extended text last, rest)
  sleb_here tenth =
      elim (cases_lt last 64) [
        | inl clear ↦
            let none : length front + 1 ≡ 10 → last ≡ 0 = λ ten. clear_tenth last clear (tenth (omega arith)) in
            rw (lt-ltb last 64 clear)
            (sym (positive_read all (low_bits front) (128 ^ length front) last (length front + 1) parts clear none)
            ∙ ap (λ n. Some (pos n, drop (length front + 1) all)) bits_are ∙ ap (λ r. Some (pos (bits_sum 0 text), r)) rest_is)
        | inr set ↦
            let ones : length front + 1 ≡ 10 → last ≡ 127 = λ ten. set_tenth last set (tenth (omega arith)) in
            rw (le-ltb last 64 set, count)
            (sym (negative_read all (low_bits front) (128 ^ length front) last (length front + 1) parts set ones)
            ∙ ap (λ n. Some (pos n -ℤ pos (128 ^ (length front + 1)), drop (length front + 1) all)) bits_are
            ∙ ap (λ r. Some (pos (bits_sum 0 text) -ℤ pos (128 ^ (length front + 1)), r)) rest_is)
      ]

  sleb_tenth : (x : ℤ × List ℕ) → sleb_at all ≡ Some x → length front ≡ 9 → (last ≡ 0) ⊎ (last ≡ 127)
  sleb_tenth x read ninth =
      elim (cases_lt last 64) [
        | inl clear ↦
            elim (cases_lt 0 last) [
              | inl some ↦
                  absurd (none-some x
                  (positive_refused all (low_bits front) (128 ^ length front) last (length front + 1) parts clear (omega arith) (λ zero_is. omega arith) ∙ read))
              | inr none ↦ inl (omega arith)
            ]
        | inr set ↦
            elim (cases_lt last 127) [
              | inl some ↦
                  absurd (none-some x
                  (negative_refused all (low_bits front) (128 ^ length front) last (length front + 1) parts set (omega arith) (λ ones. omega arith) ∙ read))
              | inr most ↦ inr (omega arith)
            ]
      ]

  pub sleb_is : (x : ℤ × List ℕ) → sleb_at all ≡ Some x → IsInFront (IsSleb x.0) all x.1
  sleb_is x read =
      let tenth = sleb_tenth x read in
      let P : ℤ × List ℕ → Type 0 = λ y. IsInFront (IsSleb y.0) all y.1 in
      let is : IsSleb (extended text last) text = record { front = front; last = last; number = number; tenth = tenth; valued = refl } in
      subst P (same_Some (extended text last, rest) x (sym (sleb_here tenth) ∙ read)) (record { text = text; whole = whole; is = is })

-- the number in front of bytes, by its last byte and those before it
record LebParts (bytes : List ℕ) (cut : List ℕ × List ℕ) : Type 0 where
  front : List ℕ
  last : ℕ
  text : cut.0 ≡ front ++ last ∷ []
  whole : bytes ≡ front ++ last ∷ cut.1
  marked : AllByRecursion IsMarked front
  unmarked : last < 128

leb_tested : (b : ℕ) (bytes : List ℕ) (found : Option (List ℕ × List ℕ)) (low : Bool) → nat_lt b 128 ≡ low →
    ((cut : List ℕ × List ℕ) → found ≡ Some cut → LebParts bytes cut) → (cut : List ℕ × List ℕ) →
    cond low (Some (b ∷ [], bytes)) (option_map (with_first b) found) ≡ Some cut → LebParts (b ∷ bytes) cut
leb_tested b bytes found true test next cut read =
    let P : List ℕ × List ℕ → Type 0 = LebParts (b ∷ bytes) in
    subst P (same_Some (b ∷ [], bytes) cut read)
    (record { front = []; last = b; text = refl; whole = refl; marked = tt; unmarked = ltb-true b 128 test })
leb_tested b bytes None false test next cut read = absurd (none-some cut read)
leb_tested b bytes (Some later) false test next cut read =
    let P : List ℕ × List ℕ → Type 0 = LebParts (b ∷ bytes) in
    let p = next later refl in
    subst P (same_Some (with_first b later) cut read)
    (record {
      front = b ∷ p.front;
      last = p.last;
      text = ap (λ t. b ∷ t) p.text;
      whole = ap (λ t. b ∷ t) p.whole;
      marked = (ltb-false b 128 test, p.marked);
      unmarked = p.unmarked;
    })

leb_parts : (bytes : List ℕ) (cut : List ℕ × List ℕ) → leb_at bytes ≡ Some cut → LebParts bytes cut
leb_parts [] cut read = absurd (none-some cut read)
leb_parts (b ∷ bytes) cut read = leb_tested b bytes (leb_at bytes) (nat_lt b 128) refl (λ c found. leb_parts bytes c found) cut read

-- a number that is read has ten bytes at most
module _ {A : Type 0} (value : ℕ → ℕ → Option A) (long : (count bits : ℕ) → 10 < count → value count bits ≡ None) where
  read_parts : (found : Option (List ℕ × List ℕ)) (x : A × List ℕ) →
      option_and_then (λ cut. with_rest (value (length cut.0) (low_bits cut.0)) cut.1) found ≡ Some x →
      (cut : List ℕ × List ℕ) × (found ≡ Some cut) × (length cut.0 ≤ 10)
  read_parts None x read = absurd (none-some x read)
  read_parts (Some cut) x read = (
    cut,
    refl,
    elim (cases_lt 10 (length cut.0)) [
      | inl more ↦
          let none : None ≡ with_rest (value (length cut.0) (low_bits cut.0)) cut.1 = rw (long (length cut.0) (low_bits cut.0) more) refl in
          absurd (none-some x (none ∙ read))
      | inr few ↦ omega arith
    ],
  )

pub uleb_found : (bytes : List ℕ) (value : ℕ) (rest : List ℕ) → uleb_at bytes ≡ Some (value, rest) → IsInFront (IsUleb value) bytes rest
unfolding uleb_at
uleb_found bytes value rest read =
    let found = read_parts unsigned unsigned_long (leb_at bytes) (value, rest) read in
    let cut = found.0 in
    let p = leb_parts bytes cut found.1 in
    let few : length p.front ≤ 9 = let same = ap length p.text ∙ length-append p.front (p.last ∷ []) in let most = found.2 in omega (arith, same, most) in
    let P : List ℕ → Type 0 = λ bs. IsInFront (IsUleb value) bs rest in
    subst P (sym p.whole) (uleb_is p.front p.last cut.1 p.marked p.unmarked few (value, rest) (ap uleb_at (sym p.whole) ∙ read))

pub uleb_spelled : (bytes : List ℕ) (value : ℕ) (rest : List ℕ) → IsInFront (IsUleb value) bytes rest → uleb_at bytes ≡ Some (value, rest)
uleb_spelled bytes value rest front =
    let is = front.is in
    let n = is.number in
    let all : bytes ≡ is.front ++ is.last ∷ rest = front.whole ∙ ap (λ t. t ++ rest) n.whole ∙ append_assoc is.front (is.last ∷ []) rest in
    ap uleb_at all ∙ uleb_here is.front is.last rest n.marked n.unmarked n.few is.tenth
    ∙ ap (λ t. Some (bits_sum 0 t, rest)) (sym n.whole) ∙ ap (λ v. Some (v, rest)) (sym is.valued)

pub sleb_found : (bytes : List ℕ) (value : ℤ) (rest : List ℕ) → sleb_at bytes ≡ Some (value, rest) → IsInFront (IsSleb value) bytes rest
unfolding sleb_at
sleb_found bytes value rest read =
    let found = read_parts signed signed_long (leb_at bytes) (value, rest) read in
    let cut = found.0 in
    let p = leb_parts bytes cut found.1 in
    let few : length p.front ≤ 9 = let same = ap length p.text ∙ length-append p.front (p.last ∷ []) in let most = found.2 in omega (arith, same, most) in
    let P : List ℕ → Type 0 = λ bs. IsInFront (IsSleb value) bs rest in
    subst P (sym p.whole) (sleb_is p.front p.last cut.1 p.marked p.unmarked few (value, rest) (ap sleb_at (sym p.whole) ∙ read))

pub sleb_spelled : (bytes : List ℕ) (value : ℤ) (rest : List ℕ) → IsInFront (IsSleb value) bytes rest → sleb_at bytes ≡ Some (value, rest)
sleb_spelled bytes value rest front =
    let is = front.is in
    let n = is.number in
    let all : bytes ≡ is.front ++ is.last ∷ rest = front.whole ∙ ap (λ t. t ++ rest) n.whole ∙ append_assoc is.front (is.last ∷ []) rest in
    ap sleb_at all ∙ sleb_here is.front is.last rest n.marked n.unmarked n.few is.tenth
    ∙ ap (λ t. Some (extended t is.last, rest)) (sym n.whole) ∙ ap (λ v. Some (v, rest)) (sym is.valued)
