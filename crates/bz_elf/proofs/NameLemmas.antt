-- Names that share bytes: in a text each character begins a name.
use Rattle.std.proofs.Common.{◌≡◌, ℕ, zero, suc, ◌+◌, ◌-◌, ◌<◌, ◌≤◌, true, false, inl, inr, List, [], ◌∷◌, ◌++◌, length, take, drop, get_or, sym, ap, subst, ◌∙◌, arith}
use Rattle.std.specs.List.{list_any, position_or_len}
use Rattle.std.specs.Str.{IsCharBoundary, IsUtf8, is_utf8}
use Rattle.std.proofs.lemmas.Bool.{and_from, and_parts, cases_lt, eqb-true, eq-eqb, false_from_ne_true}
use Rattle.std.proofs.lemmas.List.{drop-drop, drop-take, get_or-drop, get_or-take, length-drop, length-take-le, take-take, take_more}
use Rattle.std.proofs.lemmas.List.Elements.{All-from_get_or}
use Rattle.std.proofs.lemmas.List.Folds.{list_any_at, list_any_none}
use Rattle.std.proofs.lemmas.List.Sums.{fails_before_first, passes_at_first}
use Rattle.std.proofs.lemmas.Str.{IsCharBoundary-before_ascii, IsCharBoundary-start, IsUtf8-append, IsUtf8-drop, IsUtf8-from_ascii, IsUtf8-from_is_utf8, IsUtf8-take, is_utf8-from_IsUtf8}
use Rattle.bz_base.specs.ZeroEnded.{before_zero, is_zero}
use Rattle.bz_elf.specs.Names.{IsText, is_name_at}
use Rattle.bz_elf.specs.Symbols.{is_name}
use Rattle.bz_elf.proofs.TextLemmas.{name_within}

-- the place of the first zero byte
abbrev first_zero : List ℕ → ℕ
first_zero bytes = position_or_len is_zero bytes

-- where there is a zero byte, the first one is there
first_there : (bytes : List ℕ) → list_any is_zero bytes ≡ true → first_zero bytes < length bytes
first_there bytes any = elim (cases_lt (first_zero bytes) (length bytes)) [
  | inl there ↦ there
  | inr past ↦ absurd (cc (any, list_any_none is_zero bytes (All-from_get_or (λ x. is_zero x ≡ false) bytes 0 (λ i within. fails_before_first is_zero bytes i 0 (omega (arith, past, within))))))
]

-- a front of UTF-8 is UTF-8 where a zero byte follows in it
front_of_text : (bytes : List ℕ) (first m : ℕ) → first ≤ m → m ≤ length bytes → get_or bytes first 0 ≡ 0 → IsUtf8 (take m bytes) → IsUtf8 (take first bytes)
front_of_text bytes first m by within ends text = elim (cases_lt first m) [
  | inl less ↦
      let long = length-take-le m bytes within in
      subst IsUtf8 (take-take first m bytes by)
      (IsUtf8-take (take m bytes) first text
      (IsCharBoundary-before_ascii (take m bytes) first (omega (arith, less, long)) (omega (arith, get_or-take m bytes first 0 less, ends))))
  | inr same ↦ let e : m ≡ first = omega (arith, by, same) in subst (λ k. IsUtf8 (take k bytes)) e text
]

-- UTF-8 in front of a zero byte begins with a name
pub begins_name : (bytes : List ℕ) (m : ℕ) → m < length bytes → get_or bytes m 0 ≡ 0 → IsUtf8 (take m bytes) → is_name bytes ≡ true
begins_name bytes m within ends text =
    let passes = eq-eqb (get_or bytes m 0) 0 ends in
    let any = list_any_at is_zero bytes m 0 within passes in
    let first_is : get_or bytes (first_zero bytes) 0 ≡ 0 = eqb-true _ _ (passes_at_first is_zero bytes 0 (first_there bytes any)) in
    let first_by : first_zero bytes ≤ m = elim (cases_lt m (first_zero bytes)) [
      | inl later ↦ absurd (cc (passes, fails_before_first is_zero bytes m 0 later))
      | inr by ↦ by
    ] in
    and_from (list_any is_zero bytes) (is_utf8 (before_zero bytes)) any
    (is_utf8-from_IsUtf8 (before_zero bytes) (front_of_text bytes (first_zero bytes) m first_by (omega (arith, within)) first_is text))

-- a name has a zero byte behind it, and is UTF-8
record Ended (bytes : List ℕ) : Type 0 where
  there : first_zero bytes < length bytes
  zero : get_or bytes (first_zero bytes) 0 ≡ 0
  utf8 : IsUtf8 (take (first_zero bytes) bytes)

ended : (bytes : List ℕ) → is_name bytes ≡ true → Ended bytes
ended bytes is =
    let both = and_parts (list_any is_zero bytes) (is_utf8 (before_zero bytes)) is in
    let there = first_there bytes both.0 in
    record { there = there; zero = eqb-true _ _ (passes_at_first is_zero bytes 0 there); utf8 = IsUtf8-from_is_utf8 (before_zero bytes) both.1 }

-- the first byte of a name is no later one of a character
name_begins : (bytes : List ℕ) → is_name bytes ≡ true → 128 ≤ get_or bytes 0 0 → 192 ≤ get_or bytes 0 0
name_begins bytes is wide =
    let end = ended bytes is in
    let some : 0 < first_zero bytes = elim (cases_lt 0 (first_zero bytes)) [
      | inl some ↦ some
      | inr none ↦ let e : first_zero bytes ≡ 0 = omega (arith, none) in absurd (omega (arith, wide, subst (λ k. get_or bytes k 0 ≡ 0) e end.zero))
    ] in
    let same = get_or-take (first_zero bytes) bytes 0 0 some in
    let long = length-take-le (first_zero bytes) bytes (omega (arith, end.there)) in
    let start = (IsCharBoundary-start (take (first_zero bytes) bytes) end.utf8).1 (omega (arith, some, long)) (omega (arith, same, wide)) in
    omega (arith, same, start)

-- a name begins where a character does
pub name_at_boundary : (strings : List ℕ) (place : ℕ) → is_name_at strings place ≡ true → IsCharBoundary strings place
name_at_boundary strings place is =
    let same : get_or (drop place strings) 0 0 ≡ get_or strings place 0 = get_or-drop place strings 0 0 ∙ (let e : place + 0 ≡ place = omega arith in ap (λ k. get_or strings k 0) e) in
    (name_within strings place is, λ within wide. let begins = name_begins (drop place strings) is (omega (arith, same, wide)) in omega (arith, same, begins))

-- in UTF-8 that a zero byte ends, a name stands where a character begins
module _ (strings : List ℕ) (from m : ℕ) (within : from + m < length strings) (zero : get_or strings (from + m) 0 ≡ 0) (utf8 : IsUtf8 (take m (drop from strings))) where
  module _ (k : ℕ) (by : k ≤ m) (boundary : IsCharBoundary strings (from + k)) where
    abbrev text : List ℕ
    text = take m (drop from strings)

    long : length text ≡ m
    long = length-take-le m (drop from strings) (omega (arith, length-drop from strings, within))

    same : k < m → get_or text k 0 ≡ get_or strings (from + k) 0
    same less = get_or-take m (drop from strings) k 0 less ∙ get_or-drop from strings k 0

    cut : IsCharBoundary text k
    cut = (
      omega (arith, by, long),
      λ less wide.
          let here = same (omega (arith, less, long)) in
          let begins = boundary.1 (omega (arith, within, less, long)) (omega (arith, here, wide)) in
          omega (arith, here, begins),
    )

    rest_is : drop k text ≡ take (m - k) (drop (from + k) strings)
    rest_is =
        let e : k + (m - k) ≡ m = omega (arith, by) in
        ap (λ n. drop k (take n (drop from strings))) (sym e) ∙ drop-take k (m - k) (drop from strings) ∙ ap (take (m - k)) (drop-drop k from strings)

    stands : is_name_at strings (from + k) ≡ true
    stands =
        let e : from + k + (m - k) ≡ from + m = omega (arith, by) in
        begins_name (drop (from + k) strings) (m - k) (omega (arith, length-drop (from + k) strings, within, by))
        (get_or-drop (from + k) strings (m - k) 0 ∙ ap (λ n. get_or strings n 0) e ∙ zero)
        (subst IsUtf8 rest_is (IsUtf8-drop text k utf8 cut))

  pub is_text : IsText strings from (from + m + 1)
  is_text = record {
    within = omega (arith, within);
    names = λ place low high.
        let e : from + (place - from) ≡ place = omega (arith, low) in (
          name_at_boundary strings place,
          λ boundary.
              subst (λ p. is_name_at strings p ≡ true) e (stands (place - from) (omega (arith, low, high)) (subst (IsCharBoundary strings) (sym e) boundary)),
        );
  }

-- a front of UTF-8, and the place of a zero byte in it
pub record ZeroInText (bytes : List ℕ) (len place : ℕ) : Type 0 where
  pub long : len ≤ length bytes
  pub utf8 : IsUtf8 (take len bytes)
  pub before : place < length (take len bytes)
  pub zero : get_or (take len bytes) place 0 ≡ 0

-- what lies in front of that zero byte is a text, and a name stands in front of it
module _ (bytes : List ℕ) (len place : ℕ) (is : ZeroInText bytes len place) where
  less : place < len
  less = omega (arith, is.before, length-take-le len bytes is.long)

  zero_there : get_or bytes place 0 ≡ 0
  zero_there = sym (get_or-take len bytes place 0 less) ∙ is.zero

  utf8_before : IsUtf8 (take place bytes)
  utf8_before = front_of_text bytes place len (omega (arith, less)) is.long zero_there is.utf8

  pub name_in_front : is_name bytes ≡ true
  name_in_front = begins_name bytes place (omega (arith, less, is.long)) zero_there utf8_before

pub text_to : (strings : List ℕ) (from len place : ℕ) → ZeroInText (drop from strings) len place → IsText strings from (from + place + 1)
text_to strings from len place is =
    let rest = drop from strings in
    is_text strings from place (omega (arith, less rest len place is, is.long, length-drop from strings))
    (sym (get_or-drop from strings place 0) ∙ zero_there rest len place is) (utf8_before rest len place is)

zero_is_ascii : (i : ℕ) → get_or (0 ∷ []) i 0 < 128
zero_is_ascii zero = omega arith
zero_is_ascii (suc i) = omega arith

-- where no zero byte lies in the longest front of UTF-8, no name stands in front
pub no_zero_no_name : (bytes : List ℕ) (len : ℕ) → ((longer : ℕ) → len < longer → longer ≤ length bytes → ¬ (IsUtf8 (take longer bytes))) →
    ((k : ℕ) → k < len → ¬ (get_or bytes k 0 ≡ 0)) → is_name bytes ≡ false
no_zero_no_name bytes len longest no_zero = false_from_ne_true (is_name bytes) (λ is.
    let end = ended bytes is in
    elim (cases_lt (first_zero bytes) len) [
      | inl within ↦ no_zero (first_zero bytes) within end.zero
      | inr past ↦
          let more = take_more bytes (first_zero bytes) 0 end.there ∙ ap (λ b. take (first_zero bytes) bytes ++ (b ∷ [])) end.zero in
          longest (first_zero bytes + 1) (omega (arith, past)) (omega (arith, end.there)) (subst IsUtf8 (sym more) (IsUtf8-append (take (first_zero bytes) bytes) (0 ∷ []) end.utf8 (IsUtf8-from_ascii (0 ∷ []) zero_is_ascii)))
    ])
