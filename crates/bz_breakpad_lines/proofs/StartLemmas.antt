-- The texts of starts: of as many digits, the one with the greater bytes spells the greater start.
use Rattle.std.proofs.Common.{◌≡◌, ℕ, zero, suc, ◌+◌, ◌-◌, ◌*◌, ◌/◌, ◌^◌, ◌<◌, ◌≤◌, true, cond, ◌||◌, not, nat_lt, nat_eq, List, [], ◌∷◌, ◌++◌, map, length, take, drop, get_or, bit_or, length-append, refl, sym, ap, ap₂, subst, ◌∙◌, arith, inl, inr}
use Rattle.std.specs.Prelude.{slice_index}
use Rattle.std.specs.Int.{w64, from_be_bytes}
use Rattle.std.specs.Char.{digit_value}
use Rattle.std.specs.Int.Digits.{number_from_digits, number_from_digits_after}
use Rattle.std.specs.List.{AllByRecursion}
use Rattle.std.specs.Str.Parse.{AllDigits, digits_value, digits_value_after}
use Rattle.std.proofs.lemmas.Bool.{agree_below_at, cases_lt, le-ltb, lt-ltb, eqb-true}
use Rattle.std.proofs.lemmas.Int.Digits.{number_after_append}
use Rattle.std.proofs.lemmas.List.{length-drop, length-map, length-take-le, map-append}
use Rattle.std.proofs.lemmas.Nat.{or_block, or_of_8, shr-shr}
use Rattle.std.proofs.Math.ListN.{get_or-append}
use Rattle.std.proofs.Math.Nat.{div-one}
use Rattle.std.proofs.Math.Seq.{get_or-append_seam, take-add}
use Rattle.bz_base.specs.Number.{digits_len}
use Rattle.bz_base.proofs.NumberLemmas.{front_digits}
use Rattle.bz_breakpad_lines.specs.LineStarts.{AscendTo, IsStartText, folded}
use Rattle.bz_breakpad_lines.specs.declared.start_text.StartText.{StartText}
use Rattle.bz_breakpad_lines.proofs.AtPlaceLemmas.{ascend_more}

-- a hexadecimal digit is a byte
pub digit_byte : (b : ℕ) → digit_value b < 16 → b < 256
digit_byte b small =
    elim (cases_lt b 123) [
      | inl below ↦ omega (arith, below)
      | inr above ↦ absurd (
          let none : digit_value b ≡ 36
          = rw (le-ltb b 48 (omega (arith, above)), le-ltb b 58 (omega (arith, above)), le-ltb b 65 (omega (arith, above)), le-ltb b 91 (omega (arith, above)), le-ltb b 97 (omega (arith, above)), le-ltb b 123 above) refl in
          omega (arith, none, small))
    ]

-- the byte of a digit, with letters in lower case
abbrev byte_of : ℕ → ℕ
byte_of d = cond (nat_lt d 10) (d + 48) (d + 87)

folded_digit : (b : ℕ) → digit_value b < 16 → folded b ≡ byte_of (digit_value b)
folded_digit b small =
    let agree = agree_below_at (λ c. not (nat_lt (digit_value c) 16) || nat_eq (folded c) (byte_of (digit_value c))) (λ c. true) 256 b refl (digit_byte b small) in
    eqb-true (folded b) (byte_of (digit_value b)) (rw (lt-ltb (digit_value b) 16 small) at agree)

-- a greater digit has a greater byte
bytes_tell : (d e : ℕ) → d < 16 → e < 16 → (byte_of d < 256) × (byte_of d < byte_of e → d < e) × (byte_of d ≤ byte_of e → d ≤ e)
bytes_tell d e small_d small_e =
    elim (cases_lt d 10) [
      | inl d_low ↦ elim (cases_lt e 10) [
        | inl e_low ↦ rw (lt-ltb d 10 d_low, lt-ltb e 10 e_low) (omega (arith, d_low), (λ below. omega (arith, below)), λ up. omega (arith, up))
        | inr e_high ↦ rw (lt-ltb d 10 d_low, le-ltb e 10 e_high) (omega (arith, d_low), (λ below. omega (arith, d_low, e_high)), λ up. omega (arith, d_low, e_high))
      ]
      | inr d_high ↦ elim (cases_lt e 10) [
        | inl e_low ↦ rw (le-ltb d 10 d_high, lt-ltb e 10 e_low) (omega (arith, small_d), (λ below. absurd (omega (arith, below, d_high, e_low))), λ up. absurd (omega (arith, up, d_high, e_low)))
        | inr e_high ↦ rw (le-ltb d 10 d_high, le-ltb e 10 e_high) (omega (arith, small_d), (λ below. omega (arith, below)), λ up. omega (arith, up))
      ]
    ]

-- so with digits after numbers of which the same is so
bytes_order : (ds es : List ℕ) (m n p q : ℕ) → length ds ≡ length es → AllDigits 16 ds → AllDigits 16 es → (m ≤ n → p ≤ q) → (m < n → p < q) →
    number_from_digits_after 256 m (map folded ds) < number_from_digits_after 256 n (map folded es) → digits_value_after 16 p ds < digits_value_after 16 q es
bytes_order [] [] m n p q same are_d are_e up below less = below less
bytes_order [] (e ∷ es) m n p q same are_d are_e up below less = absurd (omega (arith, same))
bytes_order (d ∷ ds) [] m n p q same are_d are_e up below less = absurd (omega (arith, same))
bytes_order (d ∷ ds) (e ∷ es) m n p q same are_d are_e up below less =
    let is_d = folded_digit d are_d.0 in
    let is_e = folded_digit e are_e.0 in
    let tell = bytes_tell (digit_value d) (digit_value e) are_d.0 are_e.0 in
    let back = bytes_tell (digit_value e) (digit_value d) are_e.0 are_d.0 in
    bytes_order ds es (m * 256 + folded d) (n * 256 + folded e) (p * 16 + digit_value d) (q * 16 + digit_value e) (omega (arith, same)) are_d.1 are_e.1
    (λ le. elim (cases_lt m n) [
      | inl earlier ↦ omega (arith, below earlier, are_d.0)
      | inr later ↦
          let at : m ≡ n = omega (arith, le, later, is_d, is_e, tell.0, back.0) in
          omega (arith, up (omega (arith, at)), tell.2 (omega (arith, at, le, is_d, is_e)))
    ])
    (λ lt. elim (cases_lt m n) [
      | inl earlier ↦ omega (arith, below earlier, are_d.0)
      | inr later ↦
          let at : m ≡ n = omega (arith, lt, later, is_d, is_e, tell.0, back.0) in
          omega (arith, up (omega (arith, at)), tell.1 (omega (arith, at, lt, is_d, is_e)))
    ]) less

-- of texts of as many digits the greater start has the greater bytes
pub texts_order : (start other_start : ℕ) (text other : StartText) → IsStartText start text → IsStartText other_start other →
    text.digits ≡ other.digits → text.key < other.key → start < other_start
texts_order start other_start text other is others same less =
    let below = bytes_order is.digits others.digits 0 0 0 0 (omega (arith, is.count, others.count, same)) is.are_digits others.are_digits (λ up. up) (λ below. below)
    (omega (arith, is.key, others.key, less)) in
    omega (arith, below, is.spell, others.spell)

-- each of them is a byte
abbrev pub AreBytes : List ℕ → Type 0
AreBytes bytes = AllByRecursion (λ b. b < 256) bytes

-- a letter in lower case is a byte still
folded_bytes : (bytes : List ℕ) → AreBytes bytes → AreBytes (map folded bytes)
folded_bytes [] are = tt
folded_bytes (b ∷ bytes) are = (or_of_8 b 32 are.0 (omega arith), folded_bytes bytes are.1)

-- the number of blanks, as many as there are bytes
abbrev blanks_after : ℕ → List ℕ → ℕ
blanks_after n [] = n
blanks_after n (b ∷ bytes) = blanks_after (n * 256 + 32) bytes

-- letters are put in lower case in all bytes of a number at once
fold_number : (bytes : List ℕ) (m c : ℕ) → AreBytes bytes →
    bit_or (number_from_digits_after 256 m bytes) (blanks_after c bytes) ≡ number_from_digits_after 256 (bit_or m c) (map folded bytes)
fold_number [] m c are = refl
fold_number (b ∷ bytes) m c are =
    fold_number bytes (m * 256 + b) (c * 256 + 32) are.1
    ∙ ap (λ n. number_from_digits_after 256 n (map folded bytes)) (or_block 8 m c b 32 are.0 (omega arith))

-- without its last bytes a number is that of the bytes before them
pub first_bytes : (bytes : List ℕ) (m : ℕ) → AreBytes bytes → number_from_digits_after 256 m bytes / 2 ^ (8 * length bytes) ≡ m
first_bytes [] m are = div-one m
first_bytes (b ∷ bytes) m are =
    let n = number_from_digits_after 256 (m * 256 + b) bytes in
    let more : 8 * length (b ∷ bytes) ≡ 8 * length bytes + 8 = omega arith in
    ap (λ k. n / 2 ^ k) more ∙ sym (shr-shr n (8 * length bytes) 8) ∙ ap (λ x. x / 2 ^ 8) (first_bytes bytes (m * 256 + b) are.1) ∙ omega (arith, are.0)

-- the bytes of a text are bytes, from a place on as well
bytes_are : (n : ℕ) (text : List ℕ) → ((k : ℕ) → get_or text k 0 < 256) → AreBytes (take n text)
bytes_are zero text small = tt
bytes_are (suc n) [] small = tt
bytes_are (suc n) (b ∷ text) small = (small 0, bytes_are n text (λ k. small (suc k)))

pub bytes_past : (from n : ℕ) (text : List ℕ) → ((k : ℕ) → get_or text k 0 < 256) → AreBytes (take n (drop from text))
bytes_past zero n text small = bytes_are n text small
bytes_past (suc from) n [] small = bytes_are n [] small
bytes_past (suc from) n (b ∷ text) small = bytes_past from n text (λ k. small (suc k))

-- the first eight
eight : (text : List ℕ) → 8 ≤ length text →
    take 8 text ≡ get_or text 0 0 ∷ get_or text 1 0 ∷ get_or text 2 0 ∷ get_or text 3 0 ∷ get_or text 4 0 ∷ get_or text 5 0 ∷ get_or text 6 0 ∷ get_or text 7 0 ∷ []
eight [] room = absurd (omega (arith, room))
eight (a ∷ []) room = absurd (omega (arith, room))
eight (a ∷ b ∷ []) room = absurd (omega (arith, room))
eight (a ∷ b ∷ c ∷ []) room = absurd (omega (arith, room))
eight (a ∷ b ∷ c ∷ d ∷ []) room = absurd (omega (arith, room))
eight (a ∷ b ∷ c ∷ d ∷ e ∷ []) room = absurd (omega (arith, room))
eight (a ∷ b ∷ c ∷ d ∷ e ∷ f ∷ []) room = absurd (omega (arith, room))
eight (a ∷ b ∷ c ∷ d ∷ e ∷ f ∷ g ∷ []) room = absurd (omega (arith, room))
eight (a ∷ b ∷ c ∷ d ∷ e ∷ f ∷ g ∷ h ∷ text) room = refl

module _ (text : List ℕ) (room : 8 ≤ length text) (small : (k : ℕ) → get_or text k 0 < 256) where
  -- they are the number that is loaded, and eight blanks are the number beside it
  pub loaded : from_be_bytes w64 (get_or text 0 0 ∷ get_or text 1 0 ∷ get_or text 2 0 ∷ get_or text 3 0 ∷ get_or text 4 0 ∷ get_or text 5 0 ∷ get_or text 6 0 ∷ get_or text 7 0 ∷ [])
      ≡ number_from_digits 256 (take 8 text)
  loaded = rw (eight text room) (omega arith)

  blanks : blanks_after 0 (take 8 text) ≡ 2314885530818453536
  blanks = rw (eight text room) refl

  folded_load : (load : ℕ) → load ≡ number_from_digits 256 (take 8 text) → bit_or load 2314885530818453536 ≡ number_from_digits 256 (map folded (take 8 text))
  folded_load load is = ap₂ bit_or is (sym blanks) ∙ fold_number (take 8 text) 0 0 (bytes_are 8 text small)

  -- the digits of a start, in lower case
  pub key_is : (digits : ℕ) → digits ≤ 8 → (load : ℕ) → load ≡ number_from_digits 256 (take 8 text) →
      number_from_digits 256 (map folded (take digits text)) ≡ bit_or load 2314885530818453536 / 2 ^ (64 - 8 * digits)
  key_is digits few load is =
      let rest = take (8 - digits) (drop digits text) in
      let back = map folded rest in
      let parts : 8 ≡ digits + (8 - digits) = omega (arith, few) in
      let split : take 8 text ≡ take digits text ++ rest = ap (λ n. take n text) parts ∙ take-add digits (8 - digits) text in
      let front = number_from_digits 256 (map folded (take digits text)) in
      let whole : bit_or load 2314885530818453536 ≡ number_from_digits_after 256 front back = folded_load load is
      ∙ ap (λ bytes. number_from_digits 256 (map folded bytes)) split
      ∙ ap (number_from_digits 256) (map-append folded (take digits text) rest)
      ∙ number_after_append 256 0 (map folded (take digits text)) back in
      let long : 64 - 8 * digits ≡ 8 * length back
      = omega (arith, few, room, length-map rest folded, length-take-le (8 - digits) (drop digits text) (omega (arith, length-drop digits text, room))) in
      sym (ap₂ (λ n k. n / 2 ^ k) whole long ∙ first_bytes back front (folded_bytes rest (bytes_past digits (8 - digits) text small)))

  -- the digits in front, with their number
  pub text_is : (digits : ℕ) → 0 < digits → digits ≤ 8 → digits_len 16 text ≡ digits → (load : ℕ) → load ≡ number_from_digits 256 (take 8 text) →
      IsStartText (digits_value 16 (take digits text)) (record { digits = digits; key = bit_or load 2314885530818453536 / 2 ^ (64 - 8 * digits) })
  text_is digits some few len load is = record {
    digits = take digits text;
    are_digits = subst (λ n. AllDigits 16 (take n text)) len (front_digits 16 text);
    spell = refl;
    count = length-take-le digits text (omega (arith, few, room));
    positive = some;
    few = few;
    key = key_is digits few load is;
  }

-- starts that ascend with one more that is above the last one
pub next_ascends : (starts : List ℕ) (start : ℕ) (text next : StartText) (so_far : AscendTo starts text) → IsStartText start next → so_far.last < start →
    AscendTo (starts ++ start ∷ []) next
next_ascends starts start text next so_far is above = record {
  ascend = λ i j below within. ascend_more (starts ++ start ∷ []) (length starts) before step i j below (omega (arith, within, length-append starts (start ∷ [])));
  front = starts;
  last = start;
  are = refl;
  text_is = is;
} where
  before : (i j : ℕ) → i < j → j < length starts → slice_index (starts ++ start ∷ []) i < slice_index (starts ++ start ∷ []) j
  before i j below within =
      omega (arith, so_far.ascend i j below within, get_or-append starts (start ∷ []) 0 i (omega (arith, below, within)), get_or-append starts (start ∷ []) 0 j within)

  step : 0 < length starts → slice_index (starts ++ start ∷ []) (length starts - 1) < slice_index (starts ++ start ∷ []) (length starts)
  step some =
      let front = so_far.front in
      let long : length starts ≡ length front + 1 = ap length so_far.are ∙ length-append front (so_far.last ∷ []) in
      let last : get_or starts (length starts - 1) 0 ≡ so_far.last = ap₂ (λ xs i. get_or xs i 0) so_far.are (omega (arith, long)) ∙ get_or-append_seam front so_far.last [] 0 in
      omega (arith, above, last, get_or-append starts (start ∷ []) 0 (length starts - 1) (omega (arith, some)), get_or-append_seam starts start [] 0)
