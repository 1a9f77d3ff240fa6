-- Pieces at the front of bytes.
use Rattle.std.proofs.Common.{◌≡◌, ℕ, suc, ◌+◌, ◌-◌, ◌<◌, ◌≤◌, true, List, [], ◌∷◌, ◌++◌, length, take, drop, Option, Some, None, option_map, nat_eq, refl, sym, ap, ◌∙◌, arith, drop-cons, add-one, get_or}
use Rattle.std.specs.List.{slice_index, slice_index_or, list_any}
use Rattle.std.specs.Int.{w16, w32, w64, from_le_bytes}
use Rattle.std.proofs.lemmas.Bool.{le-leb, lt-leb, eqb-true, or_parts}
use Rattle.std.proofs.lemmas.List.{take_rest, drop-drop, length-drop, take-append-drop}
use Rattle.std.proofs.lemmas.Option.{none-some}
use Rattle.bz_bytes.specs.Cursor.{with_rest, byte_at, slice_at, little, word_at, cstr_at, skip_at}
use Rattle.bz_bytes.specs.Byte.{zero_byte, HasNo}

-- where the bytes suffice, the slice is those in front
pub slice_enough : (count : ℕ) (bytes : List ℕ) → count ≤ length bytes →
    Some (take count bytes, take (length bytes - count) (drop count bytes)) ≡ slice_at count bytes
unfolding slice_at
slice_enough count bytes enough = rw (le-leb count (length bytes) enough, take_rest bytes count) refl

-- and else there is none
pub slice_short : (count : ℕ) (bytes : List ℕ) → length bytes < count → None ≡ slice_at count bytes
unfolding slice_at
slice_short count bytes short = rw (lt-leb count (length bytes) short) refl

-- what is left after some more bytes lies from its place on
pub placed_later : (all left : List ℕ) (count : ℕ) → left ≡ drop (length all - length left) all → count ≤ length left →
    ◌≡◌ {A = List ℕ} (take (length left - count) (drop count left)) (drop (length all - length (take (length left - count) (drop count left))) all)
placed_later all left count placed enough =
    let within : length left ≤ length all = omega (arith, ap length placed ∙ length-drop (length all - length left) all) in
    let later : length all - length left + count ≡ length all - length (drop count left) = omega (arith, length-drop count left) in
    rw (take_rest left count) (ap (drop count) placed ∙ drop-drop count (length all - length left) all ∙ ap (λ n. drop n all) later)

-- the number that two, four or eight bytes make
pub little_2 : (bytes : List ℕ) → length bytes ≡ 2 →
    from_le_bytes w16 (slice_index_or bytes 0 0 ∷ slice_index_or bytes 1 0 ∷ []) ≡ little bytes
little_2 ([]) is = absurd (omega arith)
little_2 (a ∷ []) is = absurd (omega arith)
little_2 (a ∷ b ∷ []) is = omega arith
little_2 (a ∷ b ∷ c ∷ more) is = absurd (omega arith)

pub little_4 : (bytes : List ℕ) → length bytes ≡ 4 →
    from_le_bytes w32 (slice_index_or bytes 0 0 ∷ slice_index_or bytes 1 0 ∷ slice_index_or bytes 2 0 ∷ slice_index_or bytes 3 0 ∷ []) ≡ little bytes
little_4 ([]) is = absurd (omega arith)
little_4 (a ∷ []) is = absurd (omega arith)
little_4 (a ∷ b ∷ []) is = absurd (omega arith)
little_4 (a ∷ b ∷ c ∷ []) is = absurd (omega arith)
little_4 (a ∷ b ∷ c ∷ d ∷ []) is = omega arith
little_4 (a ∷ b ∷ c ∷ d ∷ e ∷ more) is = absurd (omega arith)

pub little_8 : (bytes : List ℕ) → length bytes ≡ 8 →
    from_le_bytes w64 (slice_index_or bytes 0 0 ∷ slice_index_or bytes 1 0 ∷ slice_index_or bytes 2 0 ∷ slice_index_or bytes 3 0 ∷ slice_index_or bytes 4 0 ∷ slice_index_or bytes 5 0 ∷ slice_index_or bytes 6 0 ∷ slice_index_or bytes 7 0 ∷ []) ≡ little bytes
little_8 ([]) is = absurd (omega arith)
little_8 (a ∷ []) is = absurd (omega arith)
little_8 (a ∷ b ∷ []) is = absurd (omega arith)
little_8 (a ∷ b ∷ c ∷ []) is = absurd (omega arith)
little_8 (a ∷ b ∷ c ∷ d ∷ []) is = absurd (omega arith)
little_8 (a ∷ b ∷ c ∷ d ∷ e ∷ []) is = absurd (omega arith)
little_8 (a ∷ b ∷ c ∷ d ∷ e ∷ f ∷ []) is = absurd (omega arith)
little_8 (a ∷ b ∷ c ∷ d ∷ e ∷ f ∷ g ∷ []) is = absurd (omega arith)
little_8 (a ∷ b ∷ c ∷ d ∷ e ∷ f ∷ g ∷ h ∷ []) is = omega arith
little_8 (a ∷ b ∷ c ∷ d ∷ e ∷ f ∷ g ∷ h ∷ i ∷ more) is = absurd (omega arith)

-- a number is that of its slice
pub word_of : (size : ℕ) (left rest : List ℕ) (found : Option (List ℕ)) → with_rest found rest ≡ slice_at size left →
    with_rest (option_map little found) rest ≡ word_at size left
unfolding word_at
word_of size left rest None is = ap (option_map (λ cut. (little cut.0, cut.1))) is
word_of size left rest (Some text) is = ap (option_map (λ cut. (little cut.0, cut.1))) is

slice_1 : (b : ℕ) (left : List ℕ) → slice_at 1 (b ∷ left) ≡ Some (b ∷ [], left)
unfolding slice_at
slice_1 b left = rw (le-leb 1 (length (b ∷ left)) (omega arith)) refl

-- a byte is the slice of one
pub byte_of : (left rest : List ℕ) (found : Option (List ℕ)) → with_rest found rest ≡ slice_at 1 left →
    with_rest (option_map (λ text. slice_index_or text 0 0) found) rest ≡ byte_at left
unfolding byte_at
byte_of [] rest None is = refl
byte_of [] rest (Some text) is = absurd (none-some _ (slice_short 1 [] (omega arith) ∙ sym is))
byte_of (b ∷ left) rest None is = absurd (none-some _ (is ∙ slice_1 b left))
byte_of (b ∷ left) rest (Some text) is = ap (option_map (λ (cut : List ℕ × List ℕ). (slice_index_or cut.0 0 0, cut.1))) (is ∙ slice_1 b left)

-- going on is reading a slice
pub skip_of : (count : ℕ) (left rest : List ℕ) (found : Option (List ℕ)) → with_rest found rest ≡ slice_at count left →
    with_rest (option_map (λ _. tt {0}) found) rest ≡ skip_at count left
unfolding skip_at
skip_of count left rest None is = ap (option_map (λ (cut : List ℕ × List ℕ). (tt {0}, cut.1))) is
skip_of count left rest (Some text) is = ap (option_map (λ (cut : List ℕ × List ℕ). (tt {0}, cut.1))) is

-- a text, its zero byte, and what follows
pub cstr_again : (text rest : List ℕ) → HasNo zero_byte text → cstr_at (text ++ zero_byte ∷ rest) ≡ Some (text, rest)
unfolding cstr_at
cstr_again [] rest none = refl
cstr_again (b ∷ text) rest none =
    let parts = or_parts (nat_eq b zero_byte) (list_any (λ x. nat_eq x zero_byte) text) none in
    rw (parts.0, cstr_again text rest parts.1) refl

-- the text ends at the first zero byte
pub cstr_found : (left : List ℕ) (k : ℕ) → k < length left → HasNo zero_byte (take k left) → nat_eq (slice_index left k) zero_byte ≡ true →
    Some (take k left, take (length left - (k + 1)) (drop (k + 1) left)) ≡ cstr_at left
cstr_found left k within none is =
    let split : left ≡ take k left ++ zero_byte ∷ drop (k + 1) left =
    sym (take-append-drop k left)
    ∙ ap (λ rest. take k left ++ rest) (drop-cons left k 0 within)
    ∙ ap (λ b. take k left ++ b ∷ drop (suc k) left) (eqb-true (get_or left k 0) zero_byte is)
    ∙ ap (λ n. take k left ++ zero_byte ∷ drop n left) (sym (add-one k)) in
    ap (λ rest. Some (take k left, rest)) (take_rest left (k + 1))
    ∙ sym (ap cstr_at split ∙ cstr_again (take k left) (drop (k + 1) left) none)

-- without a zero byte there is no text
pub cstr_missing : (left : List ℕ) → HasNo zero_byte left → None ≡ cstr_at left
unfolding cstr_at
cstr_missing [] none = refl
cstr_missing (b ∷ left) none =
    let parts = or_parts (nat_eq b zero_byte) (list_any (λ x. nat_eq x zero_byte) left) none in
    rw (parts.0, ← cstr_missing left parts.1) refl
