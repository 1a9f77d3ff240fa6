-- Bytes that don't stand in a text.
use Rattle.std.proofs.Common.{◌≡◌, ℕ, zero, suc, ◌<◌, ◌≤◌, true, List, [], ◌∷◌, ◌++◌, length, take, nat_eq, refl, sym, subst, ◌∙◌, arith}
use Rattle.std.specs.Char.{digit_value}
use Rattle.std.specs.List.{slice_index, list_any}
use Rattle.std.specs.Str.Parse.{AllDigits}
use Rattle.std.proofs.lemmas.Bool.{or_parts, or_from, false_from_ne_true, ne_eqb}
use Rattle.std.proofs.lemmas.List.Folds.{list_any-append}
use Rattle.bz_bytes.specs.Byte.{HasNo}

-- a byte that doesn't stand at a place before k isn't among the first k bytes
pub HasNo-take : (byte : ℕ) (text : List ℕ) (k : ℕ) →
    ((i : ℕ) → i < k → i < length text → nat_eq (slice_index text i) byte ≡ true → ⊥) → HasNo byte (take k text)
HasNo-take byte [] zero nowhere = refl
HasNo-take byte [] (suc k) nowhere = refl
HasNo-take byte (b ∷ text) zero nowhere = refl
HasNo-take byte (b ∷ text) (suc k) nowhere =
    or_from _ _ (false_from_ne_true _ (nowhere 0 (omega arith) (omega arith)))
    (HasNo-take byte text k (λ i below within. nowhere (suc i) (omega arith) (omega arith)))

-- a byte that stands at no place isn't in the text
pub HasNo-nowhere : (byte : ℕ) (text : List ℕ) → ((i : ℕ) → i < length text → nat_eq (slice_index text i) byte ≡ true → ⊥) →
    HasNo byte text
HasNo-nowhere byte [] nowhere = refl
HasNo-nowhere byte (b ∷ text) nowhere =
    or_from _ _ (false_from_ne_true _ (nowhere 0 (omega arith)))
    (HasNo-nowhere byte text (λ i within. nowhere (suc i) (omega arith)))

-- a byte that isn't in a text isn't in its end
pub HasNo-after : (byte : ℕ) (front rest : List ℕ) → HasNo byte (front ++ rest) → HasNo byte rest
HasNo-after byte front rest none =
    (or_parts (list_any (λ b. nat_eq b byte) front) (list_any (λ b. nat_eq b byte) rest) (sym (list_any-append (λ b. nat_eq b byte) front rest) ∙ none)).1

-- a byte that is no digit of the base isn't among digits
pub HasNo-digits : (base byte : ℕ) (text : List ℕ) → base ≤ digit_value byte → AllDigits base text → HasNo byte text
HasNo-digits base byte [] no_digit digits = refl
HasNo-digits base byte (b ∷ text) no_digit digits =
    let P : ℕ → Type 0 = λ c. digit_value c < base in
    let other = ne_eqb b byte (λ same. let small : digit_value byte < base = subst P same digits.0 in omega arith) in
    or_from _ _ other (HasNo-digits base byte text no_digit digits.1)
