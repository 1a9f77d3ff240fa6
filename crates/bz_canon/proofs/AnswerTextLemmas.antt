-- The texts of answers, written one after the other.
use Rattle.std.proofs.Common.{◌≡◌, ◌⊎◌, ◌≤◌, ℕ, List, [], ◌∷◌, ◌++◌, length, drop, map, min, append_assoc, refl, inl, inr, arith}
use Rattle.std.proofs.lemmas.Bool.{cases_lt}
use Rattle.std.proofs.lemmas.List.{drop_all}
use Rattle.bz_base.specs.Answer.{Answer, reading}
use Rattle.bz_base.specs.declared.types.Symbolized.{Symbolized}
use Rattle.bz_canon.specs.AnswerText.{answer_text, answer_texts}

-- the text of the first of those left goes to the end of what is written
pub texts_step : (written new : List ℕ) (addrs more : List ℕ) (answers rest : List Answer) (addr : ℕ) (answer : Answer) →
    addrs ≡ addr ∷ more → answers ≡ answer ∷ rest → new ≡ written ++ answer_text addr answer →
    new ++ answer_texts more rest ≡ written ++ answer_texts addrs answers
texts_step written new addrs more answers rest addr answer first second grows =
    rw (first, second, grows) (append_assoc written (answer_text addr answer) (answer_texts more rest))

-- behind the last address no text is left
pub texts_none : (n : ℕ) (addrs : List ℕ) (answers : List Answer) → length addrs ≤ n → answer_texts (drop n addrs) answers ≡ []
texts_none n addrs answers past = rw (drop_all n addrs past) refl

-- past the lesser of two lengths one of them is past
pub past_either : (a b n : ℕ) → min a b ≤ n → (a ≤ n) ⊎ (b ≤ n)
past_either a b n past = elim (cases_lt n a) [
  | inl below ↦ inr (first_of (omega (arith, past), grind (arith, past)))
  | inr above ↦ inl above
]

no_answers : (addrs : List ℕ) → answer_texts addrs [] ≡ []
no_answers [] = refl
no_answers (addr ∷ addrs) = refl

-- nor behind the last answer
pub texts_end : (n : ℕ) (addrs : List ℕ) (answers : List Answer) → (length addrs ≤ n) ⊎ (length answers ≤ n) → answer_texts (drop n addrs) (drop n answers) ≡ []
texts_end n addrs answers (inl past) = texts_none n addrs (drop n answers) past
texts_end n addrs answers (inr past) = rw (drop_all n answers past) (no_answers (drop n addrs))

-- so with answers that the code has
pub texts_past : (n : ℕ) (addrs : List ℕ) (answers : List Symbolized) → min (length addrs) (length answers) ≤ n → answer_texts (drop n addrs) (map reading (drop n answers)) ≡ []
texts_past n addrs answers past = elim (past_either (length addrs) (length answers) n past) [
  | inl end ↦ texts_none n addrs (map reading (drop n answers)) end
  | inr end ↦ rw (drop_all n answers end) (no_answers (drop n addrs))
]
