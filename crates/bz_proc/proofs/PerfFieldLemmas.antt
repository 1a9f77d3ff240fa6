-- Where a byte that separates, or one that ends a line, comes first.
use Rattle.std.proofs.Common.{◌≡◌, ℕ, ◌+◌, ◌-◌, ◌<◌, Bool, true, not, nat_lt, List, [], ◌∷◌, ◌++◌, length, take, drop, get_or, Some, None, refl, sym, ap, ◌∙◌, arith}
use Rattle.std.specs.List.{list_all, prefix_len}
use Rattle.std.proofs.lemmas.Bool.{and_parts, false_from_ne_true, le-ltb, lt-ltb, ltb-true, not-false}
use Rattle.std.proofs.lemmas.List.{drop_more, take-append-drop, take_rest}
use Rattle.std.proofs.lemmas.List.Sums.{prefix_len_is, prefix_len_stops}
use Rattle.std.proofs.lemmas.Option.{cond_some}
use Rattle.std.proofs.Math.Seq.{drop-append-add, take-append_seam}
use Rattle.memchr.specs.Find.{IsFirstByte}
use Rattle.bz_proc.specs.PerfLine.{field_at, field_len, separates}

module _ (test : ℕ → Bool) (text : List ℕ) where
  -- the first byte that passes
  pub first_at : (place : ℕ) → IsFirstByte test text (Some place) → (prefix_len (λ b. not (test b)) text ≡ place) × (place < length text)
  first_at place first = (
    prefix_len_is (λ b. not (test b)) text place 0 (omega (arith, first.0.high))
        (λ k below. ap not (false_from_ne_true _ (first.0.before k (omega arith) below))) (λ within. ap not first.1),
    first.0.high,
  )

  -- no byte passes
  pub first_nowhere : IsFirstByte test text None → prefix_len (λ b. not (test b)) text ≡ length text
  first_nowhere none =
      prefix_len_is (λ b. not (test b)) text (length text) 0 (omega arith)
      (λ k within. ap not (false_from_ne_true _ (none k (omega arith) within))) (λ past. absurd (omega arith))

module _ (text : List ℕ) where
  pub field_some : (len : ℕ) → IsFirstByte separates text (Some len) → Some (take len text, take (length text - (len + 1)) (drop (len + 1) text)) ≡ field_at text
  unfolding field_at
  field_some len first =
      let is = first_at separates text len first in
      rw (is.0, lt-ltb len (length text) is.1) (ap (λ rest. Some (take len text, rest)) (take_rest text (len + 1)))

  pub field_none : IsFirstByte separates text None → None ≡ field_at text
  unfolding field_at
  field_none none = rw (first_nowhere separates text none, le-ltb (length text) (length text) (omega arith)) refl

  -- a field and the text after it, with the byte between them
  pub field_found : (field rest : List ℕ) → field_at text ≡ Some (field, rest) → (b : ℕ) × (separates b ≡ true) × (text ≡ field ++ b ∷ rest)
  unfolding field_at
  field_found field rest read =
      let n = field_len text in
      let parts = cond_some (nat_lt n (length text)) (take n text, drop (n + 1) text) (field, rest) read in
      let within : n < length text = ltb-true n (length text) parts.0 in
      let b = get_or text n 0 in
      let front : take n text ≡ field = ap (λ r. r.0) parts.1 in
      let back : drop (n + 1) text ≡ rest = ap (λ r. r.1) parts.1 in (
        b,
        not-false (separates b) (prefix_len_stops (λ c. not (separates c)) text 0 within),
        sym (take-append-drop n text) ∙ ap (λ l. take n text ++ l) (drop_more text n 0 within) ∙ ap (λ l. l ++ b ∷ drop (n + 1) text) front ∙ ap (λ l. field ++ b ∷ l) back,
      )

-- a field that holds no byte that separates ends at the first one
field_len-front : (field rest : List ℕ) (b : ℕ) → list_all (λ c. not (separates c)) field ≡ true → separates b ≡ true → field_len (field ++ b ∷ rest) ≡ length field
field_len-front [] rest b all ends = rw ends refl
field_len-front (c ∷ field) rest b all ends =
    let parts = and_parts (not (separates c)) (list_all (λ d. not (separates d)) field) all in
    rw parts.0 (omega (arith, field_len-front field rest b parts.1 ends))

length-seam : (field rest : List ℕ) (b : ℕ) → length field < length (field ++ b ∷ rest)
length-seam [] rest b = omega arith
length-seam (c ∷ field) rest b = omega (arith, length-seam field rest b)

pub field_again : (field rest : List ℕ) (b : ℕ) → list_all (λ c. not (separates c)) field ≡ true → separates b ≡ true → field_at (field ++ b ∷ rest) ≡ Some (field, rest)
unfolding field_at
field_again field rest b all ends =
    rw (field_len-front field rest b all ends, lt-ltb (length field) (length (field ++ b ∷ rest)) (length-seam field rest b), take-append_seam field (b ∷ rest), drop-append-add field (b ∷ rest) 1) refl
