-- A pass along the starts in the order of the addresses, and the way back to the order of the batch.
use Rattle.std.proofs.Common.{◌≡◌, ◌≢◌, ℕ, ◌+◌, ◌<◌, ◌⊎◌, inl, inr, List, [], ◌∷◌, ◌++◌, length, All, Contains, Option, None, get_or, take, length-append, refl, sym, ap, subst, ◌∙◌, arith}
use Rattle.std.specs.List.{slice_index, slice_index_or, slice_set}
use Rattle.std.proofs.lemmas.Bool.{cases_lt}
use Rattle.std.proofs.lemmas.List.{get_or-set_other}
use Rattle.std.proofs.Math.Seq.{take-append_seam}
use Rattle.std.proofs.lemmas.Grind.{get_or-set_at}
use Rattle.std.proofs.lemmas.Option.{slice_get-get_or, get_or_from_slice_get}
use Rattle.bz_search.specs.Starts.{IsAt, AreFound}
use Rattle.bz_search.specs.Sweep.{IsEntry}

-- what stands at a place doesn't depend on the default
pub any_default : {X : Type 0} (xs : List X) (k : ℕ) (d e : X) → k < length xs → get_or xs k e ≡ get_or xs k d
any_default xs k d e within = get_or_from_slice_get xs k (get_or xs k d) e (slice_get-get_or xs k d within)

module _ (addrs : List ℕ) (entries : List (ℕ × ℕ)) (count : length entries ≡ length addrs) (at : (k : ℕ) → k < length addrs → slice_index_or entries k (0, 0) ≡ (slice_index addrs k, k)) where
  -- each entry is one of the batch
  pub entry_at : All (IsEntry addrs) entries
  entry_at k d within =
      let h : k < length addrs = omega (arith, count) in
      let e : get_or entries k d ≡ (slice_index addrs k, k) = any_default entries k (0, 0) d within ∙ at k h in
      subst (IsEntry addrs) (sym e) (h, refl)

  -- and each address has its entry
  pub entry_in : (k : ℕ) → k < length addrs → Contains entries (slice_index addrs k, k)
  entry_in k within = (k, omega (arith, count), any_default entries k (0, 0) (slice_index addrs k, k) (omega (arith, count)) ∙ at k within)

-- two numbers are the same or not
same_or_other : (m n : ℕ) → (m ≡ n) ⊎ (m ≢ n)
same_or_other m n = elim (cases_lt m n) [
  | inl below ↦ inr (λ e. omega arith)
  | inr above ↦ elim (cases_lt n m) [ inl below ↦ inr (λ e. omega arith) | inr same ↦ inl (omega arith) ]
]

module _ (starts addrs : List ℕ) (order : List (ℕ × ℕ)) (entries : All (IsEntry addrs) order) where
  abbrev pub entry : ℕ → ℕ × ℕ
  entry j = slice_index_or order j (0, 0)

  -- the entries so far have their places, each at its index
  abbrev pub SoFar : ℕ → List (Option ℕ) → Type 0
  SoFar done places = (j : ℕ) → j < done → IsAt starts (entry j).0 (slice_index_or places (entry j).1 None)

  -- one more
  pub so_far_more : (done : ℕ) (places : List (Option ℕ)) (found : Option ℕ) → done < length order →
      length places ≡ length addrs → SoFar done places → IsAt starts (entry done).0 found
      → SoFar (done + 1) (slice_set places (entry done).1 found)
  so_far_more done places found more count before now j within = elim (same_or_other (entry j).1 (entry done).1) [
    | inl same ↦
        let here = entries done (0, 0) more in
        let there = entries j (0, 0) (omega arith) in
        let addr : (entry done).0 ≡ (entry j).0 = sym here.1 ∙ ap (slice_index addrs) (sym same) ∙ there.1 in
        let read : get_or (slice_set places (entry done).1 found) (entry j).1 None ≡ found = get_or-set_at places (entry done).1 (entry j).1 found None same (omega (arith, here.0, count)) in
        subst (λ o. IsAt starts (entry j).0 o) (sym read) (subst (λ a. IsAt starts a found) addr now)
    | inr other ↦
        let earlier : j < done = elim (cases_lt j done) [ inl less ↦ less | inr not_less ↦ let e : j ≡ done = omega arith in absurd (other (ap (λ i. (entry i).1) e)) ] in
        let read : get_or (slice_set places (entry done).1 found) (entry j).1 None ≡ get_or places (entry j).1 None = get_or-set_other places (entry done).1 (entry j).1 found None other in
        subst (λ o. IsAt starts (entry j).0 o) (sym read) (before j earlier)
  ]

  -- in the end each address has its place
  pub all_found : (places : List (Option ℕ)) → ((k : ℕ) → k < length addrs → Contains order (slice_index addrs k, k)) →
      SoFar (length order) places → AreFound starts addrs places
  all_found places each found k within =
      let c = each k within in
      let e : entry c.0 ≡ (slice_index addrs k, k) = any_default order c.0 (slice_index addrs k, k) (0, 0) c.1 ∙ c.2 in
      subst (λ x. IsAt starts x.0 (slice_index_or places x.1 None)) e (found c.0 c.1)

-- one put at the end makes the list longer by one
pub length_pushed : {X : Type 0} (xs after : List X) (x : X) → after ≡ xs ++ x ∷ [] → length after ≡ length xs + 1
length_pushed xs after x is = omega (arith, simp length-append at (ap length is))

-- a list of full length is the whole of what is written back
pub written_back : {X : Type 0} (n : ℕ) (xs ys : List X) → n ≡ length xs → take n (xs ++ ys) ≡ xs
written_back n xs ys full = rw (full, take-append_seam xs ys) refl
