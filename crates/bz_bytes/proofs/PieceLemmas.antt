-- The pieces of a text between its slashes, and the last live one of them.
use Rattle.std.proofs.Common.{◌≡◌, ◌⊎◌, inl, inr, ℕ, ◌<◌, Bool, true, false, cond, List, [], ◌∷◌, ◌++◌, length, Some, nat_eq, refl, ap, ◌∙◌, arith}
use Rattle.std.specs.List.{list_any, onto_first}
use Rattle.std.proofs.lemmas.Bool.{or_parts, or_from, eqb-true}
use Rattle.std.proofs.lemmas.List.Splits.{slice_split-cons_no, length-slice_split}
use Rattle.bz_bytes.specs.Byte.{HasNo}
use Rattle.bz_bytes.specs.Path.{slash, is_dead, pieces, live_of, last_live}

-- a text has at least one piece
pub pieces_some : (text : List ℕ) → 0 < length (pieces text)
pieces_some text = omega (arith, length-slice_split (λ b. nat_eq b slash) text)

-- a text without a slash is one piece
pub pieces_alone : (text : List ℕ) → HasNo slash text → pieces text ≡ text ∷ []
pieces_alone [] none = refl
pieces_alone (b ∷ text) none =
    let parts = or_parts (nat_eq b slash) (list_any (λ c. nat_eq c slash) text) none in
    slice_split-cons_no (λ c. nat_eq c slash) b text parts.0 ∙ ap (onto_first b) (pieces_alone text parts.1)

-- a byte in front goes to the first piece, whatever the last one is
onto_first_more : (b : ℕ) (all : List (List ℕ)) (piece : List ℕ) → 0 < length all →
    onto_first b (all ++ piece ∷ []) ≡ onto_first b all ++ piece ∷ []
onto_first_more b [] piece some = absurd (omega arith)
onto_first_more b (first ∷ all) piece some = refl

-- what stands after the last slash is the last piece
pub pieces_last : (front rest : List ℕ) → HasNo slash rest → pieces (front ++ slash ∷ rest) ≡ pieces front ++ rest ∷ []
pieces_last [] rest none = ap (λ all. [] ∷ all) (pieces_alone rest none)
pieces_last (b ∷ front) rest none = by_test (nat_eq b slash) (pieces_last front rest none) where
  by_test : (cut : Bool) → pieces (front ++ slash ∷ rest) ≡ pieces front ++ rest ∷ [] →
      cond cut ([] ∷ pieces (front ++ slash ∷ rest)) (onto_first b (pieces (front ++ slash ∷ rest)))
      ≡ cond cut ([] ∷ pieces front) (onto_first b (pieces front)) ++ rest ∷ []
  by_test true last = ap (λ all. [] ∷ all) last
  by_test false last = ap (onto_first b) last ∙ onto_first_more b (pieces front) rest (pieces_some front)

-- a text has no slash, or a last one
pub last_slash : (text : List ℕ) → HasNo slash text ⊎ ((front : List ℕ) × (rest : List ℕ) × (text ≡ front ++ slash ∷ rest) × HasNo slash rest)
last_slash [] = inl refl
last_slash (b ∷ text) = by_cases (nat_eq b slash) refl (last_slash text) where
  by_cases : (cut : Bool) → nat_eq b slash ≡ cut → HasNo slash text ⊎ ((front : List ℕ) × (rest : List ℕ) × (text ≡ front ++ slash ∷ rest) × HasNo slash rest) →
      HasNo slash (b ∷ text) ⊎ ((front : List ℕ) × (rest : List ℕ) × (b ∷ text ≡ front ++ slash ∷ rest) × HasNo slash rest)
  by_cases cut test (inr at) = inr (b ∷ at.0, at.1, ap (λ t. b ∷ t) at.2, at.3)
  by_cases true test (inl none) = inr ([], text, ap (λ c. c ∷ text) (eqb-true b slash test), none)
  by_cases false test (inl none) = inl (or_from _ _ test none)

-- a dead piece at the end leaves the last live one as it is
pub last_live-dead : (first : Bool) (all : List (List ℕ)) (piece : List ℕ) → 0 < length all → is_dead false piece ≡ true →
    last_live first (all ++ piece ∷ []) ≡ last_live first all
last_live-dead first [] piece some dead = absurd (omega arith)
last_live-dead first (other ∷ []) piece some dead = rw dead refl
last_live-dead first (other ∷ next ∷ all) piece some dead = ap (live_of first other) (last_live-dead false (next ∷ all) piece (omega arith) dead)

-- a live piece at the end is the last live one
pub last_live-live : (first : Bool) (all : List (List ℕ)) (piece : List ℕ) → 0 < length all → is_dead false piece ≡ false →
    last_live first (all ++ piece ∷ []) ≡ Some (all, piece)
last_live-live first [] piece some live = absurd (omega arith)
last_live-live first (other ∷ []) piece some live = rw live refl
last_live-live first (other ∷ next ∷ all) piece some live = ap (live_of first other) (last_live-live false (next ∷ all) piece (omega arith) live)
