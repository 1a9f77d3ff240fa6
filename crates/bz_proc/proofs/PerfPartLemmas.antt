-- Perf maps are cut exactly into their parts.
use Rattle.std.proofs.Common.{◌≡◌, ℕ, Bool, true, false, List, [], ◌∷◌, ◌++◌, refl, ap, ◌∙◌}
use Rattle.std.specs.Prelude.{◌||◌}
use Rattle.std.specs.List.{list_any, onto_first}
use Rattle.bz_proc.specs.PerfLines.{AreParts, HasNoEnd, ends_line, perf_parts}

-- a byte that ends no line goes before the first part
onto_part : (b : ℕ) (text : List ℕ) (parts : List (List ℕ)) → ends_line b ≡ false → AreParts text parts → AreParts (b ∷ text) (onto_first b parts)
onto_part b text [] is are = absurd are
onto_part b text (part ∷ []) is are = (ap (λ l. b ∷ l) are.0, rw is are.1)
onto_part b text (part ∷ next ∷ later) is are =
    (rw is are.0, are.1, are.2, are.3, ap (λ l. b ∷ l) are.4, are.5)

-- and one that ends a line begins a new part
new_part : (b : ℕ) (text : List ℕ) (parts : List (List ℕ)) → ends_line b ≡ true → AreParts text parts → AreParts (b ∷ text) ([] ∷ parts)
new_part b text [] is are = absurd are
new_part b text (part ∷ later) is are = (refl, b, text, is, refl, are)

pub parts_are : (bytes : List ℕ) → AreParts bytes (perf_parts bytes)
parts_are [] = (refl, refl)
parts_are (b ∷ text) = by (ends_line b) refl (parts_are text) where
  by : (ends : Bool) → ends_line b ≡ ends → AreParts text (perf_parts text) → AreParts (b ∷ text) (perf_parts (b ∷ text))
  by true is are = rw is (new_part b text (perf_parts text) is are)
  by false is are = rw is (onto_part b text (perf_parts text) is are)

or_parts : (a b : Bool) → (a || b) ≡ false → (a ≡ false) × (b ≡ false)
or_parts true b is = absurd (cc is)
or_parts false b is = (refl, is)

alone : (part : List ℕ) → HasNoEnd part → perf_parts part ≡ part ∷ []
alone [] none = refl
alone (b ∷ part) none =
    let parts = or_parts (ends_line b) (list_any ends_line part) none in
    rw (parts.0, alone part parts.1) refl

in_front : (part : List ℕ) (b : ℕ) (rest : List ℕ) → HasNoEnd part → ends_line b ≡ true → perf_parts (part ++ b ∷ rest) ≡ part ∷ perf_parts rest
in_front [] b rest none ends = rw ends refl
in_front (c ∷ part) b rest none ends =
    let parts = or_parts (ends_line c) (list_any ends_line part) none in
    rw (parts.0, in_front part b rest parts.1 ends) refl

pub parts_again : (parts : List (List ℕ)) (bytes : List ℕ) → AreParts bytes parts → perf_parts bytes ≡ parts
parts_again [] bytes are = absurd are
parts_again (part ∷ []) bytes are = ap perf_parts are.0 ∙ alone part are.1
parts_again (part ∷ next ∷ later) bytes are =
    ap perf_parts are.4 ∙ in_front part are.1 are.2 are.0 are.3 ∙ ap (λ l. part ∷ l) (parts_again (next ∷ later) are.2 are.5)
