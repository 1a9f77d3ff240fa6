-- What is numbered where it is first used stands at its own index, and texts at their own places.
use Rattle.std.proofs.Common.{◌≡◌, ℕ, zero, suc, ◌+◌, Bool, true, false, cond, not, List, [], ◌∷◌, length, Some, refl, ap, subst, ◌∙◌}
use Rattle.std.specs.Prelude.{slice_index_or}
use Rattle.std.specs.List.{AllByRecursion, filter, slice_get}
use Rattle.std.specs.Str.{bytes_eq}
use Rattle.std.proofs.lemmas.Option.{none-some, same_Some}
use Rattle.bz_gsym_layout.specs.Numbering.{firsts, index_of, place_from, stored}
use Rattle.bz_gsym_layout.specs.Places.{text_places}
use Rattle.bz_gsym_layout.proofs.NumberingLemmas.{text_is_same}

member : {X : Type 0} (P : X → Type 0) (xs : List X) → AllByRecursion P xs → (i : ℕ) (x : X) → slice_get xs i ≡ Some x → P x
member P [] all i x there = absurd (none-some x there)
member P (y ∷ xs) all zero x there = subst P (same_Some y x there) all.0
member P (y ∷ xs) all (suc i) x there = member P xs all.1 i x there

all_filtered : {X : Type 0} (P : X → Type 0) (test : X → Bool) (xs : List X) → AllByRecursion P xs → AllByRecursion P (filter test xs)
all_filtered P test [] all = tt
all_filtered P test (x ∷ xs) all = by (test x) (all_filtered P test xs all.1) where
  by : (b : Bool) → AllByRecursion P (filter test xs) → AllByRecursion P (cond b (x ∷ filter test xs) (filter test xs))
  by true more = (all.0, more)
  by false more = more

module _ {X : Type 0} (same : X → X → Bool) where
  -- no two are the same
  abbrev pub Differ : List X → Type 0
  Differ [] = Unit {0}
  Differ (x ∷ xs) = AllByRecursion (λ y. same x y ≡ false) xs × Differ xs

  differ_filtered : (test : X → Bool) (xs : List X) → Differ xs → Differ (filter test xs)
  differ_filtered test [] differ = tt
  differ_filtered test (x ∷ xs) differ = by (test x) (differ_filtered test xs differ.1) where
    by : (b : Bool) → Differ (filter test xs) → Differ (cond b (x ∷ filter test xs) (filter test xs))
    by true more = (all_filtered (λ y. same x y ≡ false) test xs differ.0, more)
    by false more = more

  others : (x : X) (xs : List X) → AllByRecursion (λ y. same x y ≡ false) (filter (λ y. not (same x y)) xs)
  others x [] = tt
  others x (y ∷ xs) = by (same x y) refl (others x xs) where
    by : (b : Bool) → same x y ≡ b → AllByRecursion (λ z. same x z ≡ false) (filter (λ z. not (same x z)) xs) →
        AllByRecursion (λ z. same x z ≡ false) (cond (not b) (y ∷ filter (λ z. not (same x z)) xs) (filter (λ z. not (same x z)) xs))
    by true is more = more
    by false is more = (is, more)

  pub firsts_differ : (xs : List X) → Differ (firsts same xs)
  firsts_differ [] = tt
  firsts_differ (x ∷ xs) = (others x (firsts same xs), differ_filtered (λ y. not (same x y)) (firsts same xs) (firsts_differ xs))

  -- each stands at its index
  pub index_there : ((x : X) → same x x ≡ true) → (xs : List X) → Differ xs → (i : ℕ) (x : X) → slice_get xs i ≡ Some x → index_of same x xs ≡ i
  index_there itself [] differ i x there = absurd (none-some x there)
  index_there itself (y ∷ xs) differ zero x there = rw (ap (λ z. same z x) (same_Some y x there) ∙ itself x) refl
  index_there itself (y ∷ xs) differ (suc i) x there =
      rw (member (λ z. same y z ≡ false) xs differ.0 i x there) (ap suc (index_there itself xs differ.1 i x there))

-- each text lies at its place
pub place_there : (texts : List (List ℕ)) (at : ℕ) → Differ bytes_eq texts → (i : ℕ) (text : List ℕ) → slice_get texts i ≡ Some text →
    place_from at text texts ≡ slice_index_or (text_places at texts) i 0
place_there [] at differ i text there = absurd (none-some text there)
place_there (t ∷ texts) at differ zero text there = rw (ap (λ z. bytes_eq z text) (same_Some t text there) ∙ text_is_same text) refl
place_there (t ∷ texts) at differ (suc i) text there =
    rw (member (λ z. bytes_eq t z ≡ false) texts differ.0 i text there) (place_there texts (at + length (stored t)) differ.1 i text there)
