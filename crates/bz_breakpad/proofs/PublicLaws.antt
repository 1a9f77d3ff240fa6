-- The PUBLIC record that answers for an address is the nearest one,
-- and there is none exactly where each starts above it.
use Rattle.std.proofs.Common.{◌≡◌, ◌⊎◌, inl, inr, ℕ, zero, suc, ◌<◌, ◌≤◌, List, [], ◌∷◌, Some, None, refl, sym, ap, subst, ◌∙◌, arith}
use Rattle.std.specs.List.{slice_get}
use Rattle.std.proofs.lemmas.Bool.{cases_lt}
use Rattle.std.proofs.lemmas.Option.{none-some, same_Some}
use Rattle.bz_breakpad.specs.Plain.{IsNearestPublic, public_at}
use Rattle.bz_breakpad_lines.specs.Table.{PublicSymbol}
use Rattle.bz_breakpad.proofs.PublicLemmas.{public_again, public_none}

module _ (addr : ℕ) where
  -- one of the records is the nearest
  record HasNearest (publics : List PublicSymbol) : Type 0 where
    place : ℕ
    symbol : PublicSymbol
    is : IsNearestPublic publics addr place symbol

  -- each starts above the address
  abbrev pub AreAbove : List PublicSymbol → Type 0
  AreAbove publics = (i : ℕ) (q : PublicSymbol) → slice_get publics i ≡ Some q → addr < q.start

  nearest_or_none : (publics : List PublicSymbol) → HasNearest publics ⊎ AreAbove publics
  nearest_or_none [] = inr (λ i q there. absurd (none-some q there))
  nearest_or_none (x ∷ publics) = elim (nearest_or_none publics) [
    | inl found ↦ elim (cases_lt addr x.start) [
      | inl above ↦ inl (later found (λ low. absurd (omega arith)))
      | inr low ↦ elim (cases_lt x.start found.symbol.start) [
        | inl less ↦ inl (later found (λ _. less))
        | inr more ↦ inl (here low (λ i q there below. let near : q.start ≤ found.symbol.start = found.is.closest i q there below in omega arith))
      ]
    ]
    | inr above ↦ elim (cases_lt addr x.start) [
      | inl over ↦ inr (each above over)
      | inr low ↦ inl (here low (λ i q there below. absurd (omega (arith, above i q there))))
    ]
  ] where
    here : x.start ≤ addr → ((i : ℕ) (q : PublicSymbol) → slice_get publics i ≡ Some q → q.start ≤ addr → q.start ≤ x.start) → HasNearest (x ∷ publics)
    here low closest = record { place = 0; symbol = x; is = record { there = refl; not_above = low; closest = near; first = λ i q there same. omega arith } } where
      near : (i : ℕ) (q : PublicSymbol) → slice_get (x ∷ publics) i ≡ Some q → q.start ≤ addr → q.start ≤ x.start
      near zero q there below = let e : q.start ≡ x.start = ap (λ (p : PublicSymbol). p.start) (sym (same_Some x q there)) in omega arith
      near (suc i) q there below = closest i q there below

    later : (found : HasNearest publics) → (x.start ≤ addr → x.start < found.symbol.start) → HasNearest (x ∷ publics)
    later found less = record {
      place = suc found.place;
      symbol = found.symbol;
      is = record { there = found.is.there; not_above = found.is.not_above; closest = near; first = after };
    } where
      near : (i : ℕ) (q : PublicSymbol) → slice_get (x ∷ publics) i ≡ Some q → q.start ≤ addr → q.start ≤ found.symbol.start
      near zero q there below = let e : q.start ≡ x.start = ap (λ (p : PublicSymbol). p.start) (sym (same_Some x q there)) in omega (arith, less)
      near (suc i) q there below = found.is.closest i q there below

      after : (i : ℕ) (q : PublicSymbol) → slice_get (x ∷ publics) i ≡ Some q → q.start ≡ found.symbol.start → suc found.place ≤ i
      after zero q there same =
          let e : q.start ≡ x.start = ap (λ (p : PublicSymbol). p.start) (sym (same_Some x q there)) in
          absurd (omega (arith, less, found.is.not_above))
      after (suc i) q there same = let k : found.place ≤ i = found.is.first i q there same in omega arith

    each : AreAbove publics → addr < x.start → AreAbove (x ∷ publics)
    each above over zero q there = let e : q.start ≡ x.start = ap (λ (p : PublicSymbol). p.start) (sym (same_Some x q there)) in omega arith
    each above over (suc i) q there = above i q there

  -- the nearest is found
  pub nearest_again : (publics : List PublicSymbol) (place : ℕ) (p : PublicSymbol) → IsNearestPublic publics addr place p → public_at addr publics ≡ Some p
  nearest_again publics place p is = public_again addr publics place p is.there is.not_above is.closest is.first

  -- what is found is the nearest
  pub nearest_is : (publics : List PublicSymbol) (p : PublicSymbol) → public_at addr publics ≡ Some p → (place : ℕ) × IsNearestPublic publics addr place p
  nearest_is publics p found = elim (nearest_or_none publics) [
    | inl n ↦
        let same : n.symbol ≡ p = same_Some n.symbol p (sym (nearest_again publics n.place n.symbol n.is) ∙ found) in
        (n.place, subst (IsNearestPublic publics addr n.place) same n.is)
    | inr above ↦ absurd (none-some p (sym (public_none addr publics above) ∙ found))
  ]

  -- where none is found, each starts above
  pub none_above : (publics : List PublicSymbol) → public_at addr publics ≡ None → AreAbove publics
  none_above publics none = elim (nearest_or_none publics) [
    | inl n ↦ absurd (none-some n.symbol (sym none ∙ nearest_again publics n.place n.symbol n.is))
    | inr above ↦ above
  ]
