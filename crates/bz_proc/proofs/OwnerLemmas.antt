-- Where the mapping stands that answers for an address: by a look through the mappings, and by a search
-- among what they reach.
use Rattle.std.proofs.Common.{◌≡◌, ◌⊎◌, ℕ, zero, suc, ◌+◌, ◌<◌, ◌≤◌, true, false, not, List, [], ◌∷◌, length, map, get_or, Some, None, nat_lt, nat_le, inl, inr, refl, sym, ap, ◌∙◌, arith}
use Rattle.std.specs.List.{prefix_len, position_or_len}
use Rattle.std.specs.List.Sorted.{IsPartitionedBy, IsPartitionPoint}
use Rattle.std.specs.Option.{option_and_then}
use Rattle.std.proofs.lemmas.Bool.{cond_both, cases_lt, lt-ltb, le-ltb, lt-leb, le-leb, ltb-false, leb-true}
use Rattle.std.proofs.lemmas.List.Sums.{prefix_len_is}
use Rattle.std.proofs.lemmas.Option.{slice_get_past}
use Rattle.bz_proc.specs.Maps.{Mapping, mapping_of, ends_above, if_begins, owner_in}
use Rattle.bz_proc.specs.Reach.{reach, reached_from, reached}
use Rattle.bz_proc.specs.declared.maps.MapsEntry.{MapsEntry}

-- one number isn't below another where that is at most it
not_below : (a b : ℕ) → nat_le b a ≡ not (nat_lt a b)
not_below a b = elim (cases_lt a b) [ inl below ↦ rw (lt-leb b a below, lt-ltb a b below) refl | inr above ↦ rw (le-leb b a above, le-ltb a b above) refl ]

-- where the first mapping that ends above stands, decides
pub owner_at : (mappings : List Mapping) (addr : ℕ) → if_begins mappings addr (position_or_len (ends_above addr) mappings) ≡ owner_in mappings addr
owner_at mappings addr =
    let place = position_or_len (ends_above addr) mappings in
    cond_both (nat_lt place (length mappings)) (Some place) None (λ found. if_begins mappings addr place ≡ option_and_then (if_begins mappings addr) found)
    (λ within. refl)
    (λ past. rw (slice_get_past mappings place (ltb-false place (length mappings) past)) refl)

-- the place among the values of the code
pub place_seen : (addr : ℕ) (entries : List MapsEntry) →
    prefix_len (λ (entry : MapsEntry). nat_le entry.range.«end» addr) entries ≡ position_or_len (ends_above addr) (map mapping_of entries)
place_seen addr [] = refl
place_seen addr (entry ∷ entries) = rw (not_below addr entry.range.«end», place_seen addr entries) refl

module _ (mapping : Mapping) where
  -- what is reached is as far as what was
  reach_more : (before : ℕ) → before ≤ reach before mapping
  reach_more before = cond_both (nat_lt before mapping.past) mapping.past before (λ n. before ≤ n) (λ below. ltb-le before mapping.past below) (λ above. omega arith)
    where
      ltb-le : (a b : ℕ) → nat_lt a b ≡ true → a ≤ b
      ltb-le a b below = grind arith

  -- it is no further than an address that neither passes
  reach_within : (before addr : ℕ) → before ≤ addr → mapping.past ≤ addr → reach before mapping ≤ addr
  reach_within before addr low past = cond_both (nat_lt before mapping.past) mapping.past before (λ n. n ≤ addr) (λ below. past) (λ above. low)

  -- it is above an address where the mapping ends above it, if what was reached isn't
  reach_above : (before addr : ℕ) → before ≤ addr → nat_le (reach before mapping) addr ≡ not (nat_lt addr mapping.past)
  reach_above before addr low =
      elim (cases_lt addr mapping.past) [
        | inl above ↦
            let far : before < mapping.past = omega arith in
            rw (lt-ltb before mapping.past far, lt-leb mapping.past addr above, lt-ltb addr mapping.past above) refl
        | inr below ↦ rw (le-leb (reach before mapping) addr (reach_within before addr low below), le-ltb addr mapping.past below) refl
      ]

-- nothing that is reached is below what was reached before
reached_more : (before : ℕ) (mappings : List Mapping) (j d : ℕ) → j < length (reached_from before mappings) → before ≤ get_or (reached_from before mappings) j d
reached_more before [] j d within = absurd (omega arith)
reached_more before (mapping ∷ mappings) zero d within = reach_more mapping before
reached_more before (mapping ∷ mappings) (suc j) d within =
    let first = reach_more mapping before in
    let later = reached_more (reach before mapping) mappings j d (omega arith) in
    omega (arith, first, later)

-- what is reached never descends
reached_ascends : (before : ℕ) (mappings : List Mapping) (i j d : ℕ) → i ≤ j → j < length (reached_from before mappings) →
    get_or (reached_from before mappings) i d ≤ get_or (reached_from before mappings) j d
reached_ascends before [] i j d ordered within = absurd (omega arith)
reached_ascends before (mapping ∷ mappings) zero zero d ordered within = omega arith
reached_ascends before (mapping ∷ mappings) zero (suc j) d ordered within = reached_more (reach before mapping) mappings j d (omega arith)
reached_ascends before (mapping ∷ mappings) (suc i) zero d ordered within = absurd (omega arith)
reached_ascends before (mapping ∷ mappings) (suc i) (suc j) d ordered within = reached_ascends (reach before mapping) mappings i j d (omega arith) (omega arith)

-- so an address parts it
pub reached_parted : (addr : ℕ) (mappings : List Mapping) → IsPartitionedBy (λ n. nat_le n addr) (reached mappings)
reached_parted addr mappings i j d ordered within low =
    let up = reached_ascends 0 mappings i j d ordered within in
    let at = leb-true (get_or (reached mappings) j d) addr low in
    le-leb (get_or (reached mappings) i d) addr (omega (arith, up, at))

-- at the first mapping that ends above it
reached_place : (addr before : ℕ) (mappings : List Mapping) → before ≤ addr →
    prefix_len (λ n. nat_le n addr) (reached_from before mappings) ≡ position_or_len (ends_above addr) mappings
reached_place addr before [] low = refl
reached_place addr before (mapping ∷ mappings) low = by (cases_lt addr mapping.past) (λ later. reached_place addr (reach before mapping) mappings later)
  where
    by : (addr < mapping.past) ⊎ (mapping.past ≤ addr) →
        (reach before mapping ≤ addr → prefix_len (λ n. nat_le n addr) (reached_from (reach before mapping) mappings) ≡ position_or_len (ends_above addr) mappings) →
        prefix_len (λ n. nat_le n addr) (reached_from before (mapping ∷ mappings)) ≡ position_or_len (ends_above addr) (mapping ∷ mappings)
    by (inl above) more = rw (reach_above mapping before addr low, lt-ltb addr mapping.past above) refl
    by (inr below) more =
        rw (reach_above mapping before addr low, le-ltb addr mapping.past below) (ap (λ n. 1 + n) (more (reach_within mapping before addr low below)))

-- a search ends there
pub place_searched : (addr : ℕ) (mappings : List Mapping) (place : ℕ) → place ≤ length (reached mappings) →
    IsPartitionPoint (λ n. nat_le n addr ≡ true) (λ n. nat_le n addr ≡ false) (reached mappings) place →
    place ≡ position_or_len (ends_above addr) mappings
place_searched addr mappings place within point =
    sym (prefix_len_is (λ n. nat_le n addr) (reached mappings) place 0 within (λ k below. point.0 k 0 (omega arith) below) (λ inside. point.1 place 0 (omega arith) inside))
    ∙ reached_place addr 0 mappings (omega arith)
