-- Records of one size side by side, one after another.
use Rattle.std.proofs.Common.{◌≡◌, ℕ, zero, suc, ◌+◌, ◌-◌, ◌*◌, ◌<◌, ◌≤◌, Bool, true, false, List, [], ◌∷◌, ◌++◌, map, Option, Some, None, append_assoc, refl, sym, ap, ◌∙◌, arith}
use Rattle.std.specs.List.{filter_map, find, range_with_len, slice_get}
use Rattle.std.proofs.lemmas.List.{append-nil}
use Rattle.bz_elf.specs.Parts.{places}

-- the places of so many records, from that of an index on
abbrev pub places_from : ℕ → ℕ → ℕ → ℕ → List ℕ
places_from from size index count = map (λ i. from + i * size) (range_with_len index count)

-- the place of an index, and those of the later ones
pub places_step : (from size index count : ℕ) → index < count →
    places_from from size index (count - index) ≡ (from + index * size) ∷ places_from from size (index + 1) (count - (index + 1))
places_step from size index count less =
    let e : count - index ≡ suc (count - (index + 1)) = omega arith in rw e refl

-- past the last there is none
pub places_end : (from size index count : ℕ) → count ≤ index → places_from from size index (count - index) ≡ []
places_end from size index count past = let e : count - index ≡ 0 = omega arith in rw e refl

-- all of them, from the first on
pub places_all : (from size count : ℕ) → places_from from size 0 (count - 0) ≡ places from size count
places_all from size count = let e : count - 0 ≡ count = omega arith in rw e refl

module _ {X : Type 0} (view : ℕ → X) (from size : ℕ) where
  there : (a n i : ℕ) → i < n → slice_get (map view (places_from from size a n)) i ≡ Some (view (from + (a + i) * size))
  there a zero i within = absurd (omega arith)
  there a (suc n) zero within = let e : a ≡ a + 0 = omega arith in ap (λ (k : ℕ). Some (view (from + k * size))) e
  there a (suc n) (suc i) within =
      let e : a + 1 + i ≡ a + suc i = omega arith in there (a + 1) n i (omega arith) ∙ ap (λ (k : ℕ). Some (view (from + k * size))) e

  none : (a n i : ℕ) → n ≤ i → slice_get (map view (places_from from size a n)) i ≡ None
  none a zero i past = refl
  none a (suc n) zero past = absurd (omega arith)
  none a (suc n) (suc i) past = none (a + 1) n i (omega arith)

  -- the record of an index
  pub record_there : (count index : ℕ) → index < count → slice_get (map view (places from size count)) index ≡ Some (view (from + index * size))
  record_there count index within = let e : 0 + index ≡ index = omega arith in there 0 count index within ∙ ap (λ (k : ℕ). Some (view (from + k * size))) e

  pub no_record : (count index : ℕ) → count ≤ index → slice_get (map view (places from size count)) index ≡ None
  no_record count index past = none 0 count index past

  -- a search among the records, from an index on
  module _ (test : X → Bool) (index count : ℕ) where
    abbrev pub found_from : Option X
    found_from = find test (map view (places_from from size index (count - index)))

    pub found_here : index < count → test (view (from + index * size)) ≡ true → found_from ≡ Some (view (from + index * size))
    found_here less passes = ap (λ l. find test (map view l)) (places_step from size index count less) ∙ rw passes refl

    pub found_later : index < count → test (view (from + index * size)) ≡ false → found_from ≡ find test (map view (places_from from size (index + 1) (count - (index + 1))))
    found_later less fails = ap (λ l. find test (map view l)) (places_step from size index count less) ∙ rw fails refl

    pub found_nowhere : count ≤ index → found_from ≡ None
    found_nowhere past = ap (λ l. find test (map view l)) (places_end from size index count past)

-- what is picked of the records, from an index on
module _ {X : Type 0} (pick : ℕ → Option X) (from size index count : ℕ) where
  abbrev pub picked_from : List X
  picked_from = filter_map pick (places_from from size index (count - index))

  abbrev pub picked_after : List X
  picked_after = filter_map pick (places_from from size (index + 1) (count - (index + 1)))

  pub picked_here : index < count → (x : X) → pick (from + index * size) ≡ Some x → picked_from ≡ x ∷ picked_after
  picked_here less x is = ap (filter_map pick) (places_step from size index count less) ∙ rw is refl

  pub picked_not : index < count → pick (from + index * size) ≡ None → picked_from ≡ picked_after
  picked_not less is = ap (filter_map pick) (places_step from size index count less) ∙ rw is refl

  pub picked_end : count ≤ index → picked_from ≡ []
  picked_end past = ap (filter_map pick) (places_end from size index count past)

  -- one more that was picked goes behind those before it
  pub one_more : (done all : List X) → done ++ picked_from ≡ all → index < count → (x : X) → pick (from + index * size) ≡ Some x → (done ++ (x ∷ [])) ++ picked_after ≡ all
  one_more done all so_far less x is = append_assoc done (x ∷ []) picked_after ∙ ap (λ l. done ++ l) (sym (picked_here less x is)) ∙ so_far

  pub none_more : (done all : List X) → done ++ picked_from ≡ all → index < count → pick (from + index * size) ≡ None → done ++ picked_after ≡ all
  none_more done all so_far less is = ap (λ l. done ++ l) (sym (picked_not less is)) ∙ so_far

  -- at the end all of them were picked
  pub all_picked : (done all : List X) → done ++ picked_from ≡ all → count ≤ index → done ≡ all
  all_picked done all so_far past = sym (append-nil done) ∙ ap (λ l. done ++ l) (sym (picked_end past)) ∙ so_far
