-- Rows, inlined calls and functions are numbered one after another, and what was said of those so far
-- stays.
use Rattle.std.proofs.Common.{◌≡◌, ℕ, zero, suc, ◌+◌, ◌<◌, ◌≤◌, List, [], ◌∷◌, ◌++◌, flat_map, length, map, take, Some, refl, sym, ap, subst, ◌∙◌, arith, append-nil, append_assoc}
use Rattle.std.specs.Prelude.{slice_index_or}
use Rattle.std.specs.List.{AllZip, slice_get}
use Rattle.std.proofs.lemmas.List.{map-append}
use Rattle.std.proofs.lemmas.Option.{none-some, same_Some}
use Rattle.bz_breakpad_lines.specs.Table.{Table}
use Rattle.bz_convert.specs.Numbered.{IsNumbering, listed_sources}
use Rattle.bz_gsym_layout.specs.Listing.{listed_texts}
use Rattle.bz_convert.specs.declared.conversion.numbering.Numbering.{Numbering}
use Rattle.bz_gsym_layout.proofs.ListedLemmas.{Grows}
use Rattle.bz_convert.proofs.NumberingLemmas.{listed_grow, sources_grow}
use Rattle.bz_gsym_layout.specs.Plan.{Source}

take_last : {X : Type 0} (xs : List X) (i : ℕ) (d : X) → i < length xs → take (i + 1) xs ≡ take i xs ++ slice_index_or xs i d ∷ []
take_last {X} xs i d within = let e : i + 1 ≡ suc i = omega arith in ap (λ n. take n xs) e ∙ by xs i within where
  by : (xs : List X) (i : ℕ) → i < length xs → take (suc i) xs ≡ take i xs ++ slice_index_or xs i d ∷ []
  by [] i within = absurd (omega arith)
  by (x ∷ xs) zero within = refl
  by (x ∷ xs) (suc i) within = ap (λ l. x ∷ l) (by xs i (omega arith))

take_found : {X : Type 0} (xs : List X) (i : ℕ) (x : X) → slice_get xs i ≡ Some x → take (i + 1) xs ≡ take i xs ++ x ∷ []
take_found {X} xs i x at = let e : i + 1 ≡ suc i = omega arith in ap (λ n. take n xs) e ∙ by xs i at where
  by : (xs : List X) (i : ℕ) → slice_get xs i ≡ Some x → take (suc i) xs ≡ take i xs ++ x ∷ []
  by [] i at = absurd (none-some x at)
  by (y ∷ xs) zero at = ap (λ z. z ∷ []) (same_Some y x at)
  by (y ∷ xs) (suc i) at = ap (λ l. y ∷ l) (by xs i at)

take_all : {X : Type 0} (xs : List X) (i : ℕ) → length xs ≤ i → take i xs ≡ xs
take_all [] zero past = refl
take_all [] (suc i) past = refl
take_all (x ∷ xs) zero past = absurd (omega arith)
take_all (x ∷ xs) (suc i) past = ap (λ l. x ∷ l) (take_all xs i (omega arith))

flat_last : {X Y : Type 0} (f : X → List Y) (xs : List X) (x : X) → flat_map f (xs ++ x ∷ []) ≡ flat_map f xs ++ f x
flat_last f [] x = append-nil (f x)
flat_last f (y ∷ xs) x = ap (λ l. f y ++ l) (flat_last f xs x) ∙ sym (append_assoc (f y) (flat_map f xs) (f x))

zip_last : {X Y : Type 0} (R : X → Y → Type 0) (xs : List X) (ys : List Y) (x : X) (y : Y) → AllZip R xs ys → R x y → AllZip R (xs ++ x ∷ []) (ys ++ y ∷ [])
zip_last R [] [] x y all here = (here, tt)
zip_last R [] (b ∷ ys) x y all here = absurd all
zip_last R (a ∷ xs) [] x y all here = absurd all
zip_last R (a ∷ xs) (b ∷ ys) x y all here = (all.0, zip_last R xs ys x y all.1 here)

pub zip_each : {X Y : Type 0} (R S : X → Y → Type 0) → ((x : X) (y : Y) → R x y → S x y) → (xs : List X) (ys : List Y) → AllZip R xs ys → AllZip S xs ys
zip_each R S each [] [] all = tt
zip_each R S each [] (b ∷ ys) all = absurd all
zip_each R S each (a ∷ xs) [] all = absurd all
zip_each R S each (a ∷ xs) (b ∷ ys) all = (each a b all.0, zip_each R S each xs ys all.1)

module _ {X Z : Type 0} (table : Table) (texts_for : X → List (List ℕ)) (sources_for : X → List Source) (Says : Numbering → X → Z → Type 0) where
  -- what is said stays where more is listed
  abbrev pub Stays : Type 0
  Stays = (old new : Numbering) → Grows (listed_texts old.texts) (listed_texts new.texts) → Grows (listed_sources old) (listed_sources new) → (x : X) (z : Z) → Says old x z → Says new x z

  -- behind what was used before, these were numbered, and these say what they do
  pub record SoFar (texts : List (List ℕ)) (sources : List Source) (n : Numbering) (xs : List X) (zs : List Z) : Type 0 where
    pub numbering : IsNumbering table (texts ++ flat_map texts_for xs) (sources ++ flat_map sources_for xs) n
    pub each : AllZip (Says n) xs zs

  pub none_yet : (texts : List (List ℕ)) (sources : List Source) (n : Numbering) (zs : List Z) → zs ≡ [] → IsNumbering table texts sources n → SoFar texts sources n [] zs
  none_yet texts sources n zs none is = record {
    numbering = subst (λ l. IsNumbering table l (sources ++ []) n) (sym (append-nil texts)) (subst (λ l. IsNumbering table texts l n) (sym (append-nil sources)) is);
    each = subst (λ l. AllZip (Says n) [] l) (sym none) tt;
  }

  pub one_more : Stays → (texts : List (List ℕ)) (sources : List Source) (old new : Numbering) (xs : List X) (zs : List Z) (x : X) (z : Z) → SoFar texts sources old xs zs →
      ((texts : List (List ℕ)) (sources : List Source) → IsNumbering table texts sources old → IsNumbering table (texts ++ texts_for x) (sources ++ sources_for x) new) → Says new x z → SoFar texts sources new (xs ++ x ∷ []) (zs ++ z ∷ [])
  one_more stays texts sources old new xs zs x z so_far numbers says =
      let before_texts = texts ++ flat_map texts_for xs in
      let before_sources = sources ++ flat_map sources_for xs in
      let is = numbers before_texts before_sources so_far.numbering in
      let all_texts : before_texts ++ texts_for x ≡ texts ++ flat_map texts_for (xs ++ x ∷ []) = append_assoc texts (flat_map texts_for xs) (texts_for x) ∙ ap (λ l. texts ++ l) (sym (flat_last texts_for xs x)) in
      let all_sources : before_sources ++ sources_for x ≡ sources ++ flat_map sources_for (xs ++ x ∷ []) = append_assoc sources (flat_map sources_for xs) (sources_for x) ∙ ap (λ l. sources ++ l) (sym (flat_last sources_for xs x)) in
      record {
        numbering = subst (λ l. IsNumbering table l (sources ++ flat_map sources_for (xs ++ x ∷ [])) new) all_texts (subst (λ l. IsNumbering table (before_texts ++ texts_for x) l new) all_sources is);
        each = zip_last (Says new) xs zs x z
            (zip_each (Says old) (Says new)
            (stays old new (listed_grow before_texts before_sources old so_far.numbering.numbered (texts_for x) (sources_for x) new is.numbered) (sources_grow before_texts before_sources old so_far.numbering.numbered (texts_for x) (sources_for x) new is.numbered)) xs zs so_far.each)
            says;
      }

  pub found_turn : Stays → (texts : List (List ℕ)) (sources : List Source) (old new : Numbering) (xs : List X) (i : ℕ) (x : X) → slice_get xs i ≡ Some x → (zs more : List Z) (z : Z) → more ≡ zs ++ z ∷ [] → SoFar texts sources old (take i xs) zs →
      ((texts : List (List ℕ)) (sources : List Source) → IsNumbering table texts sources old → IsNumbering table (texts ++ texts_for x) (sources ++ sources_for x) new) →
      ((texts : List (List ℕ)) (sources : List Source) → IsNumbering table texts sources old → Says new x z) → SoFar texts sources new (take (i + 1) xs) more
  found_turn stays texts sources old new xs i x at zs more z pushed so_far numbers says =
      subst (λ l. SoFar texts sources new l more) (sym (take_found xs i x at))
      (subst (λ l. SoFar texts sources new (take i xs ++ x ∷ []) l) (sym pushed)
      (one_more stays texts sources old new (take i xs) zs x z so_far numbers (says (texts ++ flat_map texts_for (take i xs)) (sources ++ flat_map sources_for (take i xs)) so_far.numbering)))

  pub found_end : (texts : List (List ℕ)) (sources : List Source) (n : Numbering) (xs : List X) (i : ℕ) → length xs ≤ i → (zs : List Z) → SoFar texts sources n (take i xs) zs → SoFar texts sources n xs zs
  found_end texts sources n xs i past zs so_far = subst (λ l. SoFar texts sources n l zs) (take_all xs i past) so_far

  -- a list that is gone through from the front
  module _ {K : Type 0} (view : K → X) (kept : List K) (i : ℕ) (texts : List (List ℕ)) (sources : List Source) (old : Numbering) (zs : List Z) (so_far : SoFar texts sources old (map view (take i kept)) zs) where
    pub one_turn : Stays → (d : K) → i < length kept → (new : Numbering) (z : Z) (more : List Z) → more ≡ zs ++ z ∷ [] →
        ((texts : List (List ℕ)) (sources : List Source) → IsNumbering table texts sources old → IsNumbering table (texts ++ texts_for (view (slice_index_or kept i d))) (sources ++ sources_for (view (slice_index_or kept i d))) new) →
        ((texts : List (List ℕ)) (sources : List Source) → IsNumbering table texts sources old → Says new (view (slice_index_or kept i d)) z) → SoFar texts sources new (map view (take (i + 1) kept)) more
    one_turn stays d within new z more pushed numbers says =
        let x = slice_index_or kept i d in
        let seen : map view (take (i + 1) kept) ≡ map view (take i kept) ++ view x ∷ [] = ap (map view) (take_last kept i d within) ∙ map-append view (take i kept) (x ∷ []) in
        subst (λ l. SoFar texts sources new l more) (sym seen)
        (subst (λ l. SoFar texts sources new (map view (take i kept) ++ view x ∷ []) l) (sym pushed)
        (one_more stays texts sources old new (map view (take i kept)) zs (view x) z so_far numbers
        (says (texts ++ flat_map texts_for (map view (take i kept))) (sources ++ flat_map sources_for (map view (take i kept))) so_far.numbering)))

    pub all_turns : length kept ≤ i → SoFar texts sources old (map view kept) zs
    all_turns past = subst (λ l. SoFar texts sources old (map view l) zs) (take_all kept i past) so_far
