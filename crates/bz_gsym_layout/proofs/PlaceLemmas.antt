-- Texts and functions are placed one behind another.
use Rattle.std.proofs.Common.{◌≡◌, ℕ, suc, ◌+◌, ◌<◌, ◌≤◌, List, [], ◌∷◌, ◌++◌, flat_map, length, map, drop, refl, sym, ap, ◌∙◌, arith, append_assoc, append-nil}
use Rattle.std.specs.Prelude.{slice_index_or}
use Rattle.std.proofs.lemmas.List.{drop_all, drop_more, length-append}
use Rattle.bz_base.specs.Cursor.{padding}
use Rattle.bz_gsym_layout.specs.Layout.{Tables, code_bytes, data_bytes, data_places, zeros}
use Rattle.bz_gsym_layout.specs.Numbering.{stored}
use Rattle.bz_gsym_layout.specs.Places.{text_places}
use Rattle.bz_gsym_layout.specs.Plan.{Code}
use Rattle.bz_gsym_layout.proofs.DataLemmas.{length_zeros}

-- a text is placed
module _ {X : Type 0} (view : X → List ℕ) (xs : List X) (i : ℕ) (d : X) where
  abbrev rest : List (List ℕ)
  rest = map view (drop (i + 1) xs)

  abbrev text : List ℕ
  text = view (slice_index_or xs i d)

  pub text_turn : i < length xs → (places new whole : List ℕ) (at next : ℕ) → new ≡ places ++ at ∷ [] → next ≡ at + length text + 1 →
      places ++ text_places at (map view (drop i xs)) ≡ whole → new ++ text_places next rest ≡ whole
  text_turn within places new whole at next pushed further left =
      let e : next ≡ at + length (stored text) = omega (arith, further, length-append text (0 ∷ [])) in
      ap (λ l. l ++ text_places next rest) pushed ∙ append_assoc places (at ∷ []) (text_places next rest)
      ∙ ap (λ n. places ++ at ∷ text_places n rest) e ∙ ap (λ l. places ++ text_places at (map view l)) (sym (drop_more xs i d within)) ∙ left

  pub text_length : i < length xs → (at next end : ℕ) → next ≡ at + length text + 1 → at + length (flat_map stored (map view (drop i xs))) ≡ end →
      next + length (flat_map stored rest) ≡ end
  text_length within at next end further left =
      omega (
        arith,
        further,
        left,
        ap (λ l. length (flat_map stored (map view l))) (drop_more xs i d within),
        length-append (stored text) (flat_map stored rest),
        length-append text (0 ∷ []),
      )

module _ {X : Type 0} (view : X → List ℕ) (xs : List X) (i : ℕ) where
  pub texts_end : length xs ≤ i → (places whole : List ℕ) (at : ℕ) → places ++ text_places at (map view (drop i xs)) ≡ whole → places ≡ whole
  texts_end past places whole at left = sym (append-nil places) ∙ ap (λ l. places ++ text_places at (map view l)) (sym (drop_all i xs past)) ∙ left

  pub length_end : length xs ≤ i → (at end : ℕ) → at + length (flat_map stored (map view (drop i xs))) ≡ end → at ≡ end
  length_end past at end left = omega (arith, left, ap (λ l. length (flat_map stored (map view l))) (drop_all i xs past))

-- there are as many places as texts
pub length_text_places : (at : ℕ) (texts : List (List ℕ)) → length (text_places at texts) ≡ length texts
length_text_places at [] = refl
length_text_places at (text ∷ texts) = ap suc (length_text_places (at + length (stored text)) texts)

-- a function is placed
module _ {X : Type 0} (t : Tables) (view : X → Code) (xs : List X) (i : ℕ) (d : X) where
  abbrev codes : List Code
  codes = map view (drop (i + 1) xs)

  abbrev code : Code
  code = view (slice_index_or xs i d)

  pub data_turn : i < length xs → (places new whole : List ℕ) (at place next : ℕ) → new ≡ places ++ place ∷ [] → place ≡ at + padding at → next ≡ place + length (code_bytes t code) →
      places ++ data_places t at (map view (drop i xs)) ≡ whole → new ++ data_places t next codes ≡ whole
  data_turn within places new whole at place next pushed filled further left =
      let e : next ≡ at + padding at + length (code_bytes t code) = omega (arith, further, filled) in
      ap (λ l. l ++ data_places t next codes) pushed ∙ append_assoc places (place ∷ []) (data_places t next codes)
      ∙ ap (λ n. places ++ n ∷ data_places t next codes) filled
      ∙ ap (λ n. places ++ (at + padding at) ∷ data_places t n codes) e ∙ ap (λ l. places ++ data_places t at (map view l)) (sym (drop_more xs i d within)) ∙ left

  -- and written
  pub written_turn : i < length xs → (out filled new whole : List ℕ) → filled ≡ out ++ zeros (padding (length out)) → new ≡ filled ++ code_bytes t code →
      out ++ data_bytes t (length out) (map view (drop i xs)) ≡ whole → new ++ data_bytes t (length new) codes ≡ whole
  written_turn within out filled new whole fills writes left =
      let pad : ℕ = padding (length out) in
      let many : length new ≡ length out + pad + length (code_bytes t code) =
      omega (arith, ap length writes, ap length fills, length-append filled (code_bytes t code), length-append out (zeros pad), length_zeros pad) in
      let all : new ≡ (out ++ zeros pad) ++ code_bytes t code = writes ∙ ap (λ l. l ++ code_bytes t code) fills in
      ap (λ n. new ++ data_bytes t n codes) many
      ∙ ap (λ l. l ++ data_bytes t (length out + pad + length (code_bytes t code)) codes) all
      ∙ append_assoc (out ++ zeros pad) (code_bytes t code) _ ∙ append_assoc out (zeros pad) _
      ∙ ap (λ l. out ++ data_bytes t (length out) (map view l)) (sym (drop_more xs i d within)) ∙ left

module _ {X : Type 0} (t : Tables) (view : X → Code) (xs : List X) (i : ℕ) where
  pub places_end : length xs ≤ i → (places whole : List ℕ) (at : ℕ) → places ++ data_places t at (map view (drop i xs)) ≡ whole → places ≡ whole
  places_end past places whole at left = sym (append-nil places) ∙ ap (λ l. places ++ data_places t at (map view l)) (sym (drop_all i xs past)) ∙ left

  pub written_end : length xs ≤ i → (out whole : List ℕ) → out ++ data_bytes t (length out) (map view (drop i xs)) ≡ whole → out ≡ whole
  written_end past out whole left = sym (append-nil out) ∙ ap (λ l. out ++ data_bytes t (length out) (map view l)) (sym (drop_all i xs past)) ∙ left
