-- Each function of a plan is read at its data place.
use Rattle.std.proofs.Common.{◌≡◌, ℕ, zero, suc, ◌+◌, ◌^◌, ◌<◌, ◌≤◌, map, List, [], ◌∷◌, ◌++◌, length, drop, Some, refl, sym, ap, subst, ◌∙◌, arith, append_assoc}
use Rattle.std.specs.List.{AllByRecursion, slice_get, zip}
use Rattle.std.proofs.lemmas.Bool.{le-leb}
use Rattle.std.proofs.lemmas.List.{length-append}
use Rattle.std.proofs.lemmas.Option.{none-some, same_Some}
use Rattle.std.proofs.Math.Seq.{drop-append_seam}
use Rattle.bz_base.specs.Cursor.{padding}
use Rattle.bz_gsym.specs.Entries.{entry_head_len, info_at}
use Rattle.bz_base.specs.Little.{number_at}
use Rattle.bz_gsym_layout.specs.Layout.{Tables, code_bytes, data_bytes, data_places, inline_entry, line_entry, text_place, word, zeros}
use Rattle.bz_gsym_layout.specs.Plan.{Code}
use Rattle.bz_gsym_layout.proofs.DecodeLemmas.{info_of}
use Rattle.bz_gsym_layout.specs.Members.{In}
use Rattle.bz_gsym_layout.proofs.WordLemmas.{number_there}

pub length_zeros : (count : ℕ) → length (zeros count) ≡ count
length_zeros zero = refl
length_zeros (suc count) = ap suc (length_zeros count)

module _ (t : Tables) where
  -- each function with its data place
  abbrev pub placed_from : ℕ → List Code → List (ℕ × Code)
  placed_from at [] = []
  placed_from at (c ∷ codes) = (at + padding at, c) ∷ placed_from (at + padding at + length (code_bytes t c)) codes

  pub places_are : (at : ℕ) (codes : List Code) → data_places t at codes ≡ map (λ (p : ℕ × Code). p.0) (placed_from at codes)
  places_are at [] = refl
  places_are at (c ∷ codes) = ap (λ l. (at + padding at) ∷ l) (places_are (at + padding at + length (code_bytes t c)) codes)

  pub codes_are : (at : ℕ) (codes : List Code) → map (λ (p : ℕ × Code). p.1) (placed_from at codes) ≡ codes
  codes_are at [] = refl
  codes_are at (c ∷ codes) = ap (λ l. c ∷ l) (codes_are (at + padding at + length (code_bytes t c)) codes)

  pub symbols_are : (at : ℕ) (codes : List Code) →
      zip (map (λ (c : Code). c.start) codes) (data_places t at codes) ≡ map (λ (p : ℕ × Code). (p.1.start, p.0)) (placed_from at codes)
  symbols_are at [] = refl
  symbols_are at (c ∷ codes) = ap (λ l. (c.start, at + padding at) ∷ l) (symbols_are (at + padding at + length (code_bytes t c)) codes)

  -- a function's bytes lie at a place
  pub record LiesAt (bytes : List ℕ) (place : ℕ) (c : Code) : Type 0 where
    pub before : List ℕ
    pub after : List ℕ
    pub whole : bytes ≡ before ++ (code_bytes t c ++ after)
    pub from : length before ≡ place

  pub lies_at : (bytes : List ℕ) (codes : List Code) (at : ℕ) (front : List ℕ) → bytes ≡ front ++ data_bytes t at codes → length front ≡ at →
      (p : ℕ × Code) → In (placed_from at codes) p → LiesAt bytes p.0 p.1
  lies_at bytes [] at front whole from p (i, there) = absurd (none-some p there)
  lies_at bytes (c ∷ codes) at front whole from p (i, there) =
      by i there (λ front whole from later. lies_at bytes codes (at + padding at + length (code_bytes t c)) front whole from p later) where
        filled : bytes ≡ (front ++ zeros (padding at)) ++ (code_bytes t c ++ data_bytes t (at + padding at + length (code_bytes t c)) codes)
        filled = whole ∙ sym (append_assoc front (zeros (padding at)) _)

        to_code : length (front ++ zeros (padding at)) ≡ at + padding at
        to_code = length-append front (zeros (padding at)) ∙ omega (arith, from, length_zeros (padding at))

        by : (i : ℕ) → slice_get (placed_from at (c ∷ codes)) i ≡ Some p → ((front : List ℕ) → bytes ≡ front ++ data_bytes t (at + padding at + length (code_bytes t c)) codes → length front ≡ at + padding at + length (code_bytes t c) →
            In (placed_from (at + padding at + length (code_bytes t c)) codes) p → LiesAt bytes p.0 p.1) → LiesAt bytes p.0 p.1
        by zero here next = subst (λ (q : ℕ × Code). LiesAt bytes q.0 q.1) (same_Some (at + padding at, c) p here)
            (record { before = front ++ zeros (padding at); after = data_bytes t (at + padding at + length (code_bytes t c)) codes; whole = filled; from = to_code })
        by (suc j) later next =
            next ((front ++ zeros (padding at)) ++ code_bytes t c)
            (filled ∙ sym (append_assoc (front ++ zeros (padding at)) (code_bytes t c) _))
            (length-append (front ++ zeros (padding at)) (code_bytes t c) ∙ omega (arith, to_code)) (j, later)

  -- what lies there is read
  module _ (bytes : List ℕ) (place : ℕ) (c : Code) (lies : LiesAt bytes place c) (small_size : c.size < 2 ^ 32) (small_name : text_place t c.name < 2 ^ 32) where
    abbrev rest : List ℕ
    rest = line_entry t c.start c.rows ++ (inline_entry t c c.calls ++ (zeros entry_head_len ++ lies.after))

    parts : code_bytes t c ++ lies.after ≡ word 4 c.size ++ (word 4 (text_place t c.name) ++ rest)
    parts = assoc (word 4 c.size) (word 4 (text_place t c.name)) (line_entry t c.start c.rows) (inline_entry t c c.calls) (zeros entry_head_len) lies.after where
      assoc : (a b d e f g : List ℕ) → (a ++ (b ++ (d ++ (e ++ f)))) ++ g ≡ a ++ (b ++ (d ++ (e ++ (f ++ g))))
      assoc a b d e f g = simp append_assoc

    from_size : bytes ≡ lies.before ++ (word 4 c.size ++ (word 4 (text_place t c.name) ++ rest))
    from_size = lies.whole ∙ ap (λ l. lies.before ++ l) parts

    from_name : bytes ≡ (lies.before ++ word 4 c.size) ++ (word 4 (text_place t c.name) ++ rest)
    from_name = from_size ∙ sym (append_assoc lies.before (word 4 c.size) _)

    from_rest : bytes ≡ ((lies.before ++ word 4 c.size) ++ word 4 (text_place t c.name)) ++ rest
    from_rest = from_name ∙ sym (append_assoc (lies.before ++ word 4 c.size) (word 4 (text_place t c.name)) rest)

    to_name : length (lies.before ++ word 4 c.size) ≡ place + 4
    to_name = length-append lies.before (word 4 c.size) ∙ ap (λ n. n + 4) lies.from

    to_rest : length ((lies.before ++ word 4 c.size) ++ word 4 (text_place t c.name)) ≡ place + 8
    to_rest = length-append (lies.before ++ word 4 c.size) (word 4 (text_place t c.name)) ∙ omega (arith, to_name)

    enough : place + 8 ≤ length bytes
    enough = omega (arith, ap length from_rest, length-append ((lies.before ++ word 4 c.size) ++ word 4 (text_place t c.name)) rest, to_rest)

    size_read : number_at 4 bytes place ≡ c.size
    size_read = ap (λ b. number_at 4 b place) from_size ∙ number_there 4 c.size lies.before (word 4 (text_place t c.name) ++ rest) place (omega arith) lies.from

    name_read : number_at 4 bytes (place + 4) ≡ text_place t c.name
    name_read = ap (λ b. number_at 4 b (place + 4)) from_name ∙ number_there 4 (text_place t c.name) (lies.before ++ word 4 c.size) rest (place + 4) (omega arith) to_name

    rest_read : drop (place + 8) bytes ≡ rest
    rest_read =
        ap (drop (place + 8)) from_rest ∙ ap (λ n. drop n (((lies.before ++ word 4 c.size) ++ word 4 (text_place t c.name)) ++ rest)) (sym to_rest)
        ∙ drop-append_seam ((lies.before ++ word 4 c.size) ++ word 4 (text_place t c.name)) rest

    pub info_read : info_at bytes place ≡ Some (info_of t c lies.after)
    info_read = rw (le-leb (place + 8) (length bytes) enough, size_read, name_read, rest_read) refl

  -- no data place lies behind the end
  pub places_below : (codes : List Code) (at end : ℕ) → at + length (data_bytes t at codes) < end → AllByRecursion (λ p. p < end) (data_places t at codes)
  places_below [] at end below = tt
  places_below (c ∷ codes) at end below =
      let later : List ℕ = data_bytes t (at + padding at + length (code_bytes t c)) codes in
      let first = length-append (zeros (padding at)) (code_bytes t c ++ later) in
      let second = length-append (code_bytes t c) later in
      (omega (arith, first, length_zeros (padding at)), places_below codes (at + padding at + length (code_bytes t c)) end (omega (arith, first, second, length_zeros (padding at))))

  -- nor is a function longer than the whole
  pub code_below : (bytes : List ℕ) (place : ℕ) (c : Code) → LiesAt bytes place c → length (code_bytes t c) ≤ length bytes
  code_below bytes place c lies = omega (arith, ap length lies.whole, length-append lies.before (code_bytes t c ++ lies.after), length-append (code_bytes t c) lies.after)
