-- The tables of a laid out plan are read again.
use Rattle.std.proofs.Common.{◌≡◌, ℕ, suc, ◌+◌, ◌*◌, ◌^◌, ◌<◌, ◌≤◌, Bool, true, false, cond, map, flat_map, List, [], ◌∷◌, ◌++◌, length, take, drop, Some, refl, sym, ap, ◌∙◌, arith, append_assoc}
use Rattle.std.specs.List.{AllByRecursion, range_with_len, slice_get}
use Rattle.std.specs.Str.{bytes_eq}
use Rattle.std.proofs.lemmas.List.{length-append, take_at}
use Rattle.std.proofs.Math.Seq.{drop-append_seam}
use Rattle.bz_base.specs.Cursor.{padding}
use Rattle.bz_gsym.specs.Header.{gsym_magic, gsym_version, header_of}
use Rattle.bz_base.specs.Little.{number_at, numbers_at}
use Rattle.bz_gsym.specs.Tables as gsym
use Rattle.bz_gsym.specs.Tables.{data_table, file_at, file_count, file_count_place, file_table, files, header_len, is_address_size, starts, strings}
use Rattle.bz_gsym.specs.declared.types.FileInfo.{FileInfo}
use Rattle.bz_gsym.specs.declared.types.Header.{Header}
use Rattle.bz_gsym_layout.specs.Layout as layout
use Rattle.bz_gsym_layout.specs.Layout.{Tables, code_bytes, data_bytes, file_bytes, head_bytes, laid_out, source_index, string_bytes, strings_place, table_bytes, text_place, word, zeros}
use Rattle.bz_gsym_layout.specs.Numbering.{place_from, stored}
use Rattle.bz_gsym_layout.specs.Plan.{Code, Source}
use Rattle.bz_gsym_layout.proofs.WordLemmas.{length_word, little_word, number_there}

-- the head, by its numbers
module _ (count at len : ℕ) (rest : List ℕ) (small_count : count < 2 ^ 32) (small_at : at < 2 ^ 32) (small_len : len < 2 ^ 32) where
  abbrev head : List ℕ
  head = head_bytes count at len ++ rest

  count_is : number_at 4 head 16 ≡ count
  unfolding number_at
  count_is = little_word 4 count (omega arith)

  at_is : number_at 4 head 20 ≡ at
  unfolding number_at
  at_is = little_word 4 at (omega arith)

  len_is : number_at 4 head 24 ≡ len
  unfolding number_at
  len_is = little_word 4 len (omega arith)

  magic_is : number_at 4 head 0 ≡ gsym_magic
  unfolding number_at
  magic_is = refl

  version_is : number_at 2 head 4 ≡ gsym_version
  unfolding number_at
  version_is = refl

  width_is : number_at 1 head 6 ≡ 8
  unfolding number_at
  width_is = refl

  uuid_size_is : number_at 1 head 7 ≡ 0
  unfolding number_at
  uuid_size_is = refl

  base_is : number_at 8 head 8 ≡ 0
  unfolding number_at
  base_is = refl

  pub header_is : header_of head ≡ record {
    magic = gsym_magic;
    version = gsym_version;
    addr_off_size = 8;
    uuid_size = 0;
    base_address = 0;
    num_addrs = count;
    strtab_offset = at;
    strtab_size = len;
    uuid = zeros 20;
  }
  header_is = rw (magic_is, version_is, width_is, uuid_size_is, base_is, count_is, at_is, len_is) refl

-- tables of entries of one width
module _ {X Y : Type 0} (bytes : List ℕ) (read : ℕ → Y) (width : ℕ) (written : X → List ℕ) (told : X → Y) (P : X → Type 0)
    (wide : (x : X) → length (written x) ≡ width)
    (reads : (x : X) (before after : List ℕ) → P x → bytes ≡ before ++ (written x ++ after) → read (length before) ≡ told x) where
  pub table_read : (xs : List X) (place i : ℕ) (before after : List ℕ) → AllByRecursion P xs → bytes ≡ before ++ (flat_map written xs ++ after) → length before ≡ place + i * width →
      map (λ k. read (place + k * width)) (range_with_len i (length xs)) ≡ map told xs
  table_read [] place i before after all whole from = refl
  table_read (x ∷ xs) place i before after all whole from =
      let here : bytes ≡ before ++ (written x ++ (flat_map written xs ++ after)) = whole ∙ ap (λ l. before ++ l) (append_assoc (written x) (flat_map written xs) after) in
      let next : bytes ≡ (before ++ written x) ++ (flat_map written xs ++ after) = here ∙ sym (append_assoc before (written x) (flat_map written xs ++ after)) in
      let further : length (before ++ written x) ≡ place + (i + 1) * width = length-append before (written x) ∙ omega (arith, from, wide x) in
      ap (λ n. read n ∷ map (λ k. read (place + k * width)) (range_with_len (i + 1) (length xs))) (sym from)
      ∙ ap (λ y. y ∷ map (λ k. read (place + k * width)) (range_with_len (i + 1) (length xs))) (reads x before (flat_map written xs ++ after) all.0 here)
      ∙ ap (λ l. told x ∷ l) (table_read xs place (i + 1) (before ++ written x) after all.1 next further)

-- entries of one width, side by side
flat_width : {X : Type 0} (width : ℕ) → ((n : ℕ) → width * suc n ≡ width + width * n) → width * 0 ≡ 0 → (written : X → List ℕ) → ((x : X) → length (written x) ≡ width) → (xs : List X) →
    length (flat_map written xs) ≡ width * length xs
flat_width width more none written wide [] = sym none
flat_width width more none written wide (x ∷ xs) =
    length-append (written x) (flat_map written xs) ∙ omega (arith, wide x, flat_width width more none written wide xs, more (length xs))

length_places : (t : Tables) (at : ℕ) (codes : List Code) → length (layout.data_places t at codes) ≡ length codes
length_places t at [] = refl
length_places t at (c ∷ codes) = ap suc (length_places t (at + padding at + length (code_bytes t c)) codes)

map_same : (xs : List ℕ) → map (λ (n : ℕ). n) xs ≡ xs
map_same [] = refl
map_same (x ∷ xs) = ap (λ l. x ∷ l) (map_same xs)

five : (a b c d e : List ℕ) → a ++ (b ++ (c ++ (d ++ e))) ≡ (((a ++ b) ++ c) ++ d) ++ e
five a b c d e = sym (simp append_assoc)

-- a number below the end of a list holds for each
all_below : (xs : List ℕ) (end : ℕ) → ((i x : ℕ) → slice_get xs i ≡ Some x → x < end) → AllByRecursion (λ x. x < end) xs
all_below [] end below = tt
all_below (x ∷ xs) end below = (below 0 x refl, all_below xs end (λ i y there. below (suc i) y there))

-- a file that is laid out from numbered tables
module _ (codes : List Code) (t : Tables) where
  abbrev pub bytes : List ℕ
  bytes = laid_out codes t

  abbrev pub strings_at : ℕ
  strings_at = strings_place codes t

  abbrev pub data_at : ℕ
  data_at = strings_at + length (string_bytes t)

  abbrev pub head_part : List ℕ
  head_part = head_bytes (length codes) strings_at (length (string_bytes t))

  abbrev start_part : List ℕ
  start_part = flat_map (λ (c : Code). word 8 c.start) codes

  abbrev place_part : List ℕ
  place_part = flat_map (word 4) (layout.data_places t data_at codes)

  abbrev count_part : List ℕ
  count_part = word 4 (suc (length t.sources))

  abbrev file_part : List ℕ
  file_part = flat_map (file_bytes t) t.sources

  abbrev tail_part : List ℕ
  tail_part = string_bytes t ++ data_bytes t data_at codes

  -- what stands before the functions
  abbrev pub before_data : List ℕ
  before_data = (head_part ++ table_bytes codes t (layout.data_places t data_at codes)) ++ string_bytes t

  -- the parts, one behind another
  from_starts : bytes ≡ head_part ++ (start_part ++ (place_part ++ (count_part ++ (zeros 8 ++ (file_part ++ tail_part)))))
  from_starts = ap (λ l. head_part ++ l) (simp append_assoc)

  from_places : bytes ≡ (head_part ++ start_part) ++ (place_part ++ (count_part ++ (zeros 8 ++ (file_part ++ tail_part))))
  from_places = from_starts ∙ sym (append_assoc head_part start_part _)

  from_count : bytes ≡ ((head_part ++ start_part) ++ place_part) ++ (count_part ++ (zeros 8 ++ (file_part ++ tail_part)))
  from_count = from_places ∙ sym (append_assoc (head_part ++ start_part) place_part _)

  from_files : bytes ≡ (((head_part ++ start_part) ++ place_part) ++ count_part) ++ (zeros 8 ++ (file_part ++ tail_part))
  from_files = from_count ∙ sym (append_assoc ((head_part ++ start_part) ++ place_part) count_part _)

  from_strings : bytes ≡ (head_part ++ table_bytes codes t (layout.data_places t data_at codes)) ++ tail_part
  from_strings = sym (append_assoc head_part (table_bytes codes t (layout.data_places t data_at codes)) tail_part)

  pub from_data : bytes ≡ ((head_part ++ table_bytes codes t (layout.data_places t data_at codes)) ++ string_bytes t) ++ data_bytes t data_at codes
  from_data = from_strings ∙ sym (append_assoc (head_part ++ table_bytes codes t (layout.data_places t data_at codes)) (string_bytes t) (data_bytes t data_at codes))

  length_starts : length start_part ≡ 8 * length codes
  length_starts = flat_width 8 (λ n. omega arith) refl (λ (c : Code). word 8 c.start) (λ c. length_word 8 c.start) codes

  length_place_part : length place_part ≡ 4 * length codes
  length_place_part = flat_width 4 (λ n. omega arith) refl (word 4) (length_word 4) (layout.data_places t data_at codes) ∙ ap (λ n. 4 * n) (length_places t data_at codes)

  length_files : length file_part ≡ 8 * length t.sources
  length_files = flat_width 8 (λ n. omega arith) refl (file_bytes t) (λ s. refl) t.sources

  length_head : length head_part ≡ 48
  length_head = refl

  to_starts : length (head_part ++ start_part) ≡ 48 + 8 * length codes
  to_starts = length-append head_part start_part ∙ omega (arith, length_head, length_starts)

  to_places : length ((head_part ++ start_part) ++ place_part) ≡ 48 + 8 * length codes + 4 * length codes
  to_places = length-append (head_part ++ start_part) place_part ∙ omega (arith, to_starts, length_place_part)

  to_count : length (((head_part ++ start_part) ++ place_part) ++ count_part) ≡ 48 + 8 * length codes + 4 * length codes + 4
  to_count = length-append ((head_part ++ start_part) ++ place_part) count_part ∙ omega (arith, to_places, length_word 4 (suc (length t.sources)))

  to_strings : length (head_part ++ table_bytes codes t (layout.data_places t data_at codes)) ≡ strings_at
  to_strings =
      let all : head_part ++ table_bytes codes t (layout.data_places t data_at codes) ≡ (((head_part ++ start_part) ++ place_part) ++ count_part) ++ (zeros 8 ++ file_part) =
      five head_part start_part place_part count_part (zeros 8 ++ file_part) in
      ap length all ∙ length-append (((head_part ++ start_part) ++ place_part) ++ count_part) (zeros 8 ++ file_part)
      ∙ omega (arith, to_count, length-append (zeros 8) file_part, length_files)

  pub to_data : length ((head_part ++ table_bytes codes t (layout.data_places t data_at codes)) ++ string_bytes t) ≡ data_at
  to_data = length-append (head_part ++ table_bytes codes t (layout.data_places t data_at codes)) (string_bytes t) ∙ omega (arith, to_strings)

  pub length_is : length bytes ≡ strings_at + (length (string_bytes t) + length (data_bytes t data_at codes))
  length_is =
      ap length from_strings ∙ length-append (head_part ++ table_bytes codes t (layout.data_places t data_at codes)) tail_part
      ∙ omega (arith, to_strings, length-append (string_bytes t) (data_bytes t data_at codes))

  -- each number fits its width
  module _ (small : length bytes < 2 ^ 32) (starts_small : AllByRecursion (λ (c : Code). c.start < 2 ^ 64) codes) where
    abbrev pub the_head : Header
    the_head = record {
      magic = gsym_magic;
      version = gsym_version;
      addr_off_size = 8;
      uuid_size = 0;
      base_address = 0;
      num_addrs = length codes;
      strtab_offset = strings_at;
      strtab_size = length (string_bytes t);
      uuid = zeros 20;
    }

    pub head_read : header_of bytes ≡ the_head
    head_read =
        header_is (length codes) strings_at (length (string_bytes t)) (table_bytes codes t (layout.data_places t data_at codes) ++ tail_part)
        (omega (arith, length_is)) (omega (arith, length_is)) (omega (arith, length_is))

    number_read : (width : ℕ) (x : ℕ) (before after : List ℕ) → x < 256 ^ width → bytes ≡ before ++ (word width x ++ after) → number_at width bytes (length before) ≡ x
    number_read width x before after fits whole = ap (λ b. number_at width b (length before)) whole ∙ number_there width x before after (length before) fits refl

    starts_of_head : (h : Header) → h ≡ the_head →
        cond (is_address_size h.addr_off_size) (numbers_at h.addr_off_size h.num_addrs bytes header_len) [] ≡ numbers_at 8 (length codes) bytes 48
    starts_of_head h is = ap (λ (h : Header). cond (is_address_size h.addr_off_size) (numbers_at h.addr_off_size h.num_addrs bytes header_len) []) is

    pub starts_read : starts bytes ≡ map (λ (c : Code). c.start) codes
    starts_read =
        starts_of_head (header_of bytes) head_read
        ∙ table_read bytes (number_at 8 bytes) 8 (λ (c : Code). word 8 c.start) (λ c. c.start) (λ c. c.start < 2 ^ 64) (λ c. length_word 8 c.start)
        (λ c before after fits whole. number_read 8 c.start before after (omega (arith, fits)) whole)
        codes 48 0 head_part (place_part ++ (count_part ++ (zeros 8 ++ (file_part ++ tail_part)))) starts_small from_starts (omega (arith, length_head))

    abbrev places_at : ℕ
    places_at = 48 + 8 * length codes

    places_place : data_table the_head ≡ places_at
    places_place = omega arith

    -- the data places lie in the file
    abbrev InFile : List ℕ → Type 0
    InFile places = AllByRecursion (λ p. p < 2 ^ 32) places

    pub places_read : InFile (layout.data_places t data_at codes) → gsym.data_places bytes ≡ layout.data_places t data_at codes
    places_read fits =
        let places = layout.data_places t data_at codes in
        let count : length places ≡ length codes = length_places t data_at codes in
        ap (λ (h : Header). numbers_at 4 h.num_addrs bytes (data_table h)) head_read
        ∙ ap (λ p. numbers_at 4 (length codes) bytes p) places_place
        ∙ ap (λ n. numbers_at 4 n bytes places_at) (sym count)
        ∙ table_read bytes (number_at 4 bytes) 4 (word 4) (λ n. n) (λ n. n < 2 ^ 32) (length_word 4)
        (λ n before after fits whole. number_read 4 n before after (omega (arith, fits)) whole)
        places places_at 0 (head_part ++ start_part) (count_part ++ (zeros 8 ++ (file_part ++ tail_part))) fits from_places (omega (arith, to_starts))
        ∙ map_same places

    abbrev pub count_at : ℕ
    count_at = 48 + 8 * length codes + 4 * length codes

    count_place : file_count_place the_head ≡ count_at
    count_place = omega arith

    pub count_read : file_count bytes ≡ suc (length t.sources)
    count_read =
        ap (λ (h : Header). number_at 4 bytes (file_count_place h)) head_read
        ∙ ap (number_at 4 bytes) (count_place ∙ sym to_places)
        ∙ number_read 4 (suc (length t.sources)) ((head_part ++ start_part) ++ place_part) (zeros 8 ++ (file_part ++ tail_part)) (omega (arith, length_is)) from_count

    -- a source file by the places of its texts
    abbrev pub file_of : Source → FileInfo
    file_of s = record { directory = text_place t s.dir; filename = text_place t s.file }

    abbrev no_file : FileInfo
    no_file = record { directory = 0; filename = 0 }

    abbrev pub SourceFits : Source → Type 0
    SourceFits s = (text_place t s.dir < 2 ^ 32) × (text_place t s.file < 2 ^ 32)

    file_written : (d f : ℕ) (before after : List ℕ) → d < 2 ^ 32 → f < 2 ^ 32 → bytes ≡ before ++ ((word 4 d ++ word 4 f) ++ after) →
        file_at bytes (length before) ≡ record { directory = d; filename = f }
    file_written d f before after small_d small_f whole =
        let first : bytes ≡ before ++ (word 4 d ++ (word 4 f ++ after)) = whole in
        let second : bytes ≡ (before ++ word 4 d) ++ (word 4 f ++ after) = first ∙ sym (append_assoc before (word 4 d) (word 4 f ++ after)) in
        let four : length (before ++ word 4 d) ≡ length before + 4 = length-append before (word 4 d) in
        ap (λ (n : ℕ). record { directory = n; filename = number_at 4 bytes (length before + 4) }) (number_read 4 d before (word 4 f ++ after) (omega arith) first)
        ∙ ap (λ (p : ℕ). record { directory = d; filename = number_at 4 bytes p }) (sym four)
        ∙ ap (λ (n : ℕ). record { directory = d; filename = n }) (number_read 4 f (before ++ word 4 d) after (omega arith) second)

    -- no place of a text lies behind the string table
    place_most : (texts : List (List ℕ)) (at : ℕ) (text : List ℕ) → place_from at text texts ≤ at + length (flat_map stored texts)
    place_most [] at text = omega arith
    place_most (u ∷ texts) at text =
        let later = place_most texts (at + length (stored u)) text in
        by (bytes_eq u text) (omega (arith, later, length-append (stored u) (flat_map stored texts))) where
          by : (b : Bool) → place_from (at + length (stored u)) text texts ≤ at + length (flat_map stored (u ∷ texts)) →
              cond b at (place_from (at + length (stored u)) text texts) ≤ at + length (flat_map stored (u ∷ texts))
          by true most = omega arith
          by false most = most

    pub text_fits : (text : List ℕ) → text_place t text < 2 ^ 32
    text_fits text = omega (arith, place_most t.texts 1 text, length_is)

    sources_fit : (sources : List Source) → AllByRecursion SourceFits sources
    sources_fit [] = tt
    sources_fit (s ∷ sources) = ((text_fits s.dir, text_fits s.file), sources_fit sources)

    abbrev pub files_at : ℕ
    files_at = count_at + 4

    pub files_place : file_table the_head ≡ files_at
    files_place = omega arith

    first_file : file_at bytes (files_at + 0 * 8) ≡ no_file
    first_file =
        let e : files_at + 0 * 8 ≡ length (((head_part ++ start_part) ++ place_part) ++ count_part) = omega (arith, to_count) in
        ap (file_at bytes) e ∙ file_written 0 0 (((head_part ++ start_part) ++ place_part) ++ count_part) (file_part ++ tail_part) (omega arith) (omega arith) from_files

    pub files_read : files bytes ≡ no_file ∷ map file_of t.sources
    files_read =
        ap (λ (h : Header). map (λ i. file_at bytes (file_table h + i * 8)) (range_with_len 0 (file_count bytes))) head_read
        ∙ ap (λ p. map (λ i. file_at bytes (p + i * 8)) (range_with_len 0 (file_count bytes))) files_place
        ∙ ap (λ n. map (λ i. file_at bytes (files_at + i * 8)) (range_with_len 0 n)) count_read
        ∙ ap (λ f. f ∷ map (λ i. file_at bytes (files_at + i * 8)) (range_with_len 1 (length t.sources))) first_file
        ∙ ap (λ l. no_file ∷ l) (table_read bytes (file_at bytes) 8 (file_bytes t) file_of SourceFits (λ s. refl)
        (λ s before after fits whole. file_written (text_place t s.dir) (text_place t s.file) before after fits.0 fits.1 whole)
        t.sources files_at 1 ((((head_part ++ start_part) ++ place_part) ++ count_part) ++ zeros 8) tail_part (sources_fit t.sources)
        (from_files ∙ sym (append_assoc (((head_part ++ start_part) ++ place_part) ++ count_part) (zeros 8) (file_part ++ tail_part)))
        (length-append (((head_part ++ start_part) ++ place_part) ++ count_part) (zeros 8) ∙ omega (arith, to_count)))

    pub strings_read : strings bytes ≡ string_bytes t
    strings_read =
        ap (λ (h : Header). take h.strtab_size (drop h.strtab_offset bytes)) head_read
        ∙ ap (λ l. take (length (string_bytes t)) (drop strings_at l)) from_strings
        ∙ ap (λ n. take (length (string_bytes t)) (drop n ((head_part ++ table_bytes codes t (layout.data_places t data_at codes)) ++ tail_part))) (sym to_strings)
        ∙ ap (take (length (string_bytes t))) (drop-append_seam (head_part ++ table_bytes codes t (layout.data_places t data_at codes)) tail_part)
        ∙ take_at (string_bytes t) (data_bytes t data_at codes) (length (string_bytes t)) refl
