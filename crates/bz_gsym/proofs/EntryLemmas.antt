-- The data entries in front of bytes, one after another.
use Rattle.std.proofs.Common.{◌≡◌, ℕ, zero, suc, ◌-◌, ◌*◌, ◌<◌, ◌≤◌, Bool, true, false, not, nat_le, List, [], ◌∷◌, length, take, drop, Some, None, refl, sym, ap, ◌∙◌, arith, inl, inr}
use Rattle.std.specs.Prelude.{◌&&◌, ◌==◌}
use Rattle.std.proofs.lemmas.Bool.{cases_lt, le-leb, lt-leb, leb-true, eq-eqb, ne_eqb, and_parts}
use Rattle.std.proofs.lemmas.List.{length-drop, drop-drop}
use Rattle.std.proofs.lemmas.Option.{none-some, same_Some}
use Rattle.bz_base.specs.Cursor.{little, slice_at, with_rest, word_at}
use Rattle.bz_base.specs.Little.{number_at}
use Rattle.bz_gsym.specs.Entries.{Entry, entries_in, entries_within, entry_len, first_entry, has_entry, end_of_list}

-- no entry lies in bytes that don't reach its end
short : (bytes : List ℕ) → length bytes < entry_len bytes → has_entry bytes ≡ false
short bytes less = rw (lt-leb (entry_len bytes) (length bytes) less) (none (not (number_at 4 bytes 0 == end_of_list))) where
  none : (b : Bool) → (b && false) ≡ false
  none true = refl
  none false = refl

-- nor where the type ends the list
ended : (bytes : List ℕ) → number_at 4 bytes 0 ≡ end_of_list → has_entry bytes ≡ false
ended bytes is = rw (eq-eqb (number_at 4 bytes 0) end_of_list is) refl

-- an entry reaches no further than the bytes
pub fits : (bytes : List ℕ) → has_entry bytes ≡ true → entry_len bytes ≤ length bytes
fits bytes has = leb-true (entry_len bytes) (length bytes) (and_parts (not (number_at 4 bytes 0 == end_of_list)) (nat_le (entry_len bytes) (length bytes)) has).1

-- the entries, where no entry lies in front
within_none : (most : ℕ) (bytes : List ℕ) → has_entry bytes ≡ false → entries_within most bytes ≡ []
within_none zero bytes none = refl
within_none (suc most) bytes none = rw none refl

-- one entry more, where what follows it is known
module _ (most more : ℕ) (bytes : List ℕ) (here : length bytes ≤ suc most) (there : length bytes ≤ suc more)
    (next : (rest : List ℕ) → length rest ≤ most → length rest ≤ more → entries_within most rest ≡ entries_within more rest) where
  enough_by : (has : Bool) → has_entry bytes ≡ has → entries_within (suc most) bytes ≡ entries_within (suc more) bytes
  enough_by true has =
      let at = fits bytes has in
      let rest : length (drop (entry_len bytes) bytes) ≡ length bytes - entry_len bytes = length-drop (entry_len bytes) bytes in
      rw has (ap (λ l. first_entry bytes ∷ l) (next (drop (entry_len bytes) bytes) (omega (arith, at, rest)) (omega (arith, at, rest))))
  enough_by false has = rw has refl

-- so many as there are bytes are enough
enough : (most more : ℕ) (bytes : List ℕ) → length bytes ≤ most → length bytes ≤ more → entries_within most bytes ≡ entries_within more bytes
enough zero more bytes here there = sym (within_none more bytes (short bytes (omega arith)))
enough (suc most) zero bytes here there = within_none (suc most) bytes (short bytes (omega arith))
enough (suc most) (suc more) bytes here there = enough_by most more bytes here there (λ rest. enough most more rest) (has_entry bytes) refl

-- there is no entry
pub no_entries : (bytes : List ℕ) → has_entry bytes ≡ false → entries_in bytes ≡ []
unfolding entries_in
no_entries bytes none = within_none (length bytes) bytes none

-- the entry in front, and those after it
pub entries_step : (bytes : List ℕ) → has_entry bytes ≡ true → entries_in bytes ≡ first_entry bytes ∷ entries_in (drop (entry_len bytes) bytes)
unfolding entries_in
entries_step bytes has =
    let at = fits bytes has in
    let rest : length (drop (entry_len bytes) bytes) ≡ length bytes - entry_len bytes = length-drop (entry_len bytes) bytes in
    enough (length bytes) (suc (length bytes)) bytes (omega arith) (omega arith)
    ∙ rw has (ap (λ l. first_entry bytes ∷ l) (enough (length bytes) (length (drop (entry_len bytes) bytes)) (drop (entry_len bytes) bytes) (omega (arith, at, rest)) (omega arith)))

few_by : (most : ℕ) (bytes : List ℕ) → ((rest : List ℕ) → 8 * length (entries_within most rest) ≤ length rest) → (has : Bool) → has_entry bytes ≡ has →
    8 * length (entries_within (suc most) bytes) ≤ length bytes
few_by most bytes next true has =
    let at = fits bytes has in
    let rest : length (drop (entry_len bytes) bytes) ≡ length bytes - entry_len bytes = length-drop (entry_len bytes) bytes in
    let more = next (drop (entry_len bytes) bytes) in
    rw has (omega (arith, at, rest, more))
few_by most bytes next false has = rw has (omega arith)

-- each entry takes 8 bytes
few_within : (most : ℕ) (bytes : List ℕ) → 8 * length (entries_within most bytes) ≤ length bytes
few_within zero bytes = omega arith
few_within (suc most) bytes = few_by most bytes (few_within most) (has_entry bytes) refl

pub few_entries : (bytes : List ℕ) → 8 * length (entries_in bytes) ≤ length bytes
unfolding entries_in
few_entries bytes = few_within (length bytes) bytes

word_there : (bytes : List ℕ) → 4 ≤ length bytes → word_at 4 bytes ≡ Some (little (take 4 bytes), drop 4 bytes)
unfolding word_at slice_at
word_there bytes more = rw (le-leb 4 (length bytes) more) refl

word_short : (bytes : List ℕ) → length bytes < 4 → word_at 4 bytes ≡ None
unfolding word_at slice_at
word_short bytes less = rw (lt-leb 4 (length bytes) less) refl

slice_there : (count : ℕ) (bytes : List ℕ) → count ≤ length bytes → slice_at count bytes ≡ Some (take count bytes, drop count bytes)
unfolding slice_at
slice_there count bytes more = rw (le-leb count (length bytes) more) refl

slice_less : (count : ℕ) (bytes : List ℕ) → length bytes < count → slice_at count bytes ≡ None
unfolding slice_at
slice_less count bytes less = rw (lt-leb count (length bytes) less) refl

-- a number or a slice that is read of bytes' front, or that isn't there
word_found : (n : ℕ) (left bytes : List ℕ) → with_rest (Some n) left ≡ word_at 4 bytes → (4 ≤ length bytes) × (n ≡ little (take 4 bytes)) × (left ≡ drop 4 bytes)
word_found n left bytes read = elim (cases_lt (length bytes) 4) [
  | inl less ↦ absurd (none-some _ (sym (word_short bytes less) ∙ sym read))
  | inr more ↦
      let is = same_Some (n, left) (little (take 4 bytes), drop 4 bytes) (read ∙ word_there bytes more) in
      (more, ap (λ (p : ℕ × List ℕ). p.0) is, ap (λ (p : ℕ × List ℕ). p.1) is)
]

word_missing : (bytes : List ℕ) → None ≡ word_at 4 bytes → length bytes < 4
word_missing bytes read = elim (cases_lt (length bytes) 4) [ inl less ↦ less | inr more ↦ absurd (none-some _ (read ∙ word_there bytes more)) ]

slice_found : (count : ℕ) (text left bytes : List ℕ) → with_rest (Some text) left ≡ slice_at count bytes → (count ≤ length bytes) × (text ≡ take count bytes) × (left ≡ drop count bytes)
slice_found count text left bytes read = elim (cases_lt (length bytes) count) [
  | inl less ↦ absurd (none-some _ (sym (slice_less count bytes less) ∙ sym read))
  | inr more ↦
      let is = same_Some (text, left) (take count bytes, drop count bytes) (read ∙ slice_there count bytes more) in
      (more, ap (λ (p : List ℕ × List ℕ). p.0) is, ap (λ (p : List ℕ × List ℕ). p.1) is)
]

slice_missing : (count : ℕ) (bytes : List ℕ) → None ≡ slice_at count bytes → length bytes < count
slice_missing count bytes read = elim (cases_lt (length bytes) count) [ inl less ↦ less | inr more ↦ absurd (none-some _ (read ∙ slice_there count bytes more)) ]

-- where the type can't be read, or ends the list, there is no entry
pub none_typed : (bytes : List ℕ) → None ≡ word_at 4 bytes → entries_in bytes ≡ []
none_typed bytes read = let less = word_missing bytes read in no_entries bytes (short bytes (omega arith))

pub type_ends : (bytes left : List ℕ) (typ : ℕ) → with_rest (Some typ) left ≡ word_at 4 bytes → typ ≡ end_of_list → entries_in bytes ≡ []
unfolding number_at
type_ends bytes left typ read is = no_entries bytes (ended bytes (sym (word_found typ left bytes read).1 ∙ is))

-- what is read behind a type
module _ (bytes left : List ℕ) (typ : ℕ) (read : with_rest (Some typ) left ≡ word_at 4 bytes) where
  -- without a length there is no entry
  pub none_measured : None ≡ word_at 4 left → entries_in bytes ≡ []
  none_measured none =
      let at = word_found typ left bytes read in
      let less = word_missing left none in
      no_entries bytes (short bytes (omega (arith, at.0, ap length at.2, length-drop 4 bytes, less)))

  module _ (len : ℕ) (rest : List ℕ) (measured : with_rest (Some len) rest ≡ word_at 4 left) where
    -- the length is the number behind the type
    len_is : len ≡ number_at 4 bytes 4
    unfolding number_at
    len_is = (word_found len rest left measured).1 ∙ ap (λ l. little (take 4 l)) (word_found typ left bytes read).2

    typ_is : typ ≡ number_at 4 bytes 0
    unfolding number_at
    typ_is = (word_found typ left bytes read).1

    rest_is : rest ≡ drop 8 bytes
    rest_is = (word_found len rest left measured).2 ∙ ap (drop 4) (word_found typ left bytes read).2 ∙ drop-drop 4 4 bytes

    long_enough : 8 ≤ length bytes
    long_enough =
        let first = word_found typ left bytes read in
        let second = word_found len rest left measured in
        omega (arith, first.0, second.0, ap length first.2, length-drop 4 bytes)

    -- without as many bytes there is none either
    pub none_filled : None ≡ slice_at len rest → entries_in bytes ≡ []
    none_filled none =
        let less = slice_missing len rest none in
        no_entries bytes (short bytes (omega (arith, less, len_is, ap length rest_is, length-drop 8 bytes, long_enough)))

    module _ (text after : List ℕ) (filled : with_rest (Some text) after ≡ slice_at len rest) (goes_on : ¬ (typ ≡ end_of_list)) where
      has : has_entry bytes ≡ true
      has =
          let more = (slice_found len text after rest filled).0 in
          let reach : entry_len bytes ≤ length bytes = omega (arith, more, len_is, ap length rest_is, length-drop 8 bytes, long_enough) in
          let other : (number_at 4 bytes 0 == end_of_list) ≡ false = ne_eqb (number_at 4 bytes 0) end_of_list (λ is. goes_on (typ_is ∙ is)) in
          rw (other, le-leb (entry_len bytes) (length bytes) reach) refl

      text_is : text ≡ take (number_at 4 bytes 4) (drop 8 bytes)
      text_is = (slice_found len text after rest filled).1 ∙ ap (λ n. take n rest) len_is ∙ ap (take (number_at 4 bytes 4)) rest_is

      after_is : after ≡ drop (entry_len bytes) bytes
      after_is =
          (slice_found len text after rest filled).2 ∙ ap (λ n. drop n rest) len_is ∙ ap (drop (number_at 4 bytes 4)) rest_is
          ∙ drop-drop (number_at 4 bytes 4) 8 bytes

      -- an entry that is read is the first, and those after it are the others
      pub entry_read : entries_in bytes ≡ record { typ = typ; text = text } ∷ entries_in after
      entry_read =
          entries_step bytes has
          ∙ ap (λ (e : Entry). e ∷ entries_in (drop (entry_len bytes) bytes)) (sym same)
          ∙ ap (λ l. record { typ = typ; text = text } ∷ entries_in l) (sym after_is) where
            same : record { typ = typ; text = text } ≡ first_entry bytes
            same = cc (typ_is, text_is)
