-- The entries that are read of bytes are those that make them up side by side.
use Rattle.std.proofs.Common.{◌≡◌, ℕ, ◌-◌, ◌≤◌, Bool, true, false, not, nat_le, List, [], ◌∷◌, ◌++◌, length, take, drop, append_assoc, refl, sym, ap, subst, ◌∙◌, arith}
use Rattle.std.specs.Prelude.{◌==◌}
use Rattle.std.proofs.lemmas.Bool.{and_parts, eqb-false, le-leb, ne_eqb, not-true}
use Rattle.std.proofs.lemmas.List.{drop-drop, length-append, length-drop, length-take-le, take-append-drop}
use Rattle.std.proofs.Math.Seq.{drop-append_seam, take-append_seam}
use Rattle.bz_base.specs.Cursor.{little}
use Rattle.bz_base.specs.Little.{number_at}
use Rattle.bz_gsym.specs.Entries.{AreEntries, Begins, Entry, entries_in, entry_len, first_entry, has_entry, end_of_list}
use Rattle.bz_gsym.proofs.EntryLemmas.{entries_step, fits, no_entries}

-- where an entry lies in front, the bytes are it and what follows
begins : (bytes : List ℕ) → has_entry bytes ≡ true → Begins bytes (first_entry bytes) (drop (entry_len bytes) bytes)
unfolding number_at
begins bytes has =
    let reach = fits bytes has in
    let len = number_at 4 bytes 4 in
    let goes_on = (and_parts (not (number_at 4 bytes 0 == end_of_list)) (nat_le (entry_len bytes) (length bytes)) has).0 in
    let eight : length (drop 8 bytes) ≡ length bytes - 8 = length-drop 8 bytes in
    let four : length (drop 4 bytes) ≡ length bytes - 4 = length-drop 4 bytes in
    let text = take len (drop 8 bytes) in
    let after = drop (entry_len bytes) bytes in
    let filled : text ++ after ≡ drop 8 bytes = ap (λ l. text ++ l) (sym (drop-drop len 8 bytes)) ∙ take-append-drop len (drop 8 bytes) in
    let measured : take 4 (drop 4 bytes) ++ drop 8 bytes ≡ drop 4 bytes = ap (λ l. take 4 (drop 4 bytes) ++ l) (sym (drop-drop 4 4 bytes)) ∙ take-append-drop 4 (drop 4 bytes) in
    record {
      typ = take 4 bytes;
      len = take 4 (drop 4 bytes);
      whole = sym (append_assoc (take 4 bytes ++ take 4 (drop 4 bytes)) text after ∙ append_assoc (take 4 bytes) (take 4 (drop 4 bytes)) (text ++ after)
          ∙ ap (λ l. take 4 bytes ++ (take 4 (drop 4 bytes) ++ l)) filled ∙ ap (λ l. take 4 bytes ++ l) measured ∙ take-append-drop 4 bytes);
      type_width = length-take-le 4 bytes (omega (arith, reach));
      length_width = length-take-le 4 (drop 4 bytes) (omega (arith, reach, four));
      type_is = refl;
      length_is = sym (length-take-le len (drop 8 bytes) (omega (arith, reach, eight)));
      goes_on = eqb-false _ _ (not-true _ goes_on);
    }

-- what begins with an entry has it in front
module _ (bytes : List ℕ) (entry : Entry) (rest : List ℕ) (is : Begins bytes entry rest) where
  whole : bytes ≡ is.typ ++ (is.len ++ (entry.text ++ rest))
  whole = is.whole ∙ append_assoc (is.typ ++ is.len) entry.text rest ∙ append_assoc is.typ is.len (entry.text ++ rest)

  after_type : drop 4 bytes ≡ is.len ++ (entry.text ++ rest)
  after_type = ap (drop 4) whole ∙ ap (λ n. drop n (is.typ ++ (is.len ++ (entry.text ++ rest)))) (sym is.type_width) ∙ drop-append_seam is.typ (is.len ++ (entry.text ++ rest))

  after_length : drop 8 bytes ≡ entry.text ++ rest
  after_length =
      sym (drop-drop 4 4 bytes) ∙ ap (drop 4) after_type
      ∙ ap (λ n. drop n (is.len ++ (entry.text ++ rest))) (sym is.length_width) ∙ drop-append_seam is.len (entry.text ++ rest)

  type_read : number_at 4 bytes 0 ≡ entry.typ
  unfolding number_at
  type_read =
      ap (λ l. little (take 4 l)) whole
      ∙ ap (λ n. little (take n (is.typ ++ (is.len ++ (entry.text ++ rest))))) (sym is.type_width)
      ∙ ap little (take-append_seam is.typ (is.len ++ (entry.text ++ rest))) ∙ is.type_is

  length_read : number_at 4 bytes 4 ≡ length entry.text
  unfolding number_at
  length_read =
      ap (λ l. little (take 4 l)) after_type
      ∙ ap (λ n. little (take n (is.len ++ (entry.text ++ rest)))) (sym is.length_width)
      ∙ ap little (take-append_seam is.len (entry.text ++ rest)) ∙ is.length_is

  text_read : take (number_at 4 bytes 4) (drop 8 bytes) ≡ entry.text
  text_read = ap (λ n. take n (drop 8 bytes)) length_read ∙ ap (take (length entry.text)) after_length ∙ take-append_seam entry.text rest

  pub rest_read : drop (entry_len bytes) bytes ≡ rest
  rest_read =
      sym (drop-drop (number_at 4 bytes 4) 8 bytes) ∙ ap (λ n. drop n (drop 8 bytes)) length_read
      ∙ ap (drop (length entry.text)) after_length ∙ drop-append_seam entry.text rest

  reaches : entry_len bytes ≤ length bytes
  reaches = omega (arith, length_read, ap length whole, length-append is.typ (is.len ++ (entry.text ++ rest)), length-append is.len (entry.text ++ rest), length-append entry.text rest, is.type_width, is.length_width)

  pub has_it : has_entry bytes ≡ true
  has_it =
      let other : (number_at 4 bytes 0 == end_of_list) ≡ false = ne_eqb _ _ (λ ends. is.goes_on (sym type_read ∙ ends)) in
      rw (other, le-leb (entry_len bytes) (length bytes) reaches) refl

  pub first_is : first_entry bytes ≡ entry
  first_is =
      ap (λ (n : ℕ). record { typ = n; text = take (number_at 4 bytes 4) (drop 8 bytes) }) type_read
      ∙ ap (λ (t : List ℕ). record { typ = entry.typ; text = t }) text_read

-- of two lists with an item in front that are equal, the items and the rests are
module _ (x y : Entry) (xs ys : List Entry) (same : x ∷ xs ≡ y ∷ ys) where
  heads : x ≡ y
  heads = cc

  tails : xs ≡ ys
  tails = cc

nothing : (x : Entry) (xs : List Entry) → x ∷ xs ≡ [] → ⊥
nothing x xs same = cc

-- an entry in front, where what follows it is known
module _ (entry : Entry) (entries : List Entry) (bytes : List ℕ) (read : entries_in bytes ≡ entry ∷ entries)
    (next : (rest : List ℕ) → entries_in rest ≡ entries → AreEntries rest entries) where
  by_front : (has : Bool) → has_entry bytes ≡ has → AreEntries bytes (entry ∷ entries)
  by_front true has =
      let after = drop (entry_len bytes) bytes in
      let step : first_entry bytes ∷ entries_in after ≡ entry ∷ entries = sym (entries_step bytes has) ∙ read in (
        after,
        (
          subst (λ e. Begins bytes e after) (heads (first_entry bytes) entry (entries_in after) entries step) (begins bytes has),
          next after (tails (first_entry bytes) entry (entries_in after) entries step),
        ),
      )
  by_front false has = absurd (nothing entry entries (sym read ∙ no_entries bytes has))

-- what is read makes up the bytes
pub are_entries : (entries : List Entry) (bytes : List ℕ) → entries_in bytes ≡ entries → AreEntries bytes entries
are_entries [] bytes read = λ entry rest is.
    absurd (nothing (first_entry bytes) (entries_in (drop (entry_len bytes) bytes)) (sym (entries_step bytes (has_it bytes entry rest is)) ∙ read))
are_entries (entry ∷ entries) bytes read = by_front entry entries bytes read (are_entries entries) (has_entry bytes) refl

-- what makes up the bytes is read
pub entries_are : (entries : List Entry) (bytes : List ℕ) → AreEntries bytes entries → entries_in bytes ≡ entries
entries_are [] bytes none = in_front (has_entry bytes) refl where
  in_front : (has : Bool) → has_entry bytes ≡ has → entries_in bytes ≡ []
  in_front true has = absurd (none (first_entry bytes) (drop (entry_len bytes) bytes) (begins bytes has))
  in_front false has = no_entries bytes has
entries_are (entry ∷ entries) bytes are =
    let is = are.1.0 in
    entries_step bytes (has_it bytes entry are.0 is)
    ∙ ap (λ e. e ∷ entries_in (drop (entry_len bytes) bytes)) (first_is bytes entry are.0 is)
    ∙ ap (λ l. entry ∷ entries_in l) (rest_read bytes entry are.0 is)
    ∙ ap (λ l. entry ∷ l) (entries_are entries are.0 are.1.1)
