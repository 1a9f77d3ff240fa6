-- Data entries that are written are read again, and the list ends behind them.
use Rattle.std.proofs.Common.{◌≡◌, ℕ, ◌^◌, ◌<◌, List, [], ◌∷◌, ◌++◌, length, drop, refl, ap, ◌∙◌, arith, append_assoc}
use Rattle.bz_gsym.specs.Entries.{Begins, Entry, entries_in, entry_head_len, entry_len}
use Rattle.bz_base.specs.Little.{number_at}
use Rattle.bz_gsym.proofs.EntryLaws.{first_is, has_it, rest_read}
use Rattle.bz_gsym.proofs.EntryLemmas.{entries_step, no_entries}
use Rattle.bz_gsym_layout.specs.Layout.{entry_bytes, word, zeros}
use Rattle.bz_gsym_layout.proofs.WordLemmas.{little_word}

-- an entry in front
pub entry_front : (typ : ℕ) (text rest : List ℕ) → (typ ≡ 0 → ⊥) → typ < 2 ^ 32 → length text < 2 ^ 32 →
    entries_in (entry_bytes typ text ++ rest) ≡ record { typ = typ; text = text } ∷ entries_in rest
entry_front typ text rest some small short =
    let bytes : List ℕ = entry_bytes typ text ++ rest in
    let entry : Entry = record { typ = typ; text = text } in
    let is : Begins bytes entry rest = record {
      typ = word 4 typ;
      len = word 4 (length text);
      whole = simp append_assoc;
      type_width = refl;
      length_width = refl;
      type_is = little_word 4 typ (omega arith);
      length_is = little_word 4 (length text) (omega arith);
      goes_on = some;
    } in
    entries_step bytes (has_it bytes entry rest is) ∙ ap (λ e. e ∷ entries_in (drop (entry_len bytes) bytes)) (first_is bytes entry rest is) ∙ ap (λ l. entry ∷ entries_in l) (rest_read bytes entry rest is)

-- and none behind the last one
pub entries_end : (rest : List ℕ) → entries_in (zeros entry_head_len ++ rest) ≡ []
unfolding number_at
entries_end rest = no_entries (zeros entry_head_len ++ rest) refl
