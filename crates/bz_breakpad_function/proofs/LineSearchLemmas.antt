-- The line records at places in order.
use Rattle.std.proofs.Common.{◌≡◌, ℕ, zero, suc, ◌<◌, List, [], ◌∷◌, length, map, get_or, Some, None, refl, sym, ap, subst, ◌∙◌, arith}
use Rattle.std.specs.List.{AllByRecursion}
use Rattle.std.specs.Prelude.{slice_index}
use Rattle.std.proofs.lemmas.List.{get_or-map, length-map}
use Rattle.bz_base.specs.Nearest.{IsTable, if_covers, nearest_covering}
use Rattle.bz_base.specs.Starts.{IsFound}
use Rattle.bz_base.proofs.TableLemmas.{covering_at, covering_nowhere}
use Rattle.bz_breakpad_table.specs.Kept.{AreSearchable, kept_lines}
use Rattle.bz_breakpad_lines.specs.LineStarts.{ReadsLine, line_read, line_start, line_starts}
use Rattle.bz_breakpad_lines.specs.Table.{SourceLine}
use Rattle.bz_breakpad_lines.proofs.AtPlaceLemmas.{read_there}

-- what holds of all holds of the one at an index
pub all_at : (P : ℕ → Type 0) (xs : List ℕ) (i : ℕ) → AllByRecursion P xs → i < length xs → P (slice_index xs i)
all_at P [] i all within = absurd (omega (arith, within))
all_at P (x ∷ xs) zero all within = all.0
all_at P (x ∷ xs) (suc i) all within = all_at P xs i all.1 (omega (arith, within))

-- the lines that are kept are those at the places
pub kept_are_read : (bytes places : List ℕ) → AllByRecursion (ReadsLine bytes) places → kept_lines bytes places ≡ map (line_read bytes) places
kept_are_read bytes [] all = refl
kept_are_read bytes (place ∷ places) all = rw (read_there bytes place all.0) (ap (λ rest. line_read bytes place ∷ rest) (kept_are_read bytes places all.1))

-- the starts of the lines at places
pub starts_are : (bytes places : List ℕ) → map (λ (l : SourceLine). l.start) (map (line_read bytes) places) ≡ map (line_start bytes) places
starts_are bytes [] = refl
starts_are bytes (place ∷ places) = ap (λ rest. line_start bytes place ∷ rest) (starts_are bytes places)

module _ (bytes places : List ℕ) (searchable : AreSearchable bytes places) (lines : List SourceLine)
    (table : IsTable (λ l. l.start) (λ l. l.size) lines (kept_lines bytes places)) (addr : ℕ) where
  -- the starts of the table are those at the places
  table_starts : map (λ (l : SourceLine). l.start) (kept_lines bytes places) ≡ line_starts bytes places
  table_starts = ap (map (λ (l : SourceLine). l.start)) (kept_are_read bytes places searchable.read) ∙ starts_are bytes places

  -- the line at the place that a search found answers, if it covers the address
  pub line_covers : (index at : ℕ) → IsFound (line_starts bytes places) addr (Some (index, at)) →
      if_covers (λ l. l.start) (λ l. l.size) addr (line_read bytes (slice_index places index)) ≡ nearest_covering (λ l. l.start) (λ l. l.size) addr lines
  line_covers index at found =
      let line = line_read bytes (slice_index places index) in
      let within : index < length places = omega (arith, found.within, length-map places (line_start bytes)) in
      let read : line ≡ get_or (kept_lines bytes places) index line = sym (ap (λ ls. get_or ls index line) (kept_are_read bytes places searchable.read) ∙ get_or-map (line_read bytes) places index 0 line within) in
      covering_at (λ (l : SourceLine). l.start) (λ l. l.size) lines (kept_lines bytes places) table addr index at line
      (subst (λ starts. IsFound starts addr (Some (index, at))) (sym table_starts) found) read

  -- and none answers where it found no place
  pub no_line_covers : IsFound (line_starts bytes places) addr None → None ≡ nearest_covering (λ l. l.start) (λ l. l.size) addr lines
  no_line_covers found =
      covering_nowhere (λ (l : SourceLine). l.start) (λ l. l.size) lines (kept_lines bytes places) table addr
      (subst (λ starts. IsFound starts addr None) (sym table_starts) found)
