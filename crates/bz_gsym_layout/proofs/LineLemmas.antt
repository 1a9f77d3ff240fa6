-- A line table that is written from rows gives at each address the last row that doesn't lie above it.
use Rattle.std.proofs.Common.{◌≡◌, inl, inr, ℕ, pos, negsuc, ◌+◌, ◌-◌, ◌%◌, ◌^◌, ◌<◌, ◌≤◌, ◌-ℤ◌, option_map, List, [], ◌∷◌, ◌++◌, Option, Some, None, refl, sym, ap, ◌∙◌, arith, append_assoc, append-nil}
use Rattle.std.specs.Prelude.{◌+ℤ◌}
use Rattle.std.proofs.lemmas.Bool.{cases_lt, lt-ltb, le-ltb}
use Rattle.std.proofs.lemmas.Int.{ints}
use Rattle.std.proofs.lemmas.Option.{none-some, same_Some}
use Rattle.bz_base.specs.Cursor.{byte_at}
use Rattle.bz_base.specs.Leb128.{sleb_at, uleb_at}
use Rattle.bz_gsym.specs.LineTable.{first_state, header_at, line_in, low_half, operator_at, picked, sought, states}
use Rattle.bz_gsym.specs.declared.linetab.LineTableHeader.{LineTableHeader}
use Rattle.bz_gsym.specs.declared.linetab.LineTableRow.{LineTableRow}
use Rattle.bz_gsym.specs.declared.linetab.RunResult.TheVariants as results
use Rattle.bz_gsym.proofs.LineTableLaws.{picked_early}
use Rattle.bz_gsym.proofs.LineTableLemmas.{past_state, past_row, at_row, at_end}
use Rattle.bz_gsym_layout.specs.Leb.{sleb, uleb}
use Rattle.bz_gsym_layout.specs.Layout.{Tables, line_table_bytes, rows_bytes, source_index}
use Rattle.bz_gsym_layout.specs.Plan.{Line}
use Rattle.bz_gsym_layout.specs.Rows.{row_at}
use Rattle.bz_gsym_layout.proofs.LebLemmas.{uleb_again, positive_again, negative_again}

-- a distance between two lines
pub delta_again : (from to : ℕ) (rest : List ℕ) → from < 2 ^ 32 → to < 2 ^ 32 → sleb_at (sleb (pos to -ℤ pos from) ++ rest) ≡ Some (pos to -ℤ pos from, rest)
delta_again from to rest small high =
    elim (cases_lt to from) [
      | inl below ↦
          let e : pos to -ℤ pos from ≡ negsuc (from - to - 1) = omega (arith, ints) in
          rw e (negative_again (from - to - 1) rest (omega arith))
      | inr above ↦
          let e : pos to -ℤ pos from ≡ pos (to - from) = omega (arith, ints) in
          rw e (positive_again (to - from) rest (omega arith))
    ]

low_is : (number : ℕ) → number < 2 ^ 32 → low_half (pos number) ≡ number
low_is number small = omega arith

line_is : (from to : ℕ) → to < 2 ^ 32 → low_half (pos from +ℤ (pos to -ℤ pos from)) ≡ to
line_is from to small = let e : pos from +ℤ (pos to -ℤ pos from) ≡ pos to = omega (arith, ints) in ap low_half e ∙ low_is to small

module _ (t : Tables) (header : LineTableHeader) where
  abbrev pub state_of : ℕ × Line → LineTableRow
  state_of row = record { addr = row.0; file_idx = source_index t row.1.source; file_line = row.1.line }

  -- the three operators of a row
  module _ (now : LineTableRow) (addr file line : ℕ) (rest : List ℕ) where
    file_set : file < 2 ^ 32 → Some ((results.Ok, record { addr = now.addr; file_idx = file; file_line = now.file_line }), rest) ≡ operator_at header now (1 ∷ uleb file ++ rest)
    unfolding operator_at byte_at
    file_set small = rw (uleb_again file rest (omega arith), low_is file small) refl

    line_set : now.file_line < 2 ^ 32 → line < 2 ^ 32 →
        Some ((results.Ok, record { addr = now.addr; file_idx = now.file_idx; file_line = line }), rest) ≡ operator_at header now (3 ∷ sleb (pos line -ℤ pos now.file_line) ++ rest)
    unfolding operator_at byte_at
    line_set before small = rw (delta_again now.file_line line rest before small, line_is now.file_line line small) refl

    addr_set : now.addr ≤ addr → addr < 2 ^ 64 →
        Some ((results.NewRow, record { addr = addr; file_idx = now.file_idx; file_line = now.file_line }), rest) ≡ operator_at header now (2 ∷ uleb (addr - now.addr) ++ rest)
    unfolding operator_at byte_at
    addr_set up small =
        let e : (now.addr + (addr - now.addr)) % 2 ^ 64 ≡ addr = omega arith in
        rw (uleb_again (addr - now.addr) rest (omega arith), e) refl

  -- rows that ascend from an address on, each of numbers that a line table has
  abbrev pub RowsFit : ℕ → List (ℕ × Line) → Type 0
  RowsFit addr [] = Unit {0}
  RowsFit addr (row ∷ rows) =
      (addr ≤ row.0) × (row.0 < 2 ^ 64) × (row.1.line < 2 ^ 32) × (source_index t row.1.source < 2 ^ 32) × RowsFit row.0 rows

  -- the last row, where the state is its own
  kept : (last : Option (ℕ × Line)) (now : LineTableRow) → ((r : ℕ × Line) → last ≡ Some r → now ≡ state_of r) → option_map (λ row. now) (option_map state_of last) ≡ option_map state_of last
  kept None now own = refl
  kept (Some r) now own = ap Some (own r refl)

  ends : (now : LineTableRow) (rest : List ℕ) → Some ((results.End, now), rest) ≡ operator_at header now (0 ∷ rest)
  unfolding operator_at byte_at
  ends now rest = refl

  -- a row in front
  module _ (addr : ℕ) (now : LineTableRow) (row : ℕ × Line) (rows : List (ℕ × Line)) (last : Option (ℕ × Line)) (rest : List ℕ)
      (small : now.file_line < 2 ^ 32) (fits : RowsFit now.addr (row ∷ rows)) where
    abbrev file : ℕ
    file = source_index t row.1.source

    abbrev after : List ℕ
    after = rows_bytes t row.0 row.1.line rows ++ rest

    abbrev by_addr : List ℕ
    by_addr = 2 ∷ uleb (row.0 - now.addr) ++ after

    abbrev by_line : List ℕ
    by_line = 3 ∷ sleb (pos row.1.line -ℤ pos now.file_line) ++ by_addr

    parts : rows_bytes t now.addr now.file_line (row ∷ rows) ++ rest ≡ 1 ∷ uleb file ++ by_line
    parts = simp append_assoc

    abbrev filed : LineTableRow
    filed = record { addr = now.addr; file_idx = file; file_line = now.file_line }

    abbrev lined : LineTableRow
    lined = record { addr = now.addr; file_idx = file; file_line = row.1.line }

    before_addr : sought addr (option_map state_of last) lined (states header lined by_addr)
        ≡ sought addr (option_map state_of last) now (states header now (rows_bytes t now.addr now.file_line (row ∷ rows) ++ rest))
    before_addr =
        past_state header addr (option_map state_of last) filed lined by_line by_addr (line_set filed row.0 file row.1.line by_addr small fits.2)
        ∙ past_state header addr (option_map state_of last) now filed (1 ∷ uleb file ++ by_line) by_line (file_set now row.0 file row.1.line by_line fits.3)
        ∙ ap (λ l. sought addr (option_map state_of last) now (states header now l)) (sym parts)

    step : Some ((results.NewRow, state_of row), after) ≡ operator_at header lined by_addr
    step = addr_set lined row.0 file row.1.line after fits.0 fits.1

    pub row_above : addr < row.0 →
        sought addr (option_map state_of last) now (states header now (rows_bytes t now.addr now.file_line (row ∷ rows) ++ rest)) ≡ option_map state_of last
    row_above above = sym (at_row header addr (option_map state_of last) lined (state_of row) by_addr after step above ∙ before_addr)

    pub row_below : row.0 ≤ addr →
        sought addr (option_map state_of last) now (states header now (rows_bytes t now.addr now.file_line (row ∷ rows) ++ rest))
        ≡ sought addr (Some (state_of row)) (state_of row) (states header (state_of row) after)
    row_below below = sym (past_row header addr (option_map state_of last) lined (state_of row) by_addr after step below ∙ before_addr)

  pub rows_answer : (rows : List (ℕ × Line)) (addr : ℕ) (now : LineTableRow) (last : Option (ℕ × Line)) (rest : List ℕ) →
      now.file_line < 2 ^ 32 → RowsFit now.addr rows → ((r : ℕ × Line) → last ≡ Some r → now ≡ state_of r) →
      sought addr (option_map state_of last) now (states header now (rows_bytes t now.addr now.file_line rows ++ rest)) ≡ option_map state_of (row_at addr last rows)
  rows_answer [] addr now last rest small fits own =
      sym (at_end header addr (option_map state_of last) now now (0 ∷ rest) rest (ends now rest)) ∙ kept last now own
  rows_answer (row ∷ rows) addr now last rest small fits own =
      elim (cases_lt addr row.0) [
        | inl above ↦ row_above addr now row rows last rest small fits above ∙ rw (lt-ltb addr row.0 above) refl
        | inr below ↦
            row_below addr now row rows last rest small fits below
            ∙ rows_answer rows addr (state_of row) (Some row) rest fits.2 fits.4 (λ r same. ap state_of (same_Some row r same))
            ∙ rw (le-ltb addr row.0 below) refl
      ]

-- the head: three numbers 0
abbrev pub zero_header : LineTableHeader
zero_header = record { min_delta = pos 0; max_delta = pos 0; first_line = 0 }

zero_sleb : (rest : List ℕ) → sleb_at (0 ∷ rest) ≡ Some (pos 0, rest)
unfolding sleb
zero_sleb rest = positive_again 0 rest (omega arith)

zero_uleb : (rest : List ℕ) → uleb_at (0 ∷ rest) ≡ Some (0, rest)
unfolding uleb
zero_uleb rest = uleb_again 0 rest (omega arith)

head_is : (rest : List ℕ) → header_at (0 ∷ 0 ∷ 0 ∷ rest) ≡ Some (zero_header, rest)
head_is rest = rw (zero_sleb (0 ∷ 0 ∷ rest), zero_sleb (0 ∷ rest), zero_uleb rest) refl

-- the line table that is written from rows of a function gives the last row that doesn't lie above the
-- address
pub line_read : (t : Tables) (start addr : ℕ) (rows : List (ℕ × Line)) → RowsFit t zero_header start rows →
    line_in start addr (line_table_bytes t start rows) ≡ Some (option_map (state_of t zero_header) (row_at addr None rows))
line_read t start addr rows fits =
    let first = first_state zero_header start in
    ap (option_map (λ (head : LineTableHeader × List ℕ). picked addr (states head.0 (first_state head.0 start) head.1))) (head_is (rows_bytes t start 0 rows))
    ∙ ap Some (sym (picked_early addr first (states zero_header first (rows_bytes t start 0 rows)))
    ∙ ap (λ l. sought addr None first (states zero_header first l)) (sym (append-nil (rows_bytes t start 0 rows)))
    ∙ rows_answer t zero_header rows addr first None [] (omega arith) fits (λ r none. absurd (none-some r none)))
