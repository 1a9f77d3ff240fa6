-- The line table of a symbol: operators that carry a state from row to row (llvm::gsym::LineTable).
use Rattle.std.specs.Prelude.{ℕ, zero, suc, ℤ, pos, ◌+◌, ◌-◌, ◌/◌, ◌%◌, ◌^◌, ◌+ℤ◌, ◌-ℤ◌, ◌==◌, nat_lt, int_lt, unsigned_abs, Bool, true, false, if◌then◌else◌, List, [], ◌∷◌, length, map, Option, Some, None, option_map, unwrap_or}
use Rattle.std.specs.Int.{int_rem_euclid}
use Rattle.std.specs.List.{before_first, filter, last_or, list_any}
use Rattle.bz_base.specs.Bind.{◌>>=◌}
use Rattle.bz_base.specs.Cursor.{byte_at}
use Rattle.bz_base.specs.Leb128.{sleb_at, uleb_at}
use Rattle.bz_gsym.specs.declared.linetab.LineTableHeader.{LineTableHeader}
use Rattle.bz_gsym.specs.declared.linetab.LineTableRow.{LineTableRow}
use Rattle.bz_gsym.specs.declared.linetab.RunResult.{RunResult}
use Rattle.bz_gsym.specs.declared.linetab.RunResult.TheVariants as results

-- the low 32 bits of a number
abbrev pub low_half : ℤ → ℕ
low_half number = unsigned_abs (int_rem_euclid number (pos (2 ^ 32)))

-- the low 64 bits of an address
abbrev pub wrapped : ℕ → ℕ
wrapped addr = addr % 2 ^ 64

-- the head of a table, and the bytes of the operators: least and greatest line delta, and the first
-- line. None: a number is missing
abbrev pub header_at : List ℕ → Option (LineTableHeader × List ℕ)
header_at bytes = do
  least ← sleb_at bytes
  greatest ← sleb_at least.1
  line ← uleb_at greatest.1
  Some (record { min_delta = least.0; max_delta = greatest.0; first_line = low_half (pos line.0) }, line.1)

-- the bytes behind a line delta in front; all of them where there is none
abbrev pub behind_delta : List ℕ → List ℕ
behind_delta bytes = unwrap_or (option_map (λ delta. delta.1) (sleb_at bytes)) bytes

-- the state before the first operator
abbrev pub first_state : LineTableHeader → ℕ → LineTableRow
first_state header start = record { addr = start; file_idx = 1; file_line = header.first_line }

-- the operators, each of one byte; those from the first special one on are special
abbrev pub end_sequence : ℕ
end_sequence = 0

abbrev pub set_file : ℕ
set_file = 1

abbrev pub advance_pc : ℕ
advance_pc = 2

abbrev pub advance_line : ℕ
advance_line = 3

abbrev pub first_special : ℕ
first_special = 4

-- a state with another file, with an address so much further on, with a line so much further on
abbrev pub with_file : LineTableRow → ℕ → LineTableRow
with_file row file = record row { file_idx = low_half (pos file) }

abbrev pub further : LineTableRow → ℕ → LineTableRow
further row delta = record row { addr = wrapped (row.addr + delta) }

abbrev pub lines_on : LineTableRow → ℤ → LineTableRow
lines_on row delta = record row { file_line = low_half (pos row.file_line +ℤ delta) }

-- how many line deltas there are from the least to the greatest; it is below one where the greatest is
-- below the least
abbrev pub range : LineTableHeader → ℤ
range header = (header.max_delta -ℤ header.min_delta) +ℤ pos 1

-- a special operator, by how far it lies past the first one: each line delta goes with each address
-- delta
abbrev pub special : LineTableHeader → LineTableRow → ℕ → Option LineTableRow
special header row past =
    let count : ℕ = unsigned_abs (range header) in
    if int_lt (range header) (pos 1) then None
    else Some (further (lines_on row (header.min_delta +ℤ pos (past % count))) (past / count))

-- what an operator does: what it comes to, the state, and the bytes behind its operand. None: the
-- operand is missing, or the range of a special one is below one
abbrev pub operated : LineTableHeader → LineTableRow → ℕ → List ℕ → Option ((RunResult × LineTableRow) × List ℕ)
operated header row operator bytes =
    if operator == end_sequence then Some ((results.End, row), bytes)
    else (if operator == set_file then option_map (λ file. ((results.Ok, with_file row file.0), file.1)) (uleb_at bytes)
    else (if operator == advance_pc then option_map (λ delta. ((results.NewRow, further row delta.0), delta.1)) (uleb_at bytes)
    else (if operator == advance_line then option_map (λ delta. ((results.Ok, lines_on row delta.0), delta.1)) (sleb_at bytes)
    else option_map (λ state. ((results.NewRow, state), bytes)) (special header row (operator - first_special)))))

-- what the operator in front does; none where there is none
unfoldable pub operator_at : LineTableHeader → LineTableRow → List ℕ → Option ((RunResult × LineTableRow) × List ℕ)
operator_at header row bytes = byte_at bytes >>= (λ operator. operated header row operator.0 operator.1)

-- a state, and whether it is a row of the table
pub record State : Type 0 where
  pub is_row : Bool
  pub at : LineTableRow

-- the state that an operator came to, in front of those that come after it; none where the table ends
abbrev pub followed : (LineTableRow → List ℕ → List State) → Option ((RunResult × LineTableRow) × List ℕ) → List State
followed after None = []
followed after (Some ((results.End, row), bytes)) = []
followed after (Some ((results.Ok, row), bytes)) = record { is_row = false; at = row } ∷ after row bytes
followed after (Some ((results.NewRow, row), bytes)) = record { is_row = true; at = row } ∷ after row bytes

-- the states of so many operators at most
abbrev pub states_within : ℕ → LineTableHeader → LineTableRow → List ℕ → List State
states_within zero header row bytes = []
states_within (suc most) header row bytes = followed (states_within most header) (operator_at header row bytes)

-- the states that the operators come to, one after another, up to the one that ends the table, or the
-- first that does nothing
unfoldable pub states : LineTableHeader → LineTableRow → List ℕ → List State
states header row bytes = states_within (length bytes) header row bytes

-- the rows among them
abbrev pub rows : List State → List LineTableRow
rows list = map (λ state. state.at) (filter (λ state. state.is_row) list)

-- a row lies above an address
abbrev pub is_above : ℕ → LineTableRow → Bool
is_above addr row = nat_lt addr row.addr

-- the last state, if there is a row
abbrev pub end_state : List State → Option LineTableRow
end_state list = if list_any (λ state. state.is_row) list then last_or None (map (λ state. state.at) list) else None

-- the state that answers for an address. Where some row lies above it, this is the row before the first
-- of those, if there is one. Where none does, it is the last state, if there is a row
abbrev pub picked : ℕ → List State → Option LineTableRow
picked addr list =
    if list_any (is_above addr) (rows list) then last_or None (before_first (is_above addr) (rows list)) else end_state list

-- the same from the front, with the last row and the state so far: at the first row above the address
-- it is known
abbrev pub sought : ℕ → Option LineTableRow → LineTableRow → List State → Option LineTableRow
sought addr last now [] = option_map (λ row. now) last
sought addr last now (state ∷ list) =
    if state.is_row
    then (if is_above addr state.at then last else sought addr (Some state.at) state.at list)
    else sought addr last state.at list

-- the state that answers for an address, in the line table of the symbol that starts there; none if its
-- head isn't whole
abbrev pub line_in : ℕ → ℕ → List ℕ → Option (Option LineTableRow)
line_in start addr bytes =
    option_map (λ head. picked addr (states head.0 (first_state head.0 start) head.1)) (header_at bytes)
