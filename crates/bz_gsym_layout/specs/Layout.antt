-- The bytes of a GSYM file of version 1 for a plan. All numbers are little-endian. After LLVM's
-- documentation of the format (llvm::gsym::GsymCreator).
use Rattle.std.specs.Prelude.{ℕ, zero, suc, pos, ◌+◌, ◌-◌, ◌-ℤ◌, ◌*◌, ◌/◌, ◌%◌, List, [], ◌∷◌, ◌++◌, length, flat_map}
use Rattle.std.specs.List.{repeat}
use Rattle.bz_base.specs.Byte.{zero_byte}
use Rattle.bz_base.specs.Cursor.{padding}
use Rattle.bz_gsym.specs.Entries.{entry_head_len, inline_tree, line_table}
use Rattle.bz_gsym.specs.Header.{gsym_magic, gsym_version, gsym_max_uuid_size}
use Rattle.bz_gsym.specs.InlineTree.{no_children, no_ranges}
use Rattle.bz_gsym.specs.LineTable.{advance_line, advance_pc, end_sequence, set_file}
use Rattle.bz_gsym.specs.Tables.{data_place_len, file_count_len, file_entry_len, header_len}
use Rattle.bz_gsym_layout.specs.Format.{addr_off_size, base_address, first_line, max_delta, min_delta, no_file, no_line, one_range, root_offset, some_children, uuid_size}
use Rattle.bz_gsym_layout.specs.Leb.{sleb, uleb}
use Rattle.bz_gsym_layout.specs.Nesting.{Forest}
use Rattle.bz_gsym_layout.specs.Nesting.Forest.{NoCalls, Call}
use Rattle.bz_gsym_layout.specs.Numbering.{index_of, place_from, same_source, sources_in, stored, texts_in}
use Rattle.bz_gsym_layout.specs.Plan.{Called, Code, Line, Source}

-- the low bytes of a number, so many of them, the least first; what doesn't fit is dropped
abbrev pub word : ℕ → ℕ → List ℕ
word zero number = []
word (suc width) number = number % 256 ∷ word width (number / 256)

abbrev pub zeros : ℕ → List ℕ
zeros count = repeat count (0 ∷ [])

-- whether a node has children, as its byte says
abbrev pub child_flag : Forest Called → ℕ
child_flag NoCalls = no_children
child_flag (Call c within after) = some_children

-- the list of the calls inside a call; a call with none has no list
abbrev pub unless_ended : Forest Called → List ℕ → List ℕ
unless_ended NoCalls bytes = []
unless_ended (Call c within after) bytes = bytes

-- a data entry: its type, its length, and its bytes
abbrev pub entry_bytes : ℕ → List ℕ → List ℕ
entry_bytes typ text = word 4 typ ++ (word 4 (length text) ++ text)

-- a node up to its children, by its numbers: its one range, whose offset counts from a base, and what
-- it says
abbrev pub numbers_bytes : ℕ → ℕ → ℕ → ℕ → ℕ → ℕ → List ℕ
numbers_bytes offset size name flag file line = one_range ∷ uleb offset ++ (uleb size ++ flag ∷ (word 4 name ++ (uleb file ++ uleb line)))

-- a row by its numbers, and the address and line before it: its file, how many lines further, and how
-- far the address lies on
abbrev pub row_numbers : ℕ → ℕ → ℕ → ℕ → ℕ → List ℕ
row_numbers addr line to_addr to_file to_line =
    set_file ∷ uleb to_file ++ (advance_line ∷ sleb (pos to_line -ℤ pos line) ++ advance_pc ∷ uleb (to_addr - addr))

-- the numbered texts and source files
pub record Tables : Type 0 where
  pub texts : List (List ℕ)
  pub sources : List Source

module _ (t : Tables) where
  -- a text by its place: behind the zero byte that the string table begins with
  abbrev pub text_place : List ℕ → ℕ
  text_place text = place_from 1 text t.texts

  -- a source file by its index: that of no file comes first
  abbrev pub source_index : Source → ℕ
  source_index source = suc (index_of same_source source t.sources)

  -- a row, by the address and the line before it
  abbrev pub row_bytes : ℕ → ℕ → ℕ × Line → List ℕ
  row_bytes addr line row = row_numbers addr line row.0 (source_index row.1.source) row.1.line

  -- rows, and the end
  abbrev pub rows_bytes : ℕ → ℕ → List (ℕ × Line) → List ℕ
  rows_bytes addr line [] = end_sequence ∷ []
  rows_bytes addr line (row ∷ rows) = row_bytes addr line row ++ rows_bytes row.0 row.1.line rows

  -- a line table
  abbrev pub line_table_bytes : ℕ → List (ℕ × Line) → List ℕ
  line_table_bytes start rows = min_delta ∷ max_delta ∷ first_line ∷ rows_bytes start first_line rows

  -- a node up to its children, by its numbers and the text of its name
  abbrev pub node_bytes : ℕ → ℕ → List ℕ → ℕ → ℕ → ℕ → List ℕ
  node_bytes offset size name flag file line = numbers_bytes offset size (text_place name) flag file line

  -- siblings, and the count that ends them
  abbrev pub calls_bytes : ℕ → Forest Called → List ℕ
  calls_bytes base NoCalls = no_ranges ∷ []
  calls_bytes base (Call c within after) =
      node_bytes (c.start - base) c.size c.name (child_flag within) (source_index c.at.source) c.at.line
      ++ (unless_ended within (calls_bytes c.start within) ++ calls_bytes base after)

  -- an inline tree: the root is the function
  abbrev pub tree_bytes : Code → List ℕ
  tree_bytes c = node_bytes root_offset c.size c.name some_children no_file no_line ++ calls_bytes c.start c.calls

  abbrev pub line_entry : ℕ → List (ℕ × Line) → List ℕ
  line_entry start [] = []
  line_entry start (row ∷ rows) = entry_bytes line_table (line_table_bytes start (row ∷ rows))

  abbrev pub inline_entry : Code → Forest Called → List ℕ
  inline_entry c NoCalls = []
  inline_entry c (Call call within after) = entry_bytes inline_tree (tree_bytes c)

  -- what stands at a function's data place: its size, its name, its entries, and the end of their list,
  -- an entry without bytes
  abbrev pub code_bytes : Code → List ℕ
  code_bytes c = word 4 c.size ++ (word 4 (text_place c.name) ++ (line_entry c.start c.rows ++ (inline_entry c c.calls ++ zeros entry_head_len)))

  -- the functions, each at the next place that is divisible by 4
  abbrev pub data_bytes : ℕ → List Code → List ℕ
  data_bytes at [] = []
  data_bytes at (c ∷ codes) = zeros (padding at) ++ (code_bytes c ++ data_bytes (at + padding at + length (code_bytes c)) codes)

  -- and their places
  abbrev pub data_places : ℕ → List Code → List ℕ
  data_places at [] = []
  data_places at (c ∷ codes) = (at + padding at) ∷ data_places (at + padding at + length (code_bytes c)) codes

  abbrev pub file_bytes : Source → List ℕ
  file_bytes source = word 4 (text_place source.dir) ++ word 4 (text_place source.file)

-- the string table: a zero byte, and the texts
abbrev pub string_bytes : Tables → List ℕ
string_bytes t = zero_byte ∷ flat_map stored t.texts

-- the head of a file with so many functions, whose string table stands at a place and has so many bytes
abbrev pub head_bytes : ℕ → ℕ → ℕ → List ℕ
head_bytes count strings_at strings_len =
    word 4 gsym_magic ++ (word 2 gsym_version ++ (addr_off_size ∷ uuid_size ∷ (word 8 base_address
    ++ (word 4 count ++ (word 4 strings_at ++ (word 4 strings_len ++ zeros gsym_max_uuid_size))))))

-- where the string table stands: behind the head, a start and a data place for each function, the file
-- count, and the files
abbrev pub strings_place : List Code → Tables → ℕ
strings_place codes t =
    header_len + addr_off_size * length codes + data_place_len * length codes + file_count_len + file_entry_len * suc (length t.sources)

-- the tables up to the string table; behind starts of 8 bytes no padding is needed, and file 0 is none
abbrev pub table_bytes : List Code → Tables → List ℕ → List ℕ
table_bytes codes t places =
    flat_map (λ (c : Code). word addr_off_size c.start) codes
    ++ (flat_map (word data_place_len) places ++ (word file_count_len (suc (length t.sources))
    ++ (zeros file_entry_len ++ flat_map (file_bytes t) t.sources)))

-- the whole file
abbrev pub laid_out : List Code → Tables → List ℕ
laid_out codes t =
    let strings_at : ℕ = strings_place codes t in
    let data_at : ℕ = strings_at + length (string_bytes t) in
    head_bytes (length codes) strings_at (length (string_bytes t))
    ++ (table_bytes codes t (data_places t data_at codes) ++ (string_bytes t ++ data_bytes t data_at codes))

abbrev pub tables_of : List Code → Tables
tables_of codes = record { texts = texts_in codes; sources = sources_in codes }

abbrev pub layout : List Code → List ℕ
layout codes = laid_out codes (tables_of codes)
