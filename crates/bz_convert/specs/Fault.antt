-- Why a file isn't converted: the first fault of the first function that has one, by start, size and
-- place in the file. No public document says this: the definition is this repository's own, for what
-- GSYM can't hold.
use Rattle.std.specs.Prelude.{ℕ, ◌+◌, Bool, ◌==◌, ◌&&◌, ◌||◌, not, nat_le, List, [], ◌∷◌, Option, Some, None, is_none, option_map, if◌then◌else◌}
use Rattle.std.specs.List.{find, list_any}
use Rattle.bz_base.specs.Byte.{zero_byte}
use Rattle.bz_base.specs.Span.{inside}
use Rattle.bz_breakpad_function.specs.InOrder.{calls_in_order, lines_in_order, ordered_functions}
use Rattle.bz_breakpad_function.specs.Locations.{line_at}
use Rattle.bz_breakpad_lines.specs.Names.{name_for}
use Rattle.bz_breakpad_lines.specs.Table.{Inlinee, Function, SourceLine, Table}
use Rattle.bz_convert.specs.Plan.{code_of, has_size, is_checked, located, same_call}
use Rattle.bz_convert.specs.Rows.{gap_from}
use Rattle.bz_convert.specs.declared.error.ConvertError.{ConvertError}
use Rattle.bz_convert.specs.declared.error.ConvertError.TheVariants.{EqualStarts, LineGap, NoFile, NoOrigin, NotNested, Overlap, ZeroByte, ZeroSize}
use Rattle.bz_gsym_layout.specs.Numbering.{texts_of}

-- a fault, or else another one
infixr 20 ◌or◌
abbrev pub ◌or◌ : {A : Type 0} → Option A → Option A → Option A
None or other = other
(Some fault) or other = Some fault

-- a fault, if a test passes
abbrev pub only_if : {A : Type 0} → Bool → Option A → Option A
only_if test o = if test then o else None

-- one range lies wholly inside another
abbrev pub is_within : ℕ → ℕ → ℕ → ℕ → Bool
is_within start size outer_start outer_size = nat_le outer_start start && nat_le (start + size) (outer_start + outer_size)

-- a call lies inside its function, or inside a call of the depth before its own
abbrev pub lies_inside : Function → Inlinee → Bool
lies_inside f i =
    if i.depth == 0 then is_within i.start i.size f.start f.size
    else list_any (λ outer. outer.depth + 1 == i.depth && is_within i.start i.size outer.start outer.size) f.inlinees

-- another call of its depth starts where a call does, or has that start inside
abbrev pub is_over : Inlinee → Inlinee → Bool
is_over i other = other.depth == i.depth && (not (same_call other i) && (other.start == i.start || inside other.start other.size i.start))

abbrev pub overlaps : Function → Inlinee → Bool
overlaps f i = list_any (is_over i) f.inlinees

abbrev pub zero_size : Function → Option ConvertError
zero_size f = if f.size == 0 then Some (ZeroSize f.start) else None

abbrev pub equal_starts : Option ℕ → Function → Option ConvertError
equal_starts None f = None
equal_starts (Some before) f = if before == f.start then Some (EqualStarts f.start) else None

abbrev pub line_gap : Function → Option ConvertError
line_gap f = option_map (LineGap f.start) (gap_from (λ addr. line_at addr f.lines) None f.start f.size)

abbrev pub not_nested : Function → Option ConvertError
not_nested f = option_map (λ i. NotNested f.start i.depth i.start) (find (λ i. has_size i && not (lies_inside f i)) (calls_in_order f))

abbrev pub overlap : Function → Option ConvertError
overlap f = option_map (λ i. Overlap f.start i.depth i.start) (find (overlaps f) (calls_in_order f))

-- the first id that names nothing, among the line records or inlined calls of a function that starts at
-- func
module _ (table : Table) (func : ℕ) where
  abbrev pub line_file_fault : List SourceLine → Option ConvertError
  line_file_fault lines = option_map (λ l. NoFile func l.file) (find (λ l. is_none (located table l.file)) lines)

  abbrev pub call_file_fault : List Inlinee → Option ConvertError
  call_file_fault calls = option_map (λ i. NoFile func i.call_file) (find (λ i. has_size i && is_none (located table i.call_file)) calls)

  abbrev pub origin_fault : List Inlinee → Option ConvertError
  origin_fault calls = option_map (λ i. NoOrigin func i.origin) (find (λ i. has_size i && is_none (name_for i.origin table.origins)) calls)

abbrev pub no_line_file : Table → Function → Option ConvertError
no_line_file table f = line_file_fault table f.start (lines_in_order f)

abbrev pub no_call_file : Table → Function → Option ConvertError
no_call_file table f = call_file_fault table f.start (calls_in_order f)

abbrev pub no_origin : Table → Function → Option ConvertError
no_origin table f = origin_fault table f.start (calls_in_order f)

abbrev pub has_zero : List ℕ → Bool
has_zero text = list_any (λ b. b == zero_byte) text

-- a zero byte in a text that is laid out for the function
abbrev pub zero_in : Table → Function → Option ConvertError
zero_in table f = if list_any has_zero (texts_of (code_of table f)) then Some (ZeroByte f.start) else None

-- the first fault of a checked function's line records and inlined calls, and of their ids
abbrev pub checked_fault : Table → Function → Option ConvertError
checked_fault table f = line_gap f or (not_nested f or (overlap f or (no_line_file table f or (no_call_file table f or no_origin table f))))

-- the first fault of a function, by where the one before it starts
abbrev pub fault_of : Table → Option ℕ → Function → Option ConvertError
fault_of table before f = zero_size f or (equal_starts before f or (only_if (is_checked f) (checked_fault table f) or zero_in table f))

abbrev pub first_fault : Table → Option ℕ → List Function → Option ConvertError
first_fault table before [] = None
first_fault table before (f ∷ fs) = fault_of table before f or first_fault table (Some f.start) fs

abbrev pub fault_in : Table → Option ConvertError
fault_in table = first_fault table None (ordered_functions table.functions)
