-- The mappings of a process, as the text of `/proc/PID/maps` tells them: see proc_pid_maps(5) of the
-- Linux manual pages.
use Rattle.std.specs.Prelude.{◌≡◌, ℕ, Bool, false, nat_eq, nat_lt, nat_le, ◌-◌, List, [], ◌∷◌, ◌++◌, length, take, slice_get, codes, flat_map, Option, Some, None, option_map, option_and_then, option_to_list, string_bytes, IsUtf8, if◌then◌else◌}
use Rattle.std.specs.Fmt.{digits}
use Rattle.std.specs.List.{AllZip, ends_with, position}
use Rattle.std.specs.Str.{is_utf8}
use Rattle.bz_base.specs.Line.{AreLines, all_lines}
use Rattle.bz_base.specs.Path.{begins_with_slash}
use Rattle.bz_base.specs.Pid.{pid_text}
use Rattle.bz_base.specs.declared.error.Error.{Error}
use Rattle.bz_base.specs.declared.error.Error.TheVariants as errors
use Rattle.bz_base.specs.declared.pid.Pid.{Pid}
use Rattle.bz_proc.specs.MappingLine.{Line, IsLine, line_in}
use Rattle.bz_proc.specs.declared.maps.MapsEntry.{MapsEntry}
use Rattle.bz_proc.specs.declared.maps.PathName.{PathName}
use Rattle.bz_proc.specs.declared.maps.PathName.TheVariants as names
use Rattle.bz_proc.specs.declared.maps.line.MappingLine.{MappingLine}

-- what a mapping is of: a file, by the path that stands for the mapping and by its own, or a part of
-- the system
pub data Name : Type 0 where
  File : List ℕ → List ℕ → Name
  Component : List ℕ → Name

-- the addresses from a start to before an end, the offset of the first byte, and what they are of, if
-- that is told
pub record Mapping : Type 0 where
  pub start : ℕ
  pub past : ℕ
  pub offset : ℕ
  pub name : Option Name

-- Names.

-- the path in `/proc` that stands for a mapping, by proc_pid_map_files(5): its addresses are in lower
-- case and without leading zeros
abbrev pub maps_file : Pid → ℕ → ℕ → List ℕ
maps_file pid start past = codes "/proc/" ++ (pid_text pid ++ (codes "/map_files/" ++ (digits 16 false start ++ (codes "-" ++ digits 16 false past))))

-- what the system writes behind the path of a file that was deleted
abbrev pub deleted : List ℕ
deleted = codes " (deleted)"

-- the path of a file, without the one mark of deletion that may end it
abbrev pub symbolic_path : List ℕ → List ℕ
symbolic_path text = if ends_with nat_eq text deleted then take (length text - length deleted) text else text

-- the text of a mapping says nothing where it is empty, a file where a slash begins it, and else a part
-- of the system
abbrev pub name_told : Pid → ℕ → ℕ → List ℕ → Option Name
name_told pid start past [] = None
name_told pid start past (b ∷ text) =
    if begins_with_slash (b ∷ text)
    then Some (File (maps_file pid start past) (symbolic_path (b ∷ text)))
    else Some (Component (b ∷ text))

-- the mapping that a line tells
abbrev pub mapping_told : Pid → Line → Mapping
mapping_told pid line = record { start = line.start; past = line.past; offset = line.offset; name = name_told pid line.start line.past line.text }

-- Texts.

-- what a line says: nothing where it is empty, so that it is skipped, and else the mapping that its
-- fields tell
abbrev pub Says : Pid → List ℕ → Option Mapping → Type 0
Says pid line None = line ≡ []
Says pid line (Some mapping) = (told : Line) × IsLine line told × (mapping ≡ mapping_told pid told)

-- the text is UTF-8, and its lines say the mappings, in order
pub record AreMappings (pid : Pid) (text : List ℕ) (mappings : List Mapping) : Type 0 where
  pub utf8 : IsUtf8 text
  pub lines : List (List ℕ)
  pub said : List (Option Mapping)
  pub are_lines : AreLines text lines
  pub each : AllZip (Says pid) lines said
  pub in_order : mappings ≡ flat_map option_to_list said

-- The same, read from the front. That it tells the same is a law of this crate.

-- the mapping that a line tells, if it is one
abbrev pub mapping_in : Pid → List ℕ → Option Mapping
mapping_in pid line = option_map (mapping_told pid) (line_in line)

-- what a line says, if it is empty or of a mapping
abbrev pub said_in : Pid → List ℕ → Option (Option Mapping)
said_in pid [] = Some None
said_in pid (b ∷ line) = option_map (λ mapping. Some mapping) (mapping_in pid (b ∷ line))

-- mappings in front of others, if the others could be read
abbrev pub in_front : List Mapping → Option (List Mapping) → Option (List Mapping)
in_front front others = option_map (λ more. front ++ more) others

-- what a line says, in front of others
abbrev pub with_said : Option (Option Mapping) → Option (List Mapping) → Option (List Mapping)
with_said None others = None
with_said (Some said) others = in_front (option_to_list said) others

-- the mappings that the lines tell, if each line is empty or of a mapping
abbrev pub mappings_of : Pid → List (List ℕ) → Option (List Mapping)
mappings_of pid [] = Some []
mappings_of pid (line ∷ lines) = with_said (said_in pid line) (mappings_of pid lines)

-- the mappings that a text tells; none where it isn't one of mappings
abbrev pub maps_in : Pid → List ℕ → Option (List Mapping)
maps_in pid text = if is_utf8 text then mappings_of pid (all_lines text) else None

-- a text is refused as one that isn't of mappings; but for want of memory
abbrev pub IsMapsRefusal : {A : Type 0} → Option A → Error → Type 0
IsMapsRefusal given errors.InvalidData = given ≡ None
IsMapsRefusal given errors.OutOfMemory = Unit {0}
IsMapsRefusal given _ = ⊥

-- Owners.

-- whether a mapping ends above the address
abbrev pub ends_above : ℕ → Mapping → Bool
ends_above addr mapping = nat_lt addr mapping.past

-- the place, if the mapping there begins at the address or before it
abbrev pub if_begins : List Mapping → ℕ → ℕ → Option ℕ
if_begins mappings addr place = option_and_then (λ (mapping : Mapping). if nat_le mapping.start addr then Some place else None) (slice_get mappings place)

-- the place of the mapping that answers for an address: the first that ends above it, if that begins at
-- the address or before it
abbrev pub owner_in : List Mapping → ℕ → Option ℕ
owner_in mappings addr = option_and_then (if_begins mappings addr) (position (ends_above addr) mappings)

-- that mapping
abbrev pub owner_of : List Mapping → ℕ → Option Mapping
owner_of mappings addr = option_and_then (slice_get mappings) (owner_in mappings addr)

-- The values of the code, as these words have them.

abbrev pub line_of : MappingLine → Line
line_of line = record { start = line.start; past = line.«end»; offset = line.offset; text = line.text.now }

abbrev pub name_of : PathName → Name
name_of (names.Path path) = File (string_bytes path.maps_file) (string_bytes path.symbolic_path)
name_of (names.Component text) = Component (string_bytes text)

abbrev pub mapping_of : MapsEntry → Mapping
mapping_of entry = record { start = entry.range.start; past = entry.range.«end»; offset = entry.offset; name = option_map name_of entry.path_name }
