-- What a symbol's data entries say of an address. A line table's state and the frames of an inline tree
-- are joined to a name, a site in the source code and inlined calls.
use Rattle.std.specs.Prelude.{ℕ, ◌==◌, ◌&&◌, Bool, false, is_none, if◌then◌else◌, List, [], ◌∷◌, length, Option, Some, None, option_map, slice_get}
use Rattle.bz_base.specs.Answer.{Call, Site}
use Rattle.bz_base.specs.Bind.{◌>>=◌}
use Rattle.bz_base.specs.SeenFrom as base
use Rattle.bz_base.specs.declared.types.FindSymOpts.{FindSymOpts}
use Rattle.bz_base.specs.declared.types.FindSymOpts.TheVariants as asked
use Rattle.bz_gsym.specs.Entries.{Entry, inline_tree, line_table}
use Rattle.bz_gsym.specs.InlineReader.{frames_at}
use Rattle.bz_gsym.specs.InlineTree.{Frame}
use Rattle.bz_gsym.specs.LineTable.{line_in}
use Rattle.bz_gsym.specs.Strings.{string_at}
use Rattle.bz_gsym.specs.Tables.{files, strings}
use Rattle.bz_gsym.specs.declared.linetab.LineTableRow.{LineTableRow}

-- what a symbol's data entries say of an address: the state of a line table that answers for it, and
-- the functions around it
pub record Facts : Type 0 where
  pub row : Option LineTableRow
  pub frames : List Frame

-- before any entry is read
abbrev pub no_facts : Facts
no_facts = record { row = None; frames = [] }

-- an entry is read as a line table as long as none has given a row
abbrev pub gives_row : Facts → Entry → Bool
gives_row facts entry = is_none facts.row && entry.typ == line_table

-- and as an inline tree, where inlined calls are asked for, as long as there are no frames
abbrev pub gives_frames : FindSymOpts → Facts → Entry → Bool
gives_frames asked.CodeInfoAndInlined facts entry = length facts.frames == 0 && entry.typ == inline_tree
gives_frames _ facts entry = false

-- what is told with one entry more, of a symbol with this start; an entry of another type is passed
-- over. None: an entry that is read isn't in the format
abbrev pub facts_with : FindSymOpts → ℕ → ℕ → Facts → Entry → Option Facts
facts_with opts start addr facts entry =
    if gives_row facts entry then option_map (λ row. record { row = row; frames = facts.frames }) (line_in start addr entry.text)
    else (if gives_frames opts facts entry then option_map (λ frames. record { row = facts.row; frames = frames }) (frames_at addr start entry.text)
    else Some facts)

-- and with these, in order
abbrev pub facts_after : FindSymOpts → ℕ → ℕ → Facts → List Entry → Option Facts
facts_after opts start addr facts [] = Some facts
facts_after opts start addr facts (entry ∷ entries) = facts_with opts start addr facts entry >>= (λ more. facts_after opts start addr more entries)

-- what a symbol's entries say, as far as it is asked for
abbrev pub facts_of : FindSymOpts → ℕ → ℕ → List Entry → Option Facts
facts_of asked.Basic start addr entries = Some no_facts
facts_of opts start addr entries = facts_after opts start addr no_facts entries

-- a line of the source file of an index, which has a directory even if that is empty. None: there is no
-- such file, or a text of it isn't in the format
abbrev pub site_in : List ℕ → ℕ → ℕ → Option Site
site_in bytes index line = do
  file ← slice_get (files bytes) index
  dir ← string_at (strings bytes) file.directory
  name ← string_at (strings bytes) file.filename
  Some (record { dir = Some dir; file = name; line = Some line; column = None })

-- where a call stands
abbrev pub call_site : List ℕ → Frame → Option Site
call_site bytes frame = site_in bytes frame.call_file frame.call_line

-- the name of what is called
abbrev pub call_name : List ℕ → Frame → Option (List ℕ)
call_name bytes frame = string_at (strings bytes) frame.name

-- code that lies at a site, inside calls, seen from outside a further call
abbrev pub seen_outside : List ℕ → Frame → Site × List Call → Option (Site × List Call)
seen_outside bytes = base.seen_outside (call_site bytes) (call_name bytes)

-- where the code of a line table's state lies, seen from outside the calls around it; none if something
-- isn't in the format
abbrev pub seen_from : List ℕ → LineTableRow → List Frame → Option (Site × List Call)
seen_from bytes row = base.seen_from (call_site bytes) (call_name bytes) (site_in bytes row.file_idx row.file_line)

-- the same in whole lists
abbrev pub IsSeen : List ℕ → LineTableRow → List Frame → Site × List Call → Type 0
IsSeen bytes row = base.IsSeen (call_site bytes) (call_name bytes) (site_in bytes row.file_idx row.file_line)

-- the name that the symbol has at an address, and where that lies in the source code
pub record Location : Type 0 where
  pub name : List ℕ
  pub site : Option Site
  pub calls : List Call

abbrev pub at_site : List ℕ → Site × List Call → Location
at_site name seen = record { name = name; site = Some seen.0; calls = seen.1 }

-- without a line table's state there is neither a site nor a call nor another name. With one, the first
-- function around the address gives the symbol's name, and the further ones are the calls
abbrev pub location_by : List ℕ → List ℕ → Option LineTableRow → List Frame → Option Location
location_by bytes name None frames = Some (record { name = name; site = None; calls = [] })
location_by bytes name (Some row) [] = option_map (at_site name) (seen_from bytes row [])
location_by bytes name (Some row) (first ∷ frames) = do
  name ← string_at (strings bytes) first.name
  seen ← seen_from bytes row frames
  Some (at_site name seen)
