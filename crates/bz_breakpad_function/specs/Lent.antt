-- What is told of a function: its inlined calls, and what a location in it lends of the file.
use Rattle.std.specs.Prelude.{map, option_map, IfSome}
use Rattle.std.specs.List.{AllByRecursion}
use Rattle.bz_base.specs.Answer.{call_of, site_of}
use Rattle.bz_base.specs.Lent.{IsLentCall, IsLentSite}
use Rattle.bz_breakpad_function.specs.Locations.{Location}
use Rattle.bz_breakpad_function.specs.declared.locations.Location as locations
use Rattle.bz_breakpad_lines.specs.Table.{Inlinee}
use Rattle.bz_breakpad_function.specs.declared.types.Inlinee.{Inlinee as GivenInlinee}

-- where an address lies, as plain data
abbrev pub location_seen : locations.Location → Location
location_seen p = record { site = option_map site_of p.code_info; calls = map call_of p.inlined.items }

-- all its texts are lent
pub record IsLentLocation (p : locations.Location) : Type 0 where
  pub site : IfSome p.code_info IsLentSite
  pub calls : AllByRecursion IsLentCall p.inlined.items

-- an inlined call that a caller gets, as the table has it
abbrev pub inlinee_seen : GivenInlinee → Inlinee
inlinee_seen i = record {
  depth = i.depth;
  start = i.addr;
  size = i.size;
  call_line = i.call_line;
  call_file = i.call_file;
  origin = i.origin_id;
}
