-- What is told of an address, and its location, as plain data.
use Rattle.std.specs.Prelude.{◌≡◌, ◌<◌, List, length, map, Some, None, option_map, IfSome}
use Rattle.std.specs.List.{AllByRecursion}
use Rattle.bz_base.specs.Answer.{Site, call_of, site_of}
use Rattle.bz_base.specs.Lent.{IsLentCall, IsLentSite}
use Rattle.bz_base.specs.declared.types.FindSymOpts.{FindSymOpts}
use Rattle.bz_base.specs.declared.types.FindSymOpts.TheVariants as asked
use Rattle.bz_gsym.specs.Joining as joining
use Rattle.bz_gsym.specs.Seen.{frames_seen}
use Rattle.bz_gsym.specs.declared.entries.Facts.{Facts}
use Rattle.bz_gsym.specs.declared.locations.Location.{Location}
use Rattle.bz_gsym.specs.declared.locations.SourceLine.{SourceLine}
use Rattle.bz_gsym.specs.declared.types.InlineFrame.{InlineFrame}

abbrev pub facts_seen : Facts → joining.Facts
facts_seen facts = record { row = facts.row; frames = frames_seen facts.frames.items }

abbrev pub location_seen : Location → joining.Location
location_seen location = record { name = location.name.now; site = option_map site_of location.code_info; calls = map call_of location.inlined.items }

abbrev pub line_seen : SourceLine → Site
line_seen at = record { dir = Some at.dir.now; file = at.file.now; line = Some at.line; column = None }

-- none of its texts has memory of its own
pub record IsLentLocation (location : Location) : Type 0 where
  pub site : IfSome location.code_info IsLentSite
  pub calls : AllByRecursion IsLentCall location.inlined.items

-- there are frames only where they are asked for
abbrev pub HasAskedFrames : FindSymOpts → List InlineFrame → Type 0
HasAskedFrames opts frames = 0 < length frames → opts ≡ asked.CodeInfoAndInlined
