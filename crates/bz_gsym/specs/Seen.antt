-- What the types of this crate hold, as plain data.
use Rattle.std.specs.Prelude.{List, map}
use Rattle.bz_gsym.specs.Entries.{Info, Entry}
use Rattle.bz_gsym.specs.InlineTree.{Frame}
use Rattle.bz_gsym.specs.declared.types.AddrData.{AddrData}
use Rattle.bz_gsym.specs.declared.types.AddrInfo.{AddrInfo}
use Rattle.bz_gsym.specs.declared.types.InlineFrame.{InlineFrame}

abbrev pub info_seen : AddrInfo → Info
info_seen info = record { size = info.size; name = info.name; rest = info.bytes.now }

abbrev pub entry_seen : AddrData → Entry
entry_seen entry = record { typ = entry.typ; text = entry.bytes.now }

abbrev pub frame_seen : InlineFrame → Frame
frame_seen f = record { name = f.name; call_file = f.call_file; call_line = f.call_line }

abbrev pub frames_seen : List InlineFrame → List Frame
frames_seen fs = map frame_seen fs
