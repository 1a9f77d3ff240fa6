-- What the walk over an inline tree holds, as plain data.
use Rattle.std.specs.Prelude.{option_map}
use Rattle.bz_gsym.specs.InlineReader as reader
use Rattle.bz_gsym.specs.InlineRanges as ranges
use Rattle.bz_gsym.specs.InlineWalk as walk
use Rattle.bz_gsym.specs.Seen.{frame_seen}
use Rattle.bz_gsym.specs.declared.inline.node.Span.{Span}
use Rattle.bz_gsym.specs.declared.inline.node.Tail.{Tail}
use Rattle.bz_gsym.specs.declared.inline.node.Visit.{Visit}

abbrev pub visit_seen : Visit → walk.Visit
visit_seen v = record { frame = option_map frame_seen v.frame; inside = v.inside }

abbrev pub tail_seen : Tail → reader.Tail
tail_seen t = record { has_children = t.has_children; name = t.name; call_file = t.call_file; call_line = t.call_line }

abbrev pub span_seen : Span → ranges.Span
span_seen s = (s.covers, s.start)
