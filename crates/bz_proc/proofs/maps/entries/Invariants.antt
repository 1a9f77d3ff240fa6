use Rattle.std.proofs.Common.{◌≡◌, length, map}
use Rattle.std.specs.List.{AllByRecursion}
use Rattle.std.specs.Str.{IsUtf8}
use Rattle.bz_base.specs.Line.{all_lines}
use Rattle.bz_proc.specs.Maps.{in_front, mapping_of, mappings_of}
use Rattle.bz_proc.proofs.maps.entries.Given as goal

-- the mappings so far and those of what is left are those of the whole
abbrev pub invariant-loop-line : goal.invariant-loop-line
invariant-loop-line l = record {
  so_far : in_front (map mapping_of l.entries.items) (mappings_of l.pid (all_lines l.rest)) ≡ mappings_of l.pid (all_lines l.text);
  utf8 : AllByRecursion IsUtf8 (all_lines l.rest);
}

abbrev pub decreases-loop-line : goal.decreases-loop-line
decreases-loop-line l = length l.rest
