use Rattle.std.proofs.Common.{◌≡◌, ◌+◌, ◌≤◌, length, map}
use Rattle.bz_base.specs.Line.{all_lines}
use Rattle.bz_requests.specs.Lines.{in_front, items_in, read_lines}
use Rattle.bz_requests.proofs.lines.read_lines.Given as goal

-- the items so far and what is read of what is left are what is read of the whole
abbrev pub invariant-loop-line : goal.invariant-loop-line
invariant-loop-line g l = record {
  so_far : in_front (map g.T.FromLine.data_of l.all.items) (read_lines g.T.FromLine.reads (l.number + 1) (all_lines l.rest)) ≡ items_in g.T.FromLine.reads l.text;
  counted : l.number + length l.rest ≤ length l.text;
}

abbrev pub decreases-loop-line : goal.decreases-loop-line
decreases-loop-line g l = length l.rest
