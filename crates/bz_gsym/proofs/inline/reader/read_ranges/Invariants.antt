use Rattle.std.proofs.Common.{◌≡◌, ◌-◌, false}
use Rattle.bz_base.specs.Bind.{◌>>=◌}
use Rattle.bz_gsym.specs.InlineReader.{ranges_at}
use Rattle.bz_gsym.specs.InlineRanges.{span_from}
use Rattle.bz_gsym.proofs.inline.reader.read_ranges.Given as goal

abbrev pub invariant-loop-seen : goal.invariant-loop-seen
invariant-loop-seen l = record {
  begun : l.seen ≡ 0 → l.span.start ≡ l.base;
  read :
      (ranges_at (l.count - l.seen) l.cursor.left >>= span_from l.addr l.base l.seen l.span.covers l.span.start)
      ≡ (ranges_at l.count l.fn.cursor.left >>= span_from l.addr l.base 0 false l.base);
}
