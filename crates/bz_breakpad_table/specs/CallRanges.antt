-- What is kept of inlined calls: one for each range of an INLINE record (Breakpad's
-- docs/symbol_files.md).
use Rattle.std.specs.Prelude.{◌+◌, ◌*◌, ◌/◌, ◌%◌, ℕ}
use Rattle.bz_breakpad_lines.specs.declared.record.Range.{Range}
use Rattle.bz_breakpad_table.specs.declared.types.CallRange.{CallRange}

-- where the code of a range starts
abbrev pub call_start : CallRange → ℕ
call_start c = c.high * 4294967296 + c.low

-- what is kept of a range of the INLINE record at a place
abbrev pub range_kept : ℕ → ℕ → Range → CallRange
range_kept depth place r = record {
  high = r.addr / 4294967296;
  low = r.addr % 4294967296;
  size = r.size;
  depth = depth;
  place = place;
}
