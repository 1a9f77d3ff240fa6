use Rattle.std.proofs.Common.{◌≡◌, ℕ, List, Some, map, take}
use Rattle.bz_breakpad_lines.specs.Reader.{table_in}
use Rattle.bz_breakpad_lines.specs.Table.{Table}
use Rattle.bz_convert.specs.Laid.{IsRowFor, sources_of_row, texts_of_row}
use Rattle.bz_convert.specs.Numbered.{IsNumbering, listed_sources}
use Rattle.bz_convert.specs.Points.{row_seen}
use Rattle.bz_convert.proofs.SoFarLemmas.{SoFar}
use Rattle.bz_gsym_layout.specs.Plan.{Source}
use Rattle.bz_convert.proofs.conversion.rows.rows_of.Given as goal

-- the rows of the plan so far
abbrev pub invariant-loop-line_row : goal.invariant-loop-line_row
invariant-loop-line_row l = (table : Table) (texts : List (List ℕ)) (sources : List Source) → table_in l.file ≡ Some table → IsNumbering table texts sources l.fn.numbering →
    SoFar table (texts_of_row table) (sources_of_row table) (λ n. IsRowFor table (listed_sources n)) texts sources l.numbering (map row_seen (take l.line_row-index l.line_rows)) l.rows.items
