use Rattle.std.proofs.Common.{arith}
use Rattle.bz_convert.specs.Laid.{IsRowFor, sources_of_row, texts_of_row}
use Rattle.bz_convert.specs.Numbered.{listed_sources}
use Rattle.bz_convert.specs.Points.{row_seen}
use Rattle.bz_convert.specs.declared.rows.LineRow.{LineRow}
use Rattle.bz_convert.proofs.SoFarLemmas.{all_turns, one_turn}
use Rattle.bz_convert.proofs.StayLemmas.{rows_stay}
use Rattle.bz_convert.proofs.conversion.rows.rows_of.Goals as goal

-- what stands where no row does
abbrev no_line : LineRow
no_line = record { addr = 0; line = record { addr = 0; size = 0; file = 0; line = 0 } }

pub loop-line_row-preserved : goal.loop-line_row-preserved
loop-line_row-preserved c table texts sources read is =
    let s = c.loop-line_row in
    one_turn table (texts_of_row table) (sources_of_row table) (λ n. IsRowFor table (listed_sources n)) row_seen c.args.line_rows.now s.line_row-index texts sources s.numbering s.rows.items (s.invariant table texts sources read is)
    (rows_stay table) no_line (omega (arith, c.loop-line_row-test.true)) c.row_of.new.numbering c.in_ok-row_of.field-0 c.push.new.self.items c.in_ok-push.ensures.items
    (c.in_ok-row_of.ensures.numbering table read) (λ used used_sources old. c.in_ok-row_of.ensures.row table read (used, used_sources, old))

pub returns-clause-numbering : goal.returns-clause-numbering
returns-clause-numbering c table read texts sources is =
    let s = c.loop-line_row in
    (all_turns table (texts_of_row table) (sources_of_row table) (λ n. IsRowFor table (listed_sources n)) row_seen c.args.line_rows.now s.line_row-index texts sources s.numbering s.rows.items (s.invariant table texts sources read is)
    (omega (arith, c.loop-line_row-test.false))).numbering

pub returns-clause-rows : goal.returns-clause-rows
returns-clause-rows c table read has =
    let s = c.loop-line_row in
    let texts = has.0 in
    let sources = has.1 in
    let is = has.2 in
    (all_turns table (texts_of_row table) (sources_of_row table) (λ n. IsRowFor table (listed_sources n)) row_seen c.args.line_rows.now s.line_row-index texts sources s.numbering s.rows.items (s.invariant table texts sources read is)
    (omega (arith, c.loop-line_row-test.false))).each
