use Rattle.std.proofs.Common.{◌∙◌, arith}
use Rattle.bz_breakpad_lines.specs.declared.line.LineEnds.{LineEnds}
use Rattle.bz_breakpad_lines.proofs.FieldEndLemmas.{first_stops}
use Rattle.bz_breakpad_lines.proofs.LineFieldLemmas.{line_end_is, line_ends_are, line_is}
use Rattle.bz_breakpad_lines.proofs.in_turn.plain_next.Goals as goal

pub line_by-requires-clause-ends : goal.line_by-requires-clause-ends
line_by-requires-clause-ends c =
    let text = c.args.text.now in
    let to_start = first_stops text c.space_stops.result (omega arith) c.space_stops.ensures in
    let to_size = c.in_ok-start.ensures.later text to_start in
    let to_line = c.in_ok-size.ensures.later text to_size in
    let to_file = c.in_ok-line.ensures.later text to_line in
    let ends : LineEnds = record { size = c.in_ok-size.size.at; line = c.in_ok-line.line.at; file = c.in_ok-file.file.at } in
    line_ends_are text c.requires c.in_ok-start.start.at ends (c.in_ok-start.ensures.field text to_start) (c.in_ok-size.ensures.field text to_size) (c.in_ok-line.ensures.field text to_line) (c.in_ok-file.ensures.field text to_file)

pub returns : goal.returns
returns c =
    let text = c.args.text.now in
    let to_start = first_stops text c.space_stops.result (omega arith) c.space_stops.ensures in
    let to_size = c.in_ok-start.ensures.later text to_start in
    let to_line = c.in_ok-size.ensures.later text to_size in
    let to_file = c.in_ok-line.ensures.later text to_line in
    let ends : LineEnds = record { size = c.in_ok-size.size.at; line = c.in_ok-line.line.at; file = c.in_ok-file.file.at } in
    let of_start = c.in_ok-start.ensures.field text to_start in
    let of_size = c.in_ok-size.ensures.field text to_size in
    let of_line = c.in_ok-line.ensures.field text to_line in
    let of_file = c.in_ok-file.ensures.field text to_file in
    record {
      line = c.line_by.ensures ∙ line_is text c.requires c.in_ok-start.start.at ends of_start of_size of_line of_file;
      end = line_end_is text c.requires c.in_ok-start.start.at ends of_start of_size of_line of_file (omega arith);
      within = omega (arith, of_file.2);
    }
