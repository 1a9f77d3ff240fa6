use Rattle.std.proofs.Common.{option_map, ap, ◌∙◌}
use Rattle.bz_breakpad_lines.specs.Told.{line_seen}
use Rattle.bz_breakpad_function.proofs.LineSearchLemmas.{line_covers, no_line_covers}
use Rattle.bz_breakpad_function.proofs.lines.line_covering.Goals as goal

pub returns : goal.returns
returns g c lines table =
    c.line_if_covers.ensures ∙ line_covers c.args.bytes.now c.args.places.now c.requires.searchable lines table c.args.addr c.in_ok-index.index c.in_ok-index.field-0-1 c.in_ok-index.ensures.found

pub returns-in_err-index : goal.returns-in_err-index
returns-in_err-index g c lines table =
    ap (option_map line_seen) c.from_residual.ensures
    ∙ no_line_covers c.args.bytes.now c.args.places.now c.requires.searchable lines table c.args.addr c.in_err-index.ensures.found
