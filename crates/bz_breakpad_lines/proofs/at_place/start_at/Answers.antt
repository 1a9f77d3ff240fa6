use Rattle.std.proofs.Common.{drop, option_map, unwrap_or, ap, ◌∙◌}
use Rattle.std.proofs.lemmas.List.{take_rest}
use Rattle.bz_breakpad_lines.specs.Form.Piece.{Hex}
use Rattle.bz_breakpad_lines.specs.Reads.{piece_at}
use Rattle.bz_breakpad_lines.proofs.AtPlaceLemmas.{read_there, read_within, start_in_front}
use Rattle.bz_breakpad_lines.proofs.at_place.start_at.Goals as goal

pub slice_bounds-start_of-count : goal.slice_bounds-start_of-count
slice_bounds-start_of-count c = read_within c.args.bytes.now c.args.place c.requires

pub slice_bounds-start_of-start : goal.slice_bounds-start_of-start
slice_bounds-start_of-start c = read_within c.args.bytes.now c.args.place c.requires

pub returns : goal.returns
returns c =
    let bytes = c.args.bytes.now in
    let place = c.args.place in
    let found = start_in_front (drop place bytes) _ (read_there bytes place c.requires) in
    c.start_of.ensures ∙ ap (λ t. unwrap_or (option_map (λ read. read.0) (piece_at (Hex 16) t)) 0) (take_rest bytes place)
    ∙ ap (λ o. unwrap_or (option_map (λ read. read.0) o) 0) found.1
