use Rattle.std.proofs.Common.{◌<◌, ℕ, List, length, subst, sym, arith}
use Rattle.std.specs.List.{slice_range}
use Rattle.bz_breakpad_table.specs.Kept.{AreLinesAt, LinesFit, kept_lines, records_of}
use Rattle.bz_breakpad_function.proofs.InOrderLemmas.{listed_count}
use Rattle.bz_breakpad_function.proofs.walks.line_at_index.Goals as goal

pub line_of_places-requires-clause-within : goal.line_of_places-requires-clause-within
line_of_places-requires-clause-within c =
    let bytes = c.args.bytes.now in
    let places = c.args.code.now.lines.items in
    let part = c.in-Listed.part in
    let own = slice_range places part.from part.to in
    let at : AreLinesAt bytes places part = subst (LinesFit bytes places) c.in-Listed.is c.requires.function.lines in
    let told : c.args.index < length (kept_lines bytes own) = subst (λ lines. c.args.index < length (records_of bytes places lines)) c.in-Listed.is c.requires.within in
    let within : c.args.index < length own = omega (arith, told, listed_count bytes own at.searchable.read) in
    subst (λ (all : List ℕ). c.args.index < length (slice_range all part.from part.to)) (sym c.deref.ensures.value) within
