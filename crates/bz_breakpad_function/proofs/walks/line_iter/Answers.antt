use Rattle.std.proofs.Common.{ℕ, List, subst, sym}
use Rattle.std.specs.List.{AllByRecursion, slice_range}
use Rattle.bz_breakpad_lines.specs.LineStarts.{ReadsLine}
use Rattle.bz_breakpad_table.specs.Kept.{AreLinesAt, LinesFit}
use Rattle.bz_breakpad_function.proofs.walks.line_iter.Goals as goal

pub of_run-requires : goal.of_run-requires
of_run-requires c = subst (LinesFit c.args.bytes.now c.args.code.now.lines.items) c.in-Run.is c.requires.lines

pub of_places-requires : goal.of_places-requires
of_places-requires c =
    let bytes = c.args.bytes.now in
    let places = c.args.code.now.lines.items in
    let part = c.in-Listed.part in
    let at : AreLinesAt bytes places part = subst (LinesFit bytes places) c.in-Listed.is c.requires.lines in
    subst (λ (all : List ℕ). AllByRecursion (ReadsLine bytes) (slice_range all part.from part.to)) (sym c.deref.ensures.value) at.searchable.read
