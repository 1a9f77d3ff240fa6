use Rattle.std.proofs.Common.{ℕ, List, length, ap, subst, sym, ◌∙◌}
use Rattle.std.specs.List.{slice_range}
use Rattle.bz_breakpad_table.specs.Kept.{AreLinesAt, IsRunAt, LinesFit, records_of, text_at}
use Rattle.bz_breakpad_function.proofs.InOrderLemmas.{listed_count, run_count}
use Rattle.bz_breakpad_function.proofs.walks.line_count.Goals as goal

pub returns-in-Run : goal.returns-in-Run
returns-in-Run c =
    let bytes = c.args.bytes.now in
    let places = c.args.code.now.lines.items in
    let run : IsRunAt bytes c.in-Run.part = subst (LinesFit bytes places) c.in-Run.is c.requires.lines in
    c.count_lines.ensures
    ∙ sym (run_count (text_at bytes c.in-Run.part) run.run.read)
    ∙ sym (ap (λ lines. length (records_of bytes places lines)) c.in-Run.is)

pub returns-in-Listed : goal.returns-in-Listed
returns-in-Listed c =
    let bytes = c.args.bytes.now in
    let places = c.args.code.now.lines.items in
    let part = c.in-Listed.part in
    let at : AreLinesAt bytes places part = subst (LinesFit bytes places) c.in-Listed.is c.requires.lines in
    ap (λ (all : List ℕ). length (slice_range all part.from part.to)) c.deref.ensures.value
    ∙ sym (listed_count bytes (slice_range places part.from part.to) at.searchable.read)
    ∙ sym (ap (λ lines. length (records_of bytes places lines)) c.in-Listed.is)
