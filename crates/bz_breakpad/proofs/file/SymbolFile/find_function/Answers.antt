use Rattle.std.proofs.Common.{◌≡◌, ◌<◌, Option, Some, length, sym, ap, subst, ◌∙◌}
use Rattle.std.specs.List.{slice_get}
use Rattle.std.proofs.lemmas.Option.{same_Some, slice_get_within}
use Rattle.bz_breakpad_function.specs.Indexed.{functions_of}
use Rattle.bz_breakpad.specs.Plain.{function_at}
use Rattle.bz_breakpad_lines.specs.Reader.{table_in}
use Rattle.bz_breakpad_lines.specs.Table.{Table}
use Rattle.bz_breakpad.proofs.file.SymbolFile.find_function.Goals as goal

pub function_in_file-requires : goal.function_in_file-requires
function_in_file-requires g c =
    let kept = c.self.invariant in
    let index = c.in_ok-index.index in
    let found = c.in_ok-index.ensures c.self.inside.bytes.items kept.table kept.stands in
    subst (λ (o : Option Table). index < length (functions_of o)) (sym (ap table_in (sym c.self.view_is) ∙ kept.read))
    (slice_get_within kept.table.functions index found.function found.there)

pub returns-clause-found : goal.returns-clause-found
returns-clause-found g c table is =
    let kept = c.self.invariant in
    let index = c.in_ok-index.index in
    let found = c.in_ok-index.ensures c.self.inside.bytes.items kept.table kept.stands in
    let read : table_in c.args.self.now ≡ Some kept.table = ap table_in (sym c.self.view_is) ∙ kept.read in
    sym c.function_in_file.ensures
    ∙ ap (λ (o : Option Table). slice_get (functions_of o) index) read
    ∙ found.there
    ∙ sym found.answers
    ∙ ap (λ (t : Table). function_at c.args.addr t.functions) (same_Some kept.table table (sym read ∙ is))
