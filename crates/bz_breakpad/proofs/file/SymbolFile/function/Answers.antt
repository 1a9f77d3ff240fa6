use Rattle.std.proofs.Common.{◌≡◌, ◌<◌, Option, Some, length, subst, sym, ap, arith, ◌∙◌}
use Rattle.std.specs.List.{slice_get}
use Rattle.std.proofs.lemmas.Option.{slice_get_within}
use Rattle.bz_breakpad_function.specs.InOrder.{ordered_functions}
use Rattle.bz_breakpad_function.specs.Indexed.{functions_of}
use Rattle.bz_breakpad_lines.specs.Reader.{table_in}
use Rattle.bz_breakpad_lines.specs.Table.{Table}
use Rattle.bz_breakpad.proofs.KeyLemmas.{in_order_at, tells_at, told}
use Rattle.bz_breakpad.proofs.file.SymbolFile.function.Goals as goal

pub function_in_file-requires : goal.function_in_file-requires
function_in_file-requires g c =
    let code = c.self.inside.table.code in
    let kept = c.self.invariant in
    let key = c.index.result.now in
    let read : table_in c.args.self.now ≡ Some kept.table = ap table_in (sym c.self.view_is) ∙ kept.read in
    let listed = subst (λ (o : Option Table). c.args.index < length (functions_of o)) read c.requires in
    let within : c.args.index < length code.keys.items = omega (arith, listed, kept.stands.count, kept.stands.keys.count) in
    let tells = tells_at c.self.inside.bytes.items code kept.table.functions kept.stands.functions code.keys.items kept.stands.keys c.args.index key within c.index.ensures in
    subst (λ (o : Option Table). key.index < length (functions_of o)) (sym read) (slice_get_within kept.table.functions key.index (told kept.table.functions key) tells)

pub returns-clause-function : goal.returns-clause-function
returns-clause-function g c =
    let bytes = c.self.inside.bytes.items in
    let code = c.self.inside.table.code in
    let kept = c.self.invariant in
    let functions = kept.table.functions in
    let key = c.index.result.now in
    let read : table_in c.args.self.now ≡ Some kept.table = ap table_in (sym c.self.view_is) ∙ kept.read in
    let listed = subst (λ (o : Option Table). c.args.index < length (functions_of o)) read c.requires in
    let within : c.args.index < length code.keys.items = omega (arith, listed, kept.stands.count, kept.stands.keys.count) in
    let tells = tells_at bytes code functions kept.stands.functions code.keys.items kept.stands.keys c.args.index key within c.index.ensures in
    ap (λ (o : Option Table). slice_get (ordered_functions (functions_of o)) c.args.index) read
    ∙ in_order_at bytes code functions kept.stands.functions code.keys.items kept.stands.keys c.args.index key within c.index.ensures
    ∙ sym (sym c.function_in_file.ensures ∙ ap (λ (o : Option Table). slice_get (functions_of o) key.index) read ∙ tells)
