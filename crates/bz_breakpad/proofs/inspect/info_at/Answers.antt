use Rattle.std.proofs.Common.{Some, length, refl, ap, sym, ◌∙◌, arith}
use Rattle.std.proofs.lemmas.Option.{slice_get_read}
use Rattle.bz_breakpad_table.specs.Kept.{function_seen}
use Rattle.bz_breakpad.specs.Inspect.{function_info}
use Rattle.bz_breakpad.proofs.InspectLemmas.{info_told, key_named, key_within}
use Rattle.bz_breakpad.proofs.inspect.info_at.Goals as goal

pub index-function-requires : goal.index-function-requires
index-function-requires c =
    let kept = c.args.kept.now in
    let key = c.index-key.result.now in
    let at = slice_get_read kept.code.keys.items (length kept.code.keys.items) c.args.index key refl c.requires.within c.index-key.ensures in
    omega (arith, kept.code.functions.ok.0, key_within c.args.bytes.now c.requires.stands.0 kept c.requires.stands.1 c.args.index key at)

pub text_of-requires : goal.text_of-requires
text_of-requires c =
    let kept = c.args.kept.now in
    let key = c.index-key.result.now in
    let at = slice_get_read kept.code.keys.items (length kept.code.keys.items) c.args.index key refl c.requires.within c.index-key.ensures in
    key_named c.args.bytes.now c.requires.stands.0 kept c.requires.stands.1 c.args.index key at c.index-function.result.now c.index-function.ensures

pub returns : goal.returns
returns c table stands =
    let kept = c.args.kept.now in
    let key = c.index-key.result.now in
    let f = c.index-function.result.now in
    let at = slice_get_read kept.code.keys.items (length kept.code.keys.items) c.args.index key refl c.requires.within c.index-key.ensures in
    info_told c.args.bytes.now table kept stands c.args.index key at f c.index-function.ensures
    ∙ ap (λ name. Some (record (function_info (function_seen c.args.bytes.now kept.code f)) { name = name })) (sym c.text_of.ensures)
