use Rattle.std.proofs.Common.{Some, option_map, sym, ap, ◌∙◌}
use Rattle.std.specs.BTreeMap.{is_at}
use Rattle.std.specs.Ordering.{nat_cmp}
use Rattle.std.proofs.lemmas.Map.Made.{lookup-map_values}
use Rattle.bz_breakpad_table.specs.Kept.{IsTextAt, text_at}
use Rattle.bz_breakpad_table.proofs.KeptLemmas.{value_found}
use Rattle.bz_breakpad_table.proofs.names.name_of.Goals as goal

pub text_of-requires : goal.text_of-requires
text_of-requires c =
    value_found (IsTextAt c.args.bytes.now) (is_at (nat_cmp c.args.id)) c.args.names.now c.in_ok-part.part.now c.requires c.in_ok-part.ensures

pub returns : goal.returns
returns c =
    let text = text_at c.args.bytes.now in
    ap Some c.text_of.ensures
    ∙ ap (option_map text) c.in_ok-part.ensures
    ∙ sym (lookup-map_values text (is_at (nat_cmp c.args.id)) c.args.names.now)

pub returns-in_err-part : goal.returns-in_err-part
returns-in_err-part c =
    let text = text_at c.args.bytes.now in
    ap (option_map (λ name. name.now)) c.from_residual.ensures
    ∙ ap (option_map text) c.in_err-part.ensures
    ∙ sym (lookup-map_values text (is_at (nat_cmp c.args.id)) c.args.names.now)
