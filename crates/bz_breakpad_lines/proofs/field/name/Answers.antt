use Rattle.std.proofs.Common.{refl, sym, ◌∙◌}
use Rattle.std.proofs.lemmas.Bool.{false_from_ne_true}
use Rattle.std.proofs.lemmas.Str.{IsUtf8-from_is_utf8, is_utf8-from_IsUtf8}
use Rattle.bz_breakpad_lines.specs.Reads.{name_at}
use Rattle.bz_breakpad_lines.proofs.field.name.Goals as goal

pub returns-in-Ok : goal.returns-in-Ok
unfolding name_at
returns-in-Ok c =
    rw (c.in-Ok.ensures.cases.0, sym c.begins_blank.ensures ∙ c.if-begins_blank.false, is_utf8-from_IsUtf8 c.args.text.now c.in-Ok.ensures.cases.1) refl

pub returns-in-Err : goal.returns-in-Err
unfolding name_at
returns-in-Err c =
    rw (sym c.begins_blank.ensures ∙ c.if-begins_blank.false, false_from_ne_true _ (λ good. c.in-Err.ensures.cases.0 (IsUtf8-from_is_utf8 c.args.text.now good))) refl
