use Rattle.std.proofs.Common.{ap, length, sym, ◌∙◌}
use Rattle.std.specs.Prelude.{◌==◌}
use Rattle.std.specs.List.{list_any}
use Rattle.std.proofs.lemmas.List.{length-map}
use Rattle.bz_convert.specs.Fault.{has_zero}
use Rattle.bz_convert.specs.Ids.{call_has_zero, row_has_zero, sized_with}
use Rattle.bz_convert.specs.Points.{row_seen}
use Rattle.bz_convert.proofs.ZeroTurns.{call_has, name_has, row_has}
use Rattle.bz_convert.proofs.ids.texts_have_zero.Goals as goal

pub returns-then-has_zero : goal.returns-then-has_zero
returns-then-has_zero c table read inner over = name_has table c.args.function.now (ap has_zero (sym c.name.ensures) ∙ sym c.has_zero.ensures ∙ c.if-has_zero.true)

pub returns-then-rows_have_zero : goal.returns-then-rows_have_zero
returns-then-rows_have_zero c table read inner over =
    row_has table c.args.function.now c.requires.checked inner over (ap (list_any (row_has_zero table)) (sym c.requires.rows) ∙ sym (c.rows_have_zero.ensures table read) ∙ c.if-rows_have_zero.true)

pub returns-then-not-is_empty : goal.returns-then-not-is_empty
returns-then-not-is_empty c table read inner over =
    call_has table c.args.function.now c.requires.checked inner over (ap has_zero (sym c.name.ensures) ∙ sym c.has_zero.ensures ∙ c.if-has_zero.false)
    (ap (list_any (row_has_zero table)) (sym c.requires.rows) ∙ sym (c.rows_have_zero.ensures table read) ∙ c.if-rows_have_zero.false)
    (ap (λ l. length l == 0) (sym c.requires.rows) ∙ ap (λ n. n == 0) (length-map c.args.rows.now row_seen) ∙ sym c.is_empty.ensures ∙ c.if-not-is_empty.true)
    c.calls_have_zero.result (c.calls_have_zero.ensures table read ∙ ap (list_any (sized_with (call_has_zero table))) c.requires.calls)
