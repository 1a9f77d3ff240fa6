use Rattle.std.proofs.Common.{◌≡◌, ◌∙◌, false, true, ap, ap₂, codes}
use Rattle.clap.specs.Simple.{app_of_fields, on_top}
use Rattle.clap.specs.Words.{AddsArg, App, Rule, app_of, rule_of, with_rule}
use Rattle.clap.specs.declared.builder.arg.Arg.{Arg}
use Rattle.clap.specs.declared.builder.command.Command.{Command}
use Rattle.bz_words.specs.Definition.{bare_program, flag_rule, input_rule, kind_rule, argument_rule, program}
use Rattle.bz_words.proofs.definition.program.Goals as goal

-- one more argument
one_more : (old new : Command) (arg : Arg) (app : App) (rule : Rule) → AddsArg old arg new → arg.global ≡ false → rule_of arg ≡ rule → app_of old ≡ app → app_of new ≡ with_rule app rule
one_more old new arg app rule adds local rule_is is = adds.shape local ∙ ap₂ with_rule is rule_is

pub returns : goal.returns
unfolding program
returns c =
    let bare : app_of c.no_binary_name.result ≡ bare_program =
    ap app_of_fields c.no_binary_name.ensures ∙ ap (on_top (λ s. record s { no_binary_name = true })) c.new.ensures.app in
    one_more _ _ _ _ argument_rule c.in_ok-command.ensures c.argument.ensures.local c.argument.ensures.rule
    (one_more _ _ _ _ kind_rule c.in_ok-arg-6.ensures c.kind.ensures.local c.kind.ensures.rule
    (one_more _ _ _ _ input_rule c.in_ok-arg-5.ensures c.input.ensures.local c.input.ensures.rule
    (one_more _ _ _ _ (flag_rule (codes "no-map-files")) c.in_ok-arg-4.ensures c.flag-4.ensures.local c.flag-4.ensures.rule
    (one_more _ _ _ _ (flag_rule (codes "no-inlined")) c.in_ok-arg-3.ensures c.flag-3.ensures.local c.flag-3.ensures.rule
    (one_more _ _ _ _ (flag_rule (codes "no-code-info")) c.in_ok-arg-2.ensures c.flag-2.ensures.local c.flag-2.ensures.rule
    (one_more _ _ _ _ (flag_rule (codes "no-reload")) c.in_ok-arg.ensures c.flag.ensures.local c.flag.ensures.rule bare))))))
