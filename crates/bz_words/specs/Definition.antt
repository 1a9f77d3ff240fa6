-- The command line as `clap` reads it: four flags, one option with a value, a kind of command, and
-- any number of arguments.
use Rattle.std.specs.Prelude.{◌≡◌, true, List, Some, codes}
use Rattle.clap.specs.Lexer.{usize_max}
use Rattle.clap.specs.Simple.{on_top}
use Rattle.clap.specs.Words.{App, Kinds, Row, Rule, Text, fault_of, matches_of, new_app, new_rule, takes, with_rule}
use Rattle.clap.specs.declared.builder.action.ArgAction.TheVariants.{Append, Set, SetTrue}

abbrev pub flag_rule : Text → Rule
flag_rule name = record (new_rule name) { long = Some name; action = Some SetTrue }

abbrev pub input_rule : Rule
input_rule = record (new_rule (codes "input")) { long = Some (codes "input"); action = Some Set }

abbrev pub kind_rule : Rule
kind_rule = record (new_rule (codes "kind")) { required = true }

abbrev pub argument_rule : Rule
argument_rule = record (new_rule (codes "arg")) { action = Some Append; range = Some (record { start_inclusive = 0; end_inclusive = usize_max }) }

-- the program's command line; its words come without the program's name
abbrev pub bare_program : App
bare_program = on_top (λ s. record s { no_binary_name = true }) (new_app (codes "symq"))

abbrev pub with_flags : App → App
with_flags app =
    with_rule (with_rule (with_rule (with_rule app (flag_rule (codes "no-reload"))) (flag_rule (codes "no-code-info"))) (flag_rule (codes "no-inlined"))) (flag_rule (codes "no-map-files"))

unfoldable pub program : App
program = with_rule (with_rule (with_rule (with_flags bare_program) input_rule) kind_rule) argument_rule

-- what `clap` makes of the words, if it takes them
abbrev pub rows : List Text → List Row
rows words = matches_of program words

-- which faults `clap` finds with the words: it takes them exactly where there is none
abbrev pub faults : List Text → Kinds
faults words = fault_of program words

-- by `clap`'s test of words that it takes, it does: then they can be refused for memory alone
abbrev pub IsTakenByClap : List Text → Type 0
IsTakenByClap words = takes program words ≡ true
