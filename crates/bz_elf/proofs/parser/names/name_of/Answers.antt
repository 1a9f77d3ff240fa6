use Rattle.std.proofs.Common.{ap, ◌∙◌}
use Rattle.std.proofs.lemmas.List.{take_rest}
use Rattle.bz_base.specs.ZeroEnded.{before_zero}
use Rattle.bz_elf.specs.Symbols.{is_name}
use Rattle.bz_elf.proofs.TextLemmas.{name_within}
use Rattle.bz_elf.proofs.parser.names.name_of.Goals as goal

pub slice_bounds-text_of-count : goal.slice_bounds-text_of-count
slice_bounds-text_of-count c = name_within c.args.strings.now c.args.symbol.now.name c.requires

pub text_of-requires : goal.text_of-requires
text_of-requires c = ap is_name (take_rest c.args.strings.now c.args.symbol.now.name) ∙ c.requires

pub returns : goal.returns
returns c = c.text_of.ensures ∙ ap before_zero (take_rest c.args.strings.now c.args.symbol.now.name)
