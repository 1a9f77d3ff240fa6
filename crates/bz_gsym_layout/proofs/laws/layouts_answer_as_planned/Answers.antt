use Rattle.bz_gsym_layout.proofs.FormatLemmas.{is_file}
use Rattle.bz_gsym_layout.proofs.HoldsLemmas.{layout_answers, trees_are}
use Rattle.bz_gsym_layout.proofs.laws.layouts_answer_as_planned.Goals as goal

pub returns-clause-format : goal.returns-clause-format
returns-clause-format c codes layable up small = is_file codes small layable up

pub returns-clause-answers : goal.returns-clause-answers
returns-clause-answers c codes layable small addr = layout_answers codes small layable addr

pub returns-clause-trees : goal.returns-clause-trees
returns-clause-trees c codes layable small i code there fits = trees_are codes small layable i code there fits
