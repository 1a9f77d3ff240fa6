use Rattle.std.proofs.Common.{ap, ◌∙◌}
use Rattle.bz_proc.specs.Status.{number_in}
use Rattle.bz_proc.proofs.StatusLemmas.{number_parsed, number_other}
use Rattle.bz_proc.proofs.status.number.Goals as goal

pub returns-in-Ok : goal.returns-in-Ok
returns-in-Ok c =
    c.ok.ensures.value ∙ number_parsed c.in-Ok.word.now c.parse.result c.parse.ensures.value.0 ∙ ap number_in c.in-Ok.ensures.cases.0

pub returns-in-Err : goal.returns-in-Err
returns-in-Err c = number_other c.args.word.now c.in-Err.ensures.cases.0
