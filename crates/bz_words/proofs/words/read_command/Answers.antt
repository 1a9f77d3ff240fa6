use Rattle.std.proofs.Common.{◌≡◌, Err, map, string_bytes, rules}
use Rattle.bz_words.specs.Command.{command_read}
use Rattle.bz_words.specs.Definition.{faults}
use Rattle.bz_words.proofs.ProgramLemmas.{faulty}
use Rattle.bz_words.proofs.words.read_command.Goals as goal

pub returns-in_err-matches-clause-usage : goal.returns-in_err-matches-clause-usage
returns-in_err-matches-clause-usage c usage =
    let words = map string_bytes c.args.words.now in
    let same : c.from_residual.result ≡ Err c.in_err-matches.field-0.0 = search rules in
    faulty (faults words) (command_read words) (c.in_err-matches.ensures.usage (rw same at usage))
