use Rattle.std.proofs.Common.{sym, map, string_bytes}
use Rattle.bz_words.specs.Command.{command_of}
use Rattle.bz_words.proofs.WhereLemmas.{given_where}
use Rattle.bz_words.proofs.refused.refused_file.Goals as goal

pub returns-in-Some-clause-tells : goal.returns-in-Some-clause-tells
returns-in-Some-clause-tells g c = λ world told.
    given_where string_bytes c.refused_at.result (map string_bytes c.args.words.now) world (command_of c.in-Ok.command) c.in-Ok.ensures.ok c.in-Some.path.now
    (sym c.in-Some.ensures) (c.refused_at.ensures.tells world told)
