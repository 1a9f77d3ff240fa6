use Rattle.std.proofs.Common.{◌++◌, ◌∙◌, ap}
use Rattle.bz_gsym_layout.proofs.PassTurns.{on_ok}
use Rattle.bz_gsym_layout.proofs.WordLemmas.{low_word}
use Rattle.bz_gsym_layout.proofs.words.push_low_word.Goals as goal

pub returns-clause-ok : goal.returns-clause-ok
returns-clause-ok c = on_ok c.push_word.result _ _ (λ wrote. wrote ∙ ap (λ l. c.args.out.now.items ++ l) (low_word c.args.number)) c.push_word.ensures.ok
