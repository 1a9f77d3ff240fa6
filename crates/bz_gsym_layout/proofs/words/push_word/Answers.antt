use Rattle.std.proofs.Common.{◌++◌, ◌∙◌, ap}
use Rattle.bz_gsym_layout.proofs.WordLemmas.{whole_word}
use Rattle.bz_gsym_layout.proofs.words.push_word.Goals as goal

pub returns-clause-ok : goal.returns-clause-ok
returns-clause-ok c = c.in_ok-extend_from_slice.ensures.items ∙ ap (λ l. c.args.out.now.items ++ l) (c.to_le_bytes.ensures ∙ whole_word c.args.number)
