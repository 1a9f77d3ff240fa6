use Rattle.std.proofs.Common.{◌∙◌, string_bytes}
use Rattle.bz_words.proofs.WhereLemmas.{given_at}
use Rattle.bz_words.proofs.refused.refused_at.Goals as goal

-- the bytes that were read are those at the path
pub returns-in-Ok-clause-tells : goal.returns-in-Ok-clause-tells
returns-in-Ok-clause-tells g c = λ world told.
    let there = c.in-Ok.ensures.answer world told in
    given_at string_bytes c.refused_of.result c.args.path.now world there.0 there.1 there.2 (rw (c.as_slice.ensures.value ∙ there.3) at c.refused_of.ensures.tells)
