use Rattle.std.proofs.Common.{sym, subst, rules}
use Rattle.std.proofs.lemmas.Str.{IsUtf8-append}
use Rattle.std.specs.Str.{IsUtf8}
use Rattle.bz_canon.proofs.text_piece.put_str.Goals as goal

pub returns-clause-text : goal.returns-clause-text
returns-clause-text c = search rules

-- both texts are UTF-8
pub returns-clause-utf8 : goal.returns-clause-utf8
returns-clause-utf8 c behind = subst IsUtf8 (sym (returns-clause-text c)) (IsUtf8-append _ _ c.utf8.text behind)
