use Rattle.std.proofs.Common.{not, rules}
use Rattle.std.proofs.lemmas.Fn.{filter_same}
use Rattle.bz_proc.specs.Maps.{name_of}
use Rattle.bz_process.specs.Forgetting.{has_path}
use Rattle.bz_process.proofs.dispatching.Dispatching.forget.Goals as goal

-- the answers that aren't for a file with the path stay
pub returns-clause-answers : goal.returns-clause-answers
returns-clause-answers g c = filter_same _ (λ entry. not (has_path c.args.path.now (name_of entry.0))) _ (λ x b after called. search rules) _ _ c.retain.ensures
