use Rattle.bz_base.proofs.NearestLemmas.{nearest_covering_is, nearest_covering_only}
use Rattle.bz_breakpad.proofs.laws.nearest_function.Goals as goal

pub returns-clause-is : goal.returns-clause-is
returns-clause-is c functions addr = nearest_covering_is (λ f. f.start) (λ f. f.size) addr functions

pub returns-clause-only : goal.returns-clause-only
returns-clause-only c functions addr answer = nearest_covering_only (λ f. f.start) (λ f. f.size) addr functions answer
