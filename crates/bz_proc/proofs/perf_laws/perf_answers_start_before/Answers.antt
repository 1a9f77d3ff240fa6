use Rattle.bz_proc.proofs.PerfAnswerLemmas.{starts_before}
use Rattle.bz_proc.proofs.perf_laws.perf_answers_start_before.Goals as goal

pub returns : goal.returns
returns c = λ bytes addr r is. starts_before addr bytes r is
