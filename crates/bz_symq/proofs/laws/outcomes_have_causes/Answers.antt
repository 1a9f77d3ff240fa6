use Rattle.bz_symq.proofs.RunLemmas.{answerable_is_done, bad_is_input, done_is_answerable, input_is_bad, never_usage, refusable_is_refused, refused_is_refusable}
use Rattle.bz_symq.proofs.laws.outcomes_have_causes.Goals as goal

pub returns : goal.returns
returns c = record {
  done = λ command input world own. (done_is_answerable command input world own, answerable_is_done command input world own);
  refused = λ command input world own. (refused_is_refusable command input world own, refusable_is_refused command input world own);
  usage = λ command input world own. never_usage command input world own;
  input = λ command input world own. (input_is_bad command input world own, bad_is_input command input world own);
}
