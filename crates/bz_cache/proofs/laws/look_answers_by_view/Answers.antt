use Rattle.bz_cache.proofs.CoherenceLaws.{answer_by_view, shown_by_view}
use Rattle.bz_cache.proofs.laws.look_answers_by_view.Goals as goal

pub returns : goal.returns
returns c = record {
  answer = λ test cache w p consistent coherent. answer_by_view test cache w p coherent consistent;
  shown = λ test cache w p v coherent. shown_by_view test cache w p coherent v;
}
