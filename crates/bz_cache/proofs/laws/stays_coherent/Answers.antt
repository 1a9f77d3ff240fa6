use Rattle.std.proofs.Common.{None}
use Rattle.bz_cache.proofs.CoherenceLaws.{new_coherent, look_coherent, insertion_coherent, evicted_coherent}
use Rattle.bz_cache.proofs.laws.stays_coherent.Goals as goal

pub returns : goal.returns
returns c = record {
  new = λ reload worlds w has. new_coherent reload w;
  look = λ test cache worlds w p agree has coherent v has_v. look_coherent test cache w v p (agree w v has has_v) (coherent v has_v);
  inserted = λ cache worlds w p version agree has true_version coherent v has_v. insertion_coherent (λ _. None) cache w v p (agree w v has has_v) (coherent v has_v) version true_version;
  evicted = λ cache worlds p coherent v has. evicted_coherent cache v p (coherent v has);
  pinned = λ pinned cache worlds p coherent. coherent;
}
