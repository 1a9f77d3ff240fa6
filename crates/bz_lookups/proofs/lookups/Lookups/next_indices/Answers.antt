use Rattle.std.proofs.Common.{ℕ, map}
use Rattle.std.proofs.lemmas.List.Sorted.{IsPermutation-map}
use Rattle.bz_lookups.proofs.TogetherLemmas.{next_moved, next_read}
use Rattle.bz_lookups.specs.Together.{AreNext}
use Rattle.bz_lookups.proofs.lookups.Lookups.next_indices.Goals.{then-heeds_order, else-heeds_order}
use Rattle.bz_lookups.proofs.lookups.Lookups.next_indices.Goals as goal

abbrev read : ℕ × ℕ → ℕ
read e = e.1

-- the entries, as they are or in the order of their addresses, are the next ones
pub returns-clause-next : goal.returns-clause-next
returns-clause-next c =
    let batch = c.args.self.now in
    let next : AreNext batch c.args.first (map read c.deref.result.now) = rw c.deref.ensures.value (elim c.if-heeds_order.branch [
      | then-heeds_order w ↦ rw w.entries-is (next_moved batch c.args.first _ _ (IsPermutation-map read _ _ w.sort_unstable_by_key.ensures.permutation) c.in_ok-entries.ensures.next)
      | else-heeds_order w ↦ rw w.entries-is c.in_ok-entries.ensures.next
    ]) in
    next_read batch c.args.first (map read c.deref.result.now) c.indices_of.result c.indices_of.ensures.indices next
