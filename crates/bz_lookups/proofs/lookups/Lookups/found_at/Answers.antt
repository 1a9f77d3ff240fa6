use Rattle.std.proofs.Common.{◌<◌, ◌∙◌, ◌++◌, [], ◌∷◌, ℕ, List, length, map, slice_index, take, ap, sym, rules}
use Rattle.std.proofs.lemmas.List.{map-append, take_more}
use Rattle.bz_lookups.proofs.FoundLemmas.{found_behind}
use Rattle.bz_lookups.proofs.lookups.Lookups.found_at.Goals as goal

-- what is pushed is the address of the next index, and what was found for it
pub loop-index-preserved : goal.loop-index-preserved
loop-index-preserved c =
    let batch = c.args.self.now in
    let indices = c.args.indices.now in
    let place = c.loop-index.index-index in
    let so_far = c.loop-index.invariant in
    let here : place < length indices = search rules in
    record {
      addrs =
          rw c.addr.ensures at c.in_ok-push.ensures.items
          ∙ ap (λ (front : List ℕ). front ++ slice_index batch.addrs (slice_index indices place) ∷ []) so_far.addrs
          ∙ sym (map-append (slice_index batch.addrs) (take place indices) (slice_index indices place ∷ []))
          ∙ sym (ap (map (slice_index batch.addrs)) (take_more indices place 0 here));
      found = rw (c.in_ok-push.ensures.items, c.addr.ensures, c.in_ok-push-2.ensures.items)
          (found_behind batch.version c.loop-index.some.addrs.items c.loop-index.some.records.items (slice_index batch.addrs (slice_index indices place)) c.record.result so_far.found c.record.ensures);
    }
