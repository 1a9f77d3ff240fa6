use Rattle.std.proofs.Common.{None, ◌∙◌}
use Rattle.bz_breakpad_table.specs.Publics.{public_keys_from, starts_kept}
use Rattle.bz_breakpad_table.proofs.PublicKeyLemmas.{firsts_after, keys_are_in_order, public_table_is, whole_is, whole_starts_never}
use Rattle.bz_breakpad_table.proofs.publics.table_in_order.Goals as goal

pub from_sorted-requires : goal.from_sorted-requires
from_sorted-requires c =
    whole_starts_never c.args.publics.now c.loop-index.starts.items c.loop-index.index c.loop-index.last c.requires c.loop-index-test.false c.loop-index.invariant.starts

pub returns : goal.returns
returns c =
    let publics = c.args.publics.now in
    let l = c.loop-index in
    public_table_is publics (firsts_after None (public_keys_from 0 (starts_kept publics))) _ (keys_are_in_order (starts_kept publics) c.requires)
    (whole_is (λ k. k.index) publics l.indices.items l.index l.last c.loop-index-test.false l.invariant.indices)
    (c.from_sorted.ensures ∙ whole_is (λ k. k.start) publics l.starts.items l.index l.last c.loop-index-test.false l.invariant.starts)
