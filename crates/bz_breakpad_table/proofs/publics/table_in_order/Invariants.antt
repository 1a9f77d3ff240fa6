use Rattle.std.proofs.Common.{◌≡◌, ◌++◌, List, None, drop, map}
use Rattle.bz_breakpad_table.specs.Publics.{public_keys_from, starts_kept}
use Rattle.bz_breakpad_table.specs.declared.publics.PublicKey.{PublicKey}
use Rattle.bz_breakpad_table.proofs.PublicKeyLemmas.{firsts_after}
use Rattle.bz_breakpad_table.proofs.publics.table_in_order.Given as goal

-- the indices and starts so far, and then those of the records from the index on
abbrev pub invariant-loop-index : goal.invariant-loop-index
invariant-loop-index l =
    let rest : List PublicKey = firsts_after l.last (public_keys_from l.index (starts_kept (drop l.index l.publics))) in
    let whole : List PublicKey = firsts_after None (public_keys_from 0 (starts_kept l.publics)) in
    record {
      indices : l.indices.items ++ map (λ k. k.index) rest ≡ map (λ k. k.index) whole;
      starts : l.starts.items ++ map (λ k. k.start) rest ≡ map (λ k. k.start) whole;
    }
