use Rattle.bz_breakpad_table.proofs.SortedKeyLemmas.{sorted_keys_of}
use Rattle.bz_breakpad_table.proofs.sorting.sorted_keys.Goals as goal

pub returns-clause-keys : goal.returns-clause-keys
returns-clause-keys c =
    sorted_keys_of c.args.functions.now c.in_ok-keys.keys.items c.sort_table.new.records.items c.in_ok-keys.ensures
    c.in_ok-sort_table.ensures.table c.sort_table.ensures.count
