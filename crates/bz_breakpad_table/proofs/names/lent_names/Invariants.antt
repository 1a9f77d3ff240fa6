use Rattle.std.proofs.Common.{◌≡◌, map, take}
use Rattle.bz_breakpad_table.specs.Kept.{kept_names}
use Rattle.bz_breakpad_table.proofs.names.lent_names.Given as goal

-- the names so far
abbrev pub invariant-loop-entry : goal.invariant-loop-entry
invariant-loop-entry l = map (λ n. (n.0, n.1.now)) l.named.items ≡ kept_names l.bytes (take l.entry-index l.entries)
