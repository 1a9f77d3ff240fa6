use Rattle.std.proofs.Common.{◌≡◌, ◌++◌}
use Rattle.bz_elf.specs.Symbols.{counted_at, entries, symbol_len}
use Rattle.bz_elf.proofs.PlaceLemmas.{picked_from}
use Rattle.bz_elf.proofs.parser.symbols.all_counted.Given as goal

-- what was found, with what is found of the rest, is what is found of all
abbrev pub invariant-loop-index : goal.invariant-loop-index
invariant-loop-index l = l.found.items ++ picked_from (counted_at l.bytes) l.table.offset symbol_len l.index l.table.count ≡ entries l.bytes
