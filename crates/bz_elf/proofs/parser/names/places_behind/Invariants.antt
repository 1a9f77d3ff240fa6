use Rattle.std.proofs.Common.{◌≡◌, drop}
use Rattle.std.specs.Prelude.{◌&&◌}
use Rattle.std.specs.List.{list_all}
use Rattle.bz_elf.specs.Names.{is_name_at}
use Rattle.bz_elf.specs.Symbols.{is_named}
use Rattle.bz_elf.proofs.parser.names.places_behind.Given as goal

-- the symbols so far have names where those at the places are some, and the rest is still to be looked
-- at
abbrev pub invariant-loop-symbol : goal.invariant-loop-symbol
invariant-loop-symbol l =
    (list_all (is_name_at l.strings) l.places.items && list_all (is_named l.strings) (drop l.symbol-index l.symbols)) ≡ list_all (is_named l.strings) l.symbols
