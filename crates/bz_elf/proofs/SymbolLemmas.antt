-- The symbols that count, and the load segments, read one after another.
use Rattle.std.proofs.Common.{◌≡◌, ℕ, List, sym, ap, ◌∙◌}
use Rattle.std.specs.List.{filter_map, list_all}
use Rattle.bz_elf.specs.Checks.{has_names}
use Rattle.bz_elf.specs.Head.{program_count, program_place}
use Rattle.bz_elf.specs.Kept.{IsSymbolTable}
use Rattle.bz_elf.specs.Sections.{strings}
use Rattle.bz_elf.specs.Segments.{loaded_at, program_header_len, segments}
use Rattle.bz_elf.specs.Symbols.{counted_at, entries, is_named, symbol_len}
use Rattle.bz_elf.specs.declared.types.SymbolEntry.{SymbolEntry}
use Rattle.bz_elf.specs.declared.types.SymbolTable.{SymbolTable}
use Rattle.bz_elf.proofs.PlaceLemmas.{picked_from, places_all}

-- what is picked from the first record on is what is picked of all
pub all_segments : (bytes : List ℕ) → picked_from (loaded_at bytes) (program_place bytes) program_header_len 0 (program_count bytes) ≡ segments bytes
unfolding segments
all_segments bytes = ap (filter_map (loaded_at bytes)) (places_all (program_place bytes) program_header_len (program_count bytes))

module _ (bytes : List ℕ) where
  pub all_entries : (table : SymbolTable) → IsSymbolTable bytes table → picked_from (counted_at bytes) table.offset symbol_len 0 table.count ≡ entries bytes
  unfolding entries
  all_entries table is = ap (filter_map (counted_at bytes)) (places_all table.offset symbol_len table.count ∙ sym is.places_are)

  -- whether all of them have names in the strings
  pub by_names : (names : List ℕ) (found : List SymbolEntry) → names ≡ strings bytes → found ≡ entries bytes → list_all (is_named names) found ≡ has_names bytes
  unfolding has_names
  by_names names found own all = ap (λ l. list_all (is_named l) found) own ∙ ap (list_all (is_named (strings bytes))) all
