-- Whether the symbol table and its strings pass their checks, and where they lie.
use Rattle.std.proofs.Common.{◌≡◌, ℕ, ◌+◌, ◌/◌, Bool, true, false, List, [], length, Option, Some, None, refl, sym, ap, ◌∙◌, arith}
use Rattle.std.specs.Prelude.{◌&&◌, ◌==◌, ◌%◌}
use Rattle.std.specs.List.{slice_get}
use Rattle.std.specs.Option.{option_and_then}
use Rattle.std.proofs.lemmas.Bool.{and_parts, leb-true}
use Rattle.bz_elf.specs.Checks.{has_strings, has_symbols, if_there, is_symbol_table, is_there, section_lies}
use Rattle.bz_elf.specs.Kept.{IsSymbolTable}
use Rattle.bz_elf.specs.Parts.{bytes_at}
use Rattle.bz_elf.specs.Sections.{bytes_of, sections, string_table, strings, symbol_table}
use Rattle.bz_elf.specs.Symbols.{places_of, symbol_len}
use Rattle.bz_elf.specs.declared.types.Part.{Part}
use Rattle.bz_elf.specs.declared.types.Section.{Section}
use Rattle.bz_elf.specs.declared.types.SymbolTable.{SymbolTable}

first_fails : (a b : Bool) → a ≡ false → (a && b) ≡ false
first_fails a b fails = rw fails refl

second_fails : (a b : Bool) → b ≡ false → (a && b) ≡ false
second_fails true b fails = fails
second_fails false b fails = refl

-- the part of a section's bytes
abbrev pub part_of : Section → Part
part_of section = record { offset = section.offset; size = section.size }

abbrev pub nowhere : SymbolTable
nowhere = record { offset = 0; count = 0; strings = record { offset = 0; size = 0 } }

module _ (bytes : List ℕ) where
  -- without a symbol table nothing is asked, and there are neither symbols nor strings
  module _ (none : None ≡ symbol_table bytes) where
    pub nothing_asked : (has_symbols bytes ≡ true) × (has_strings bytes ≡ true)
    unfolding has_symbols has_strings
    nothing_asked = (ap (if_there (is_symbol_table bytes)) (sym none), ap (if_there (λ table. is_there (section_lies bytes) (string_table bytes table))) (sym none))

    no_strings : strings bytes ≡ []
    unfolding strings
    no_strings = ap (λ o. bytes_of bytes (option_and_then (string_table bytes) o)) (sym none)

    pub no_table : IsSymbolTable bytes nowhere
    no_table = record {
      within = omega arith;
      places_are = ap places_of (sym none);
      strings_are = record { within = omega arith; are = no_strings };
    }

  module _ (table : Section) (is : Some table ≡ symbol_table bytes) where
    symbols_are : has_symbols bytes ≡ is_symbol_table bytes table
    unfolding has_symbols
    symbols_are = ap (if_there (is_symbol_table bytes)) (sym is)

    strings_by : (o : Option Section) → o ≡ slice_get (sections bytes) table.link → has_strings bytes ≡ is_there (section_lies bytes) o
    unfolding has_strings string_table
    strings_by o there = ap (if_there (λ t. is_there (section_lies bytes) (string_table bytes t))) (sym is) ∙ ap (is_there (section_lies bytes)) (sym there)

    pub not_symbols : is_symbol_table bytes table ≡ false → (has_symbols bytes && has_strings bytes) ≡ false
    not_symbols fails = first_fails (has_symbols bytes) (has_strings bytes) (symbols_are ∙ fails)

    pub not_there : None ≡ slice_get (sections bytes) table.link → (has_symbols bytes && has_strings bytes) ≡ false
    not_there none = second_fails (has_symbols bytes) (has_strings bytes) (strings_by None none)

    module _ (section : Section) (there : Some section ≡ slice_get (sections bytes) table.link) where
      pub outside : section_lies bytes section ≡ false → (has_symbols bytes && has_strings bytes) ≡ false
      outside fails = second_fails (has_symbols bytes) (has_strings bytes) (strings_by (Some section) there ∙ fails)

      own_strings : strings bytes ≡ bytes_at bytes section.offset section.size
      unfolding strings string_table
      own_strings = ap (λ o. bytes_of bytes (option_and_then (string_table bytes) o)) (sym is) ∙ ap (bytes_of bytes) (sym there)

      module _ (passes : is_symbol_table bytes table ≡ true) (lie : section_lies bytes section ≡ true) where
        pub both_pass : (has_symbols bytes ≡ true) × (has_strings bytes ≡ true)
        both_pass = (symbols_are ∙ passes, strings_by (Some section) there ∙ lie)

        pub table_lies : IsSymbolTable bytes (record { offset = table.offset; count = table.size / symbol_len; strings = part_of section })
        table_lies = record {
          within =
              let lies = leb-true (table.offset + table.size) (length bytes) (and_parts (section_lies bytes table) (table.entry_size == symbol_len && table.size % symbol_len == 0) passes).0 in
              omega arith;
          places_are = ap places_of (sym is);
          strings_are = record { within = leb-true (section.offset + section.size) (length bytes) lie; are = own_strings };
        }
