-- The checks of a file say what the relation says, one by one.
use Rattle.std.proofs.Common.{◌≡◌, ℕ, suc, ◌+◌, ◌*◌, ◌≤◌, Bool, true, false, cond, nat_le, List, [], ◌∷◌, length, Option, Some, None, Result, Ok, Err, refl, sym, ap, subst, ◌∙◌, inl, inr}
use Rattle.std.specs.Prelude.{◌==◌, ◌&&◌, ◌||◌, ◌%◌, ◌≢◌, ◌⊎◌, not, IfOk, IfErr}
use Rattle.std.specs.List.{list_all, slice_get}
use Rattle.std.proofs.lemmas.Bool.{and_from, and_parts, eq-eqb, eqb-false, eqb-true, le-leb, leb-true, ne_eqb, not-true}
use Rattle.bz_base.specs.declared.error.Error.{Error}
use Rattle.bz_base.specs.declared.error.Error.TheVariants as errors
use Rattle.bz_base.specs.ZeroEnded.{IsString}
use Rattle.bz_base.specs.Little.{number_at}
use Rattle.bz_cache.specs.Format.{GivesOrFaults, FailsAs, IsRefusalBy}
use Rattle.bz_cache.specs.View.{by_format}
use Rattle.bz_files.specs.World.{Entry, Present}
use Rattle.bz_files.specs.declared.stamp.Stamp.{Stamp}
use Rattle.bz_elf.specs.Checks.{pn_xnum, has_head, has_names, has_program_headers, has_sections, has_strings, has_symbols, if_there, is_elf, is_supported, is_symbol_table, is_there, section_lies}
use Rattle.bz_elf.specs.Format.{checks, format_test}
use Rattle.bz_elf.specs.Head.{elfmag, ei_class, elfclass64, ei_data, elfdata2lsb, identity_len, head_len, program_place, program_size, program_count, section_place, section_size, section_count}
use Rattle.bz_elf.specs.Profile.{HasEntries, HaveProgramHeaders, HaveSections, IsElf, SectionLies}
use Rattle.bz_elf.specs.Resolver.{Resolver, opened}
use Rattle.bz_elf.specs.Sections.{section_header_len, string_table, strings, symbol_table}
use Rattle.bz_elf.specs.Segments.{program_header_len}
use Rattle.bz_elf.specs.Symbols.{entries, is_named, symbol_len}
use Rattle.bz_elf.specs.declared.types.Section.{Section}
use Rattle.bz_elf.specs.declared.types.SymbolEntry.{SymbolEntry}
use Rattle.bz_elf.proofs.AnswerLemmas.{passes_at}
use Rattle.bz_elf.proofs.FormatLemmas.{each_passes}
use Rattle.bz_elf.proofs.NameLaws.{found, stands}

-- a list passes where each of it does
all_pass : {X : Type 0} (test : X → Bool) (list : List X) → ((i : ℕ) (x : X) → slice_get list i ≡ Some x → test x ≡ true) → list_all test list ≡ true
all_pass test [] each = refl
all_pass test (x ∷ list) each = and_from (test x) (list_all test list) (each 0 x refl) (all_pass test list (λ i y there. each (suc i) y there))

module _ (bytes : List ℕ) where
  begins : is_elf bytes ≡ true → (identity_len ≤ length bytes) × (number_at 4 bytes 0 ≡ elfmag)
  unfolding is_elf
  begins is =
      let both = and_parts (nat_le identity_len (length bytes)) (number_at 4 bytes 0 == elfmag) is in
      (leb-true identity_len (length bytes) both.0, eqb-true _ _ both.1)

  begins_test : identity_len ≤ length bytes → number_at 4 bytes 0 ≡ elfmag → is_elf bytes ≡ true
  unfolding is_elf
  begins_test long is = and_from (nat_le identity_len (length bytes)) (number_at 4 bytes 0 == elfmag) (le-leb identity_len (length bytes) long) (eq-eqb _ _ is)

  supported : is_supported bytes ≡ true → (number_at 1 bytes ei_class ≡ elfclass64) × (number_at 1 bytes ei_data ≡ elfdata2lsb)
  unfolding is_supported
  supported is =
      let both = and_parts (number_at 1 bytes ei_class == elfclass64) (number_at 1 bytes ei_data == elfdata2lsb) is in
      (eqb-true _ _ both.0, eqb-true _ _ both.1)

  supported_test : number_at 1 bytes ei_class ≡ elfclass64 → number_at 1 bytes ei_data ≡ elfdata2lsb → is_supported bytes ≡ true
  unfolding is_supported
  supported_test class order = and_from (number_at 1 bytes ei_class == elfclass64) (number_at 1 bytes ei_data == elfdata2lsb) (eq-eqb _ _ class) (eq-eqb _ _ order)

  long : has_head bytes ≡ true → head_len ≤ length bytes
  unfolding has_head
  long is = leb-true head_len (length bytes) is

  long_test : head_len ≤ length bytes → has_head bytes ≡ true
  unfolding has_head
  long_test is = le-leb head_len (length bytes) is

  abbrev programs_lie : Bool
  programs_lie =
      not (program_count bytes == pn_xnum)
      && (program_size bytes == program_header_len && nat_le (program_place bytes + program_count bytes * program_header_len) (length bytes))

  programs_by : (none : Bool) → (program_count bytes == 0) ≡ none → (none || programs_lie) ≡ true → (program_count bytes ≡ 0) ⊎ HaveProgramHeaders bytes
  programs_by true none is = inl (eqb-true _ _ none)
  programs_by false some is =
      let told = and_parts (not (program_count bytes == pn_xnum)) (program_size bytes == program_header_len && nat_le (program_place bytes + program_count bytes * program_header_len) (length bytes)) is in
      let both = and_parts (program_size bytes == program_header_len) (nat_le (program_place bytes + program_count bytes * program_header_len) (length bytes)) told.1 in
      inr (record {
        told = eqb-false _ _ (not-true _ told.0);
        size = eqb-true _ _ both.0;
        within = leb-true (program_place bytes + program_count bytes * program_header_len) (length bytes) both.1;
      })

  programs : has_program_headers bytes ≡ true → (program_count bytes ≡ 0) ⊎ HaveProgramHeaders bytes
  unfolding has_program_headers
  programs is = programs_by (program_count bytes == 0) refl is

  or_true : (a b : Bool) → b ≡ true → (a || b) ≡ true
  or_true true b is = refl
  or_true false b is = is

  programs_test : (program_count bytes ≡ 0) ⊎ HaveProgramHeaders bytes → has_program_headers bytes ≡ true
  unfolding has_program_headers
  programs_test (inl none) = rw (eq-eqb _ _ none) refl
  programs_test (inr have) =
      or_true (program_count bytes == 0) programs_lie
      (and_from (not (program_count bytes == pn_xnum)) _ (rw (ne_eqb _ _ have.told) refl)
      (and_from (program_size bytes == program_header_len) _ (eq-eqb _ _ have.size) (le-leb (program_place bytes + program_count bytes * program_header_len) (length bytes) have.within)))

  abbrev sections_lie : Bool
  sections_lie = section_size bytes == section_header_len && nat_le (section_place bytes + section_count bytes * section_header_len) (length bytes)

  abbrev Sections : Type 0
  Sections = ((section_count bytes ≡ 0) × (section_place bytes ≡ 0)) ⊎ ((section_count bytes ≢ 0) × HaveSections bytes)

  sections_by : (none : Bool) → (section_count bytes == 0) ≡ none → cond none (section_place bytes == 0) sections_lie ≡ true → Sections
  sections_by true none is = inl (eqb-true _ _ none, eqb-true _ _ is)
  sections_by false some is =
      let both = and_parts (section_size bytes == section_header_len) (nat_le (section_place bytes + section_count bytes * section_header_len) (length bytes)) is in
      inr (eqb-false _ _ some, record { size = eqb-true _ _ both.0; within = leb-true (section_place bytes + section_count bytes * section_header_len) (length bytes) both.1 })

  sections_are : has_sections bytes ≡ true → Sections
  unfolding has_sections
  sections_are is = sections_by (section_count bytes == 0) refl is

  sections_test : Sections → has_sections bytes ≡ true
  unfolding has_sections
  sections_test (inl none) = rw (eq-eqb _ _ none.0) (eq-eqb _ _ none.1)
  sections_test (inr have) =
      rw (ne_eqb _ _ have.0)
      (and_from (section_size bytes == section_header_len) _ (eq-eqb _ _ have.1.size) (le-leb (section_place bytes + section_count bytes * section_header_len) (length bytes) have.1.within))

  symbols_are : has_symbols bytes ≡ true → (table : Section) → symbol_table bytes ≡ Some table → HasEntries bytes table
  unfolding has_symbols
  symbols_are is table there =
      let passes : is_symbol_table bytes table ≡ true = ap (if_there (is_symbol_table bytes)) (sym there) ∙ is in
      let both = and_parts (section_lies bytes table) (table.entry_size == symbol_len && table.size % symbol_len == 0) passes in
      let sizes = and_parts (table.entry_size == symbol_len) (table.size % symbol_len == 0) both.1 in
      record { within = leb-true (table.offset + table.size) (length bytes) both.0; entry_size = eqb-true _ _ sizes.0; whole = eqb-true _ _ sizes.1 }

  symbols_by : (o : Option Section) → ((table : Section) → o ≡ Some table → HasEntries bytes table) → if_there (is_symbol_table bytes) o ≡ true
  symbols_by None has = refl
  symbols_by (Some table) has =
      let entries = has table refl in
      and_from (section_lies bytes table) _ (le-leb (table.offset + table.size) (length bytes) entries.within)
      (and_from (table.entry_size == symbol_len) _ (eq-eqb _ _ entries.entry_size) (eq-eqb _ _ entries.whole))

  symbols_test : ((table : Section) → symbol_table bytes ≡ Some table → HasEntries bytes table) → has_symbols bytes ≡ true
  unfolding has_symbols
  symbols_test has = symbols_by (symbol_table bytes) has

  abbrev Strings : Option Section → Type 0
  Strings o = (table : Section) → o ≡ Some table → (section : Section) × (string_table bytes table ≡ Some section) × SectionLies bytes section

  there_by : (o : Option Section) → is_there (section_lies bytes) o ≡ true → (section : Section) × (o ≡ Some section) × SectionLies bytes section
  there_by None is = absurd (cc is)
  there_by (Some section) is = (section, refl, leb-true (section.offset + section.size) (length bytes) is)

  strings_are : has_strings bytes ≡ true → Strings (symbol_table bytes)
  unfolding has_strings
  strings_are is table there =
      there_by (string_table bytes table) (ap (if_there (λ t. is_there (section_lies bytes) (string_table bytes t))) (sym there) ∙ is)

  strings_by : (o : Option Section) → Strings o → if_there (λ table. is_there (section_lies bytes) (string_table bytes table)) o ≡ true
  strings_by None has = refl
  strings_by (Some table) has =
      let one = has table refl in
      ap (is_there (section_lies bytes)) one.1 ∙ le-leb (one.0.offset + one.0.size) (length bytes) one.2

  strings_test : Strings (symbol_table bytes) → has_strings bytes ≡ true
  unfolding has_strings
  strings_test has = strings_by (symbol_table bytes) has

  abbrev Names : Type 0
  Names = (index : ℕ) (symbol : SymbolEntry) → slice_get (entries bytes) index ≡ Some symbol → (name : List ℕ) × IsString (strings bytes) symbol.name name

  names_are : has_names bytes ≡ true → Names
  unfolding has_names
  names_are is index symbol there =
      (_, stands (strings bytes) symbol.name (passes_at (is_named (strings bytes)) (entries bytes) index symbol is there))

  names_test : Names → has_names bytes ≡ true
  unfolding has_names
  names_test has =
      all_pass (is_named (strings bytes)) (entries bytes)
      (λ index symbol there. let name = has index symbol there in (found (strings bytes) symbol.name name.0 name.1).0)

  -- what is refused by no check is an ELF file by the relation
  pub profile : format_test bytes ≡ None → IsElf bytes
  profile none =
      let pass = each_passes bytes checks none in
      record {
        identity = (begins (pass 0 _ refl)).0;
        magic = (begins (pass 0 _ refl)).1;
        class = (supported (pass 1 _ refl)).0;
        order = (supported (pass 1 _ refl)).1;
        head = long (pass 2 _ refl);
        program_headers = programs (pass 3 _ refl);
        sections = sections_are (pass 4 _ refl);
        own_symbols = symbols_are (pass 5 _ refl);
        own_strings = strings_are (pass 6 _ refl);
        names = names_are (pass 7 _ refl);
      }

  -- and such a file is refused by none
  pub taken : IsElf bytes → format_test bytes ≡ None
  taken is =
      rw (
        begins_test is.identity is.magic,
        supported_test is.class is.order,
        long_test is.head,
        programs_test is.program_headers,
        sections_test is.sections,
        symbols_test is.own_symbols,
        strings_test is.own_strings,
        names_test is.names,
      )
      refl

-- a file that lies there is opened where it is taken as an ELF file, and else refused
module _ (bytes read : List ℕ) (stamp : Stamp) (there : Option Entry) (is : there ≡ Some (Present stamp bytes)) (same : read ≡ bytes) where
  opened_by : opened there ≡ by_format read (format_test read)
  opened_by = ap opened (is ∙ ap (λ (b : List ℕ). Some (Present stamp b)) (sym same))

  fails : (given : Option Error) (e : Error) → IsRefusalBy given e → FailsAs (by_format read given) e
  fails given errors.OutOfMemory by = tt
  fails given errors.ReadFault by = tt
  fails given e by = ap (by_format read) by

  pub opens : (path : List ℕ) (r : Result Resolver Error) → IfOk r (λ x. x ≡ record { bytes = read; path = path }) → IfOk r (λ x. IsElf read) →
      IfErr r (IsRefusalBy (format_test read)) → GivesOrFaults (λ (x : Resolver). x.bytes) (opened there) r
  opens path (Ok x) holds formed refused = opened_by ∙ ap (by_format read) (taken read formed) ∙ ap (λ (y : Resolver). Ok y.bytes) (sym holds)
  opens path (Err e) holds formed refused = subst (λ (r : Result (List ℕ) Error). FailsAs r e) (sym opened_by) (fails (format_test read) e refused)
