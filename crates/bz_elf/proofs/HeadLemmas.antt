-- A head that passes its checks has its tables in the bytes.
use Rattle.std.proofs.Common.{◌≡◌, ℕ, ◌+◌, ◌*◌, ◌<◌, ◌≤◌, true, false, List, length, arith}
use Rattle.std.specs.Prelude.{◌==◌, not}
use Rattle.std.proofs.lemmas.Bool.{and_parts, leb-true, ne_eqb}
use Rattle.bz_elf.specs.Checks.{has_head, has_program_headers, has_sections, pn_xnum}
use Rattle.bz_elf.specs.Head.{head_len, program_count, program_place, program_size, section_count, section_place, section_size}
use Rattle.bz_elf.specs.Kept.{TablesLie}
use Rattle.bz_elf.specs.Sections.{section_header_len}
use Rattle.bz_elf.specs.Segments.{program_header_len}

module _ (bytes : List ℕ) where
  head_within : has_head bytes ≡ true → head_len ≤ length bytes
  unfolding has_head
  head_within has = leb-true head_len (length bytes) has

  programs_within : has_program_headers bytes ≡ true → 0 < program_count bytes → program_place bytes + program_count bytes * program_header_len ≤ length bytes
  unfolding has_program_headers
  programs_within has some =
      let other : (program_count bytes == 0) ≡ false = ne_eqb _ _ (λ none. absurd (omega (arith, none))) in
      let told = and_parts (not (program_count bytes == pn_xnum)) _ (rw other at has) in
      let both = and_parts (program_size bytes == program_header_len) _ told.1 in
      leb-true (program_place bytes + program_count bytes * program_header_len) (length bytes) both.1

  sections_within : has_sections bytes ≡ true → 0 < section_count bytes → section_place bytes + section_count bytes * section_header_len ≤ length bytes
  unfolding has_sections
  sections_within has some =
      let other : (section_count bytes == 0) ≡ false = ne_eqb _ _ (λ none. absurd (omega (arith, none))) in
      let both = and_parts (section_size bytes == section_header_len) _ (rw other at has) in
      leb-true (section_place bytes + section_count bytes * section_header_len) (length bytes) both.1

  pub tables_lie : has_head bytes ≡ true → has_program_headers bytes ≡ true → has_sections bytes ≡ true → TablesLie bytes
  tables_lie head programs sections = record {
    head = head_within head;
    program_headers = programs_within programs;
    section_headers = sections_within sections;
  }
