use Rattle.std.proofs.Common.{sym, ◌∙◌}
use Rattle.bz_elf.proofs.SectionLemmas.{both_pass, no_table, not_symbols, not_there, nothing_asked, outside, table_lies}
use Rattle.bz_elf.proofs.parser.sections.symbols_in.Goals as goal

pub returns-in_default-clause-table : goal.returns-in_default-clause-table
returns-in_default-clause-table c = no_table c.args.bytes.now c.in_default.ensures

pub returns-in_default-clause-passed : goal.returns-in_default-clause-passed
returns-in_default-clause-passed c = nothing_asked c.args.bytes.now c.in_default.ensures

pub returns-then-not-is_symbol_table-clause-none :
    goal.returns-then-not-is_symbol_table-clause-none
returns-then-not-is_symbol_table-clause-none c =
    not_symbols c.args.bytes.now c.in-Some.table c.in-Some.ensures (sym c.is_symbol_table.ensures ∙ c.if-not-is_symbol_table.true)

pub returns-in_err-strings-clause-none : goal.returns-in_err-strings-clause-none
returns-in_err-strings-clause-none c =
    rw c.from_residual.ensures (not_there c.args.bytes.now c.in-Some.table c.in-Some.ensures c.in_err-strings.ensures)

pub returns-then-not-section_lies-clause-none : goal.returns-then-not-section_lies-clause-none
returns-then-not-section_lies-clause-none c =
    outside c.args.bytes.now c.in-Some.table c.in-Some.ensures c.in_ok-strings.strings c.in_ok-strings.ensures (sym c.section_lies.ensures ∙ c.if-not-section_lies.true)

pub returns-clause-table : goal.returns-clause-table
returns-clause-table c =
    table_lies c.args.bytes.now c.in-Some.table c.in-Some.ensures c.in_ok-strings.strings c.in_ok-strings.ensures
    (sym c.is_symbol_table.ensures ∙ c.if-not-is_symbol_table.false) (sym c.section_lies.ensures ∙ c.if-not-section_lies.false)

pub returns-clause-passed : goal.returns-clause-passed
returns-clause-passed c =
    both_pass c.args.bytes.now c.in-Some.table c.in-Some.ensures c.in_ok-strings.strings c.in_ok-strings.ensures
    (sym c.is_symbol_table.ensures ∙ c.if-not-is_symbol_table.false) (sym c.section_lies.ensures ∙ c.if-not-section_lies.false)
