use Rattle.std.proofs.Common.{◌<◌, option_map, length, sym, ap, ◌∙◌, arith}
use Rattle.std.proofs.lemmas.Bool.{eqb-false}
use Rattle.bz_base.specs.Nearest.{IsTable}
use Rattle.bz_elf.specs.Parts.{bytes_at}
use Rattle.bz_elf.specs.Symbols.{entries, is_named}
use Rattle.bz_elf.specs.declared.types.SymbolEntry.{SymbolEntry}
use Rattle.bz_elf.proofs.AnswerLemmas.{known, named, never_descends, unknown}
use Rattle.bz_elf.proofs.file.ElfFile.symbol.Goals as goal

pub covering_in-requires : goal.covering_in-requires
covering_in-requires c =
    let kept = c.self.inside.kept in
    rw c.as_slice.ensures.value (never_descends c.self.inside.bytes.items kept c.self.invariant (option_map (λ n. n.now) c.args.module_name) c.args.addr)

pub returns-in_default-clause-answer : goal.returns-in_default-clause-answer
returns-in_default-clause-answer c =
    let bytes = c.self.inside.bytes.items in
    let kept = c.self.inside.kept in
    let some : 0 < length kept.symbols.items = omega (arith, eqb-false _ _ (sym c.if-is_empty.ensures), c.as_slice.ensures.len, ap length c.as_slice.ensures.value) in
    let table : IsTable (λ (s : SymbolEntry). s.start) (λ s. s.size) (entries bytes) c.as_slice.result.now = rw c.as_slice.ensures.value c.self.invariant.symbols_are in
    rw (← c.self.view_is)
    (sym (unknown bytes kept c.self.invariant (option_map (λ n. n.now) c.args.module_name) c.args.addr some (c.in_default.ensures.covering (entries bytes) table)))

pub name_of-requires : goal.name_of-requires
name_of-requires c =
    let bytes = c.self.inside.bytes.items in
    let kept = c.self.inside.kept in
    let table : IsTable (λ (s : SymbolEntry). s.start) (λ s. s.size) (entries bytes) c.as_slice.result.now = rw c.as_slice.ensures.value c.self.invariant.symbols_are in
    let own = c.part_of-strings.ensures ∙ ap (λ l. bytes_at l kept.strings.offset kept.strings.size) c.as_slice-2.ensures.value ∙ sym c.self.invariant.strings_are.are in
    ap (λ l. is_named l c.in-Some.symbol.now) own
    ∙ named bytes kept c.self.invariant (option_map (λ n. n.now) c.args.module_name) c.args.addr c.in-Some.symbol.now (c.in-Some.ensures.covering (entries bytes) table)

pub returns-clause-answer : goal.returns-clause-answer
returns-clause-answer c =
    let bytes = c.self.inside.bytes.items in
    let kept = c.self.inside.kept in
    let some : 0 < length kept.symbols.items = omega (arith, eqb-false _ _ (sym c.if-is_empty.ensures), c.as_slice.ensures.len, ap length c.as_slice.ensures.value) in
    let table : IsTable (λ (s : SymbolEntry). s.start) (λ s. s.size) (entries bytes) c.as_slice.result.now = rw c.as_slice.ensures.value c.self.invariant.symbols_are in
    let own = c.part_of-strings.ensures ∙ ap (λ l. bytes_at l kept.strings.offset kept.strings.size) c.as_slice-2.ensures.value ∙ sym c.self.invariant.strings_are.are in
    rw (← c.self.view_is, c.new.ensures.items, c.name_of.ensures, own, c.told_size.ensures)
    (sym (known bytes kept c.self.invariant (option_map (λ n. n.now) c.args.module_name) c.args.addr some c.in-Some.symbol.now (c.in-Some.ensures.covering (entries bytes) table)))
