use Rattle.std.proofs.Common.{refl, sym, ◌∙◌}
use Rattle.bz_elf.proofs.SymbolLemmas.{by_names}
use Rattle.bz_elf.proofs.parser.symbols.counted.Goals as goal

pub returns-then-not-branch-clause-refusal : goal.returns-then-not-branch-clause-refusal
returns-then-not-branch-clause-refusal c =
    let bytes = c.args.bytes.now in
    let same = by_names bytes c.part_of.result.now c.as_slice.result.now (c.part_of.ensures ∙ sym c.requires.strings_are.are) (c.as_slice.ensures.value ∙ c.in_ok-found.ensures.ok) in
    rw (sym same ∙ sym c.in_ok-are_named.ensures.ok ∙ c.if-not-branch.true) refl

pub returns-clause-named : goal.returns-clause-named
returns-clause-named c =
    let bytes = c.args.bytes.now in
    let same = by_names bytes c.part_of.result.now c.as_slice.result.now (c.part_of.ensures ∙ sym c.requires.strings_are.are) (c.as_slice.ensures.value ∙ c.in_ok-found.ensures.ok) in
    sym same ∙ sym c.in_ok-are_named.ensures.ok ∙ c.if-not-branch.false
