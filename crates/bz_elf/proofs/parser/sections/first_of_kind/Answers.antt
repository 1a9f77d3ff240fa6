use Rattle.std.proofs.Common.{sym, ap, Some, ◌∙◌, arith}
use Rattle.std.proofs.lemmas.Bool.{eq-eqb, ne_eqb}
use Rattle.bz_elf.specs.Head.{section_count, section_place}
use Rattle.bz_elf.specs.Sections.{is_kind, section_at, section_header_len}
use Rattle.bz_elf.specs.declared.types.Section.{Section}
use Rattle.bz_elf.proofs.PlaceLemmas.{found_here, found_later}
use Rattle.bz_elf.proofs.parser.sections.first_of_kind.Goals as goal

pub returns-then-section-kind : goal.returns-then-section-kind
returns-then-section-kind c =
    let bytes = c.args.bytes.now in
    let here = c.section_of-section.ensures in
    let passes = ap (is_kind c.args.kind) (sym here) ∙ eq-eqb _ _ c.if-section-kind.true in
    ap (λ (s : Section). Some s) here
    ∙ sym (found_here (section_at bytes) (section_place bytes) section_header_len (is_kind c.args.kind) c.loop-index.index (section_count bytes) (omega arith) passes)
    ∙ c.loop-index.invariant

pub loop-index-preserved : goal.loop-index-preserved
loop-index-preserved c =
    let bytes = c.args.bytes.now in
    let fails = ap (is_kind c.args.kind) (sym c.section_of-section.ensures) ∙ ne_eqb _ _ c.if-section-kind.false in
    sym (found_later (section_at bytes) (section_place bytes) section_header_len (is_kind c.args.kind) c.loop-index.index (section_count bytes) (omega arith) fails)
    ∙ c.loop-index.invariant
