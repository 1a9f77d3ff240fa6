use Rattle.std.proofs.Common.{sym, ap, Some, ◌∙◌, arith}
use Rattle.bz_elf.specs.Head.{section_count, section_place}
use Rattle.bz_elf.specs.Sections.{section_at, section_header_len}
use Rattle.bz_elf.specs.declared.types.Section.{Section}
use Rattle.bz_elf.proofs.PlaceLemmas.{no_record, record_there}
use Rattle.bz_elf.proofs.parser.sections.section.Goals as goal

pub returns-then-index-from : goal.returns-then-index-from
returns-then-index-from c =
    ap (λ (s : Section). Some s) c.section_of.ensures
    ∙ sym (record_there (section_at c.args.bytes.now) (section_place c.args.bytes.now) section_header_len (section_count c.args.bytes.now) c.args.index (omega arith))

pub returns-else-index-from : goal.returns-else-index-from
returns-else-index-from c =
    sym (no_record (section_at c.args.bytes.now) (section_place c.args.bytes.now) section_header_len (section_count c.args.bytes.now) c.args.index (omega arith))
