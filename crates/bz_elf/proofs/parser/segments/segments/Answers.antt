use Rattle.std.proofs.Common.{◌++◌, sym, ap, ◌∙◌, arith}
use Rattle.bz_elf.specs.Head.{program_count, program_place}
use Rattle.bz_elf.specs.Segments.{loaded_at, program_header_len, segments}
use Rattle.bz_elf.proofs.PlaceLemmas.{all_picked, none_more, one_more, picked_after}
use Rattle.bz_elf.proofs.parser.segments.segments.Goals as goal

pub loop-index-preserved-in_default : goal.loop-index-preserved-in_default
loop-index-preserved-in_default c =
    let bytes = c.args.bytes.now in
    none_more (loaded_at bytes) (program_place bytes) program_header_len c.loop-index.index (program_count bytes)
    c.loop-index.found.items (segments bytes) c.loop-index.invariant (omega arith) (sym c.in_default.ensures)

pub loop-index-preserved : goal.loop-index-preserved
loop-index-preserved c =
    let bytes = c.args.bytes.now in
    ap (λ l. l ++ picked_after (loaded_at bytes) (program_place bytes) program_header_len c.loop-index.index (program_count bytes)) c.in_ok-push.ensures.items
    ∙ one_more (loaded_at bytes) (program_place bytes) program_header_len c.loop-index.index (program_count bytes)
    c.loop-index.found.items (segments bytes) c.loop-index.invariant (omega arith) c.in-Some.segment (sym c.in-Some.ensures)

pub returns-clause-ok : goal.returns-clause-ok
returns-clause-ok c =
    let bytes = c.args.bytes.now in
    all_picked (loaded_at bytes) (program_place bytes) program_header_len c.loop-index.index (program_count bytes) c.loop-index.found.items (segments bytes) c.loop-index.invariant (omega arith)
