use Rattle.std.proofs.lemmas.Result.{err_from_is_err_and}
use Rattle.bz_process.specs.Caches.{caches}
use Rattle.bz_process.specs.Terms.{kept_by}
use Rattle.bz_process.proofs.MappedLemmas.{asks_mapped_at, asks_unmapped_at}
use Rattle.bz_process.proofs.answering.Answerer.ask_single.Goals as goal

-- the mappings are refused
pub returns-in_err-mapped-clause-asks : goal.returns-in_err-mapped-clause-asks
returns-in_err-mapped-clause-asks g c =
    let same = err_from_is_err_and c.from_residual.result c.from_residual.ensures.1 in
    rw (same.1, same.2) (asks_unmapped_at g.F.Files _ c.args.mappings.now c.args.addr c.in_err-mapped.field-0.0 (kept_by c.args.elf.now c.args.self.now) c.args.files.now c.some_mappings.new.files
    (c.in_err-mapped.ensures.step _ (caches c.args.elf.now c.args.self.now.perf_maps)) c.in_err-mapped.ensures.refusal)

-- the address is asked by them
pub returns-clause-asks : goal.returns-clause-asks
returns-clause-asks g c =
    let step = c.in_ok-mapped.ensures.step _ (caches c.args.elf.now c.args.self.now.perf_maps) in
    let one = rw (c.mappings.ensures, step.looked.pid) at c.answer_at.ensures in
    asks_mapped_at g.F.Files _ c.args.mappings.now c.args.addr c.in_ok-mapped.mapped c.answer_at.result (kept_by c.args.elf.now c.args.self.now) (kept_by c.answer_at.new.elf c.answer_at.new.self)
    c.args.files.now c.some_mappings.new.files c.answer_at.new.files step c.in_ok-mapped.ensures.untold one.asks one.keeps one.adds
