use Rattle.std.proofs.lemmas.Result.{err_from_is_err_and}
use Rattle.bz_process.specs.Caches.{caches}
use Rattle.bz_process.specs.Terms.{kept_by}
use Rattle.bz_process.proofs.MappedLemmas.{asks_mapped, asks_unmapped}
use Rattle.bz_process.proofs.answering.Answerer.ask_batch.Goals as goal

-- the mappings are refused
pub returns-in_err-mapped-clause-asks : goal.returns-in_err-mapped-clause-asks
returns-in_err-mapped-clause-asks g c =
    let same = err_from_is_err_and c.from_residual.result c.from_residual.ensures.1 in
    rw (same.1, same.2) (asks_unmapped g.F.Files _ c.args.mappings.now c.args.addrs.now c.in_err-mapped.field-0.0 (kept_by c.args.elf.now c.args.self.now) c.args.files.now c.some_mappings.new.files
    (c.in_err-mapped.ensures.step _ (caches c.args.elf.now c.args.self.now.perf_maps)) c.in_err-mapped.ensures.refusal)

-- the addresses are asked by them
pub returns-clause-asks : goal.returns-clause-asks
returns-clause-asks g c =
    let step = c.in_ok-mapped.ensures.step _ (caches c.args.elf.now c.args.self.now.perf_maps) in
    let batch = rw (c.mappings.ensures, step.looked.pid) at c.answers_at.ensures in
    asks_mapped g.F.Files _ c.args.mappings.now c.args.addrs.now c.in_ok-mapped.mapped c.answers_at.result (kept_by c.args.elf.now c.args.self.now) (kept_by c.answers_at.new.elf c.answers_at.new.self)
    c.args.files.now c.some_mappings.new.files c.answers_at.new.files step c.in_ok-mapped.ensures.untold batch.asks batch.keeps
