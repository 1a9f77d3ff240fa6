use Rattle.std.proofs.Common.{inr, refl, ap}
use Rattle.std.proofs.lemmas.Result.{err_from_is_err_and}
use Rattle.bz_base.specs.Answer.{reading}
use Rattle.bz_process.specs.Caches.{caches}
use Rattle.bz_process.specs.Process.{asks_perf_map, of_perf_map, remember}
use Rattle.bz_process.specs.Remembered.{Remembered}
use Rattle.bz_process.proofs.ProcessLemmas.{in_order, looks_at_perf_map, refused}
use Rattle.bz_process.proofs.UntoldLemmas.{by_known}
use Rattle.bz_process.proofs.perf_maps.PerfMaps.look_in_perf_map.Goals as goal

-- the status is refused
pub returns-in_err-known-clause-step : goal.returns-in_err-known-clause-step
returns-in_err-known-clause-step g c elf =
    let own = g.F.Files.pid c.args.files.now in
    let same = err_from_is_err_and c.from_residual.result c.from_residual.ensures.1 in
    rw (same.1, same.2)
    (refused g.F.Files own (λ (k : Remembered). k) reading (remember c.args.pid own) (λ k. of_perf_map (asks_perf_map c.args.addr) k.perf_map)
    c.in_err-known.field-0.0 (caches elf c.args.self.now) (caches elf c.known.new.self) c.args.files.now c.known.new.files (c.in_err-known.ensures.step elf))

-- the perf map is looked at by what is remembered
pub returns-clause-step : goal.returns-clause-step
returns-clause-step g c elf =
    let own = g.F.Files.pid c.args.files.now in
    let known = c.in_ok-known.known in
    let called = rw c.perf_map.ensures at c.perf_map_answer.ensures in
    in_order g.F.Files own (λ (k : Remembered). k) reading (remember c.args.pid own) (λ k. of_perf_map (asks_perf_map c.args.addr) k.perf_map)
    known c.perf_map_answer.result (caches elf c.args.self.now) (caches elf c.known.new.self) _ c.args.files.now c.known.new.files c.perf_map_answer.new.files
    (c.in_ok-known.ensures.step elf)
    (looks_at_perf_map g.F.Files own reading _ known.perf_map c.perf_map_answer.result (caches elf c.known.new.self) c.perf_map_answer.new.cache c.known.new.files c.perf_map_answer.new.files called)

-- the same where files tell nothing
pub returns-in_err-known-clause-untold : goal.returns-in_err-known-clause-untold
returns-in_err-known-clause-untold g c elf =
    let same = err_from_is_err_and c.from_residual.result c.from_residual.ensures.1 in
    rw (same.1, same.2) (inr (record { refused = refl; refusal = c.in_err-known.ensures.refusal; unchanged = ap (caches elf) c.in_err-known.ensures.err }))

pub returns-clause-untold : goal.returns-clause-untold
returns-clause-untold g c elf =
    let called = rw c.perf_map.ensures at c.perf_map_answer.ensures in
    by_known c.args.pid (g.F.Files.pid c.args.files.now) c.args.addr c.perf_map_answer.result c.in_ok-known.known (caches elf c.args.self.now) (caches elf c.known.new.self) c.perf_map_answer.new.cache
    c.in_ok-known.ensures.untold (ap (caches elf) c.in_ok-known.ensures.ok) called.untold
