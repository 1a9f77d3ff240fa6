use Rattle.std.proofs.Common.{Ok, Err, refl, ap, ◌∙◌}
use Rattle.std.proofs.lemmas.Result.{err_from_is_err_and}
use Rattle.bz_files.specs.World.{in_view}
use Rattle.bz_process.specs.Caches.{ProcessCaches, caches}
use Rattle.bz_process.specs.Caching.{pins_perf_map}
use Rattle.bz_process.specs.Process.{remember}
use Rattle.bz_process.specs.Remembered.{Remembered}
use Rattle.bz_process.proofs.CachingLemmas.{lacks_read, pins_known, whole_next, whole_refused}
use Rattle.bz_process.proofs.KeptLemmas.{stays_before}
use Rattle.bz_process.proofs.perf_maps.PerfMaps.pin.Goals as goal

-- the status is refused
pub returns-in_err-known-clause-step : goal.returns-in_err-known-clause-step
returns-in_err-known-clause-step g c elf =
    let own = g.F.Files.pid c.args.files.now in
    let same = err_from_is_err_and c.from_residual.result c.from_residual.ensures.1 in
    let step = rw c.remembers-remembered.ensures.same at (c.in_err-known.ensures.step elf) in
    rw (same.1, same.2)
    (whole_refused g.F.Files own (λ (k : Remembered). k) (remember c.args.pid own) (λ (k : Remembered). pins_perf_map k.perf_map) c.in_err-known.field-0.0
    (caches elf c.args.self.now) (caches elf c.known.new.self) c.args.files.now c.known.new.files (ap (caches elf) (c.in_err-known.ensures.err ∙ c.remembers-remembered.ensures.same)) step)

-- the perf map is pinned
pub returns-in-Ok-clause-step : goal.returns-in-Ok-clause-step
returns-in-Ok-clause-step g c elf =
    let own = g.F.Files.pid c.args.files.now in
    let step = rw c.remembers-remembered.ensures.same at (c.in_ok-known.ensures.step elf) in
    let pin = rw c.perf_map.ensures at (c.in-Ok.ensures.step own (caches elf c.known.new.self)) in
    whole_next g.F.Files own (λ (k : Remembered). k) (remember c.args.pid own) (λ (k : Remembered). pins_perf_map k.perf_map) c.in_ok-known.known (Ok tt)
    (caches elf c.args.self.now) (caches elf c.known.new.self) (record { elf = elf; perf_maps = c.pin_perf_map.new.cache; ids = c.known.new.self.ids }) _
    c.args.files.now c.known.new.files c.pin_perf_map.new.files step pin refl tt

-- it is refused, and what was remembered is remembered
pub returns-clause-step : goal.returns-clause-step
returns-clause-step g c elf =
    let own = g.F.Files.pid c.args.files.now in
    let step = rw c.remembers-remembered.ensures.same at (c.in_ok-known.ensures.step elf) in
    let noted = rw c.remembers-remembered.ensures.same at c.in_ok-known.ensures.ok in
    let pin = rw c.perf_map.ensures at (c.in-Err.ensures.step own (caches elf c.known.new.self)) in
    whole_next g.F.Files own (λ (k : Remembered). k) (remember c.args.pid own) (λ (k : Remembered). pins_perf_map k.perf_map) c.in_ok-known.known (Err c.in-Err.error)
    (caches elf c.args.self.now) (caches elf c.known.new.self) (record { elf = elf; perf_maps = c.pin_perf_map.new.cache; ids = c.known.new.self.ids }) _
    c.args.files.now c.known.new.files c.pin_perf_map.new.files step pin tt
    (stays_before elf c.args.self.now c.args.pid c.in_ok-known.known c.take_back.new.self.files c.known.new.self c.take_back.new.self.ids c.remembers-remembered.result noted c.remembers-remembered.ensures.known
    (c.take_back.ensures.files ∙ ap (λ (k : ProcessCaches). k.perf_maps) pin.err) c.take_back.ensures.ids)

-- the same where files tell nothing
pub returns-in-Ok-clause-pinned : goal.returns-in-Ok-clause-pinned
returns-in-Ok-clause-pinned g c elf =
    let own = g.F.Files.pid c.args.files.now in
    let is_known = rw c.remembers-remembered.ensures.same at c.in_ok-known.ensures.untold in
    let noted = rw c.remembers-remembered.ensures.same at c.in_ok-known.ensures.ok in
    let left = rw c.perf_map.ensures at c.in-Ok.ensures.left in
    pins_known c.args.pid own (in_view (g.F.Files.worlds c.args.files.now)) (in_view (g.F.Files.worlds c.known.new.files)) c.in_ok-known.known (caches elf c.args.self.now) (caches elf c.known.new.self) c.pin_perf_map.new.cache
    is_known (ap (caches elf) noted) (ap in_view (c.in_ok-known.ensures.step elf).looked.worlds) left

-- the status is refused by one of these
pub returns-in_err-known-clause-refusal : goal.returns-in_err-known-clause-refusal
returns-in_err-known-clause-refusal g c =
    let same = err_from_is_err_and c.from_residual.result c.from_residual.ensures.1 in
    rw (same.1, same.2) (lacks_read _ c.in_err-known.field-0.0 c.in_err-known.ensures.refusal)
