use Rattle.std.proofs.Common.{◌≡◌, rules}
use Rattle.std.proofs.lemmas.Result.{err_from_is_err_and}
use Rattle.bz_base.specs.declared.error.Error.TheVariants as errors
use Rattle.bz_cache.specs.InsertMap.{with_absent}
use Rattle.bz_process.specs.Caches.{caches}
use Rattle.bz_process.specs.Process.{pid_cmp}
use Rattle.bz_process.specs.Remembered.{Remembered}
use Rattle.bz_process.proofs.ProcessLemmas.{forgets, remembers, unfailed, unfaulted}
use Rattle.bz_process.proofs.perf_maps.PerfMaps.remember.Goals as goal

-- the status is refused
pub returns-in_err-known-clause-step : goal.returns-in_err-known-clause-step
returns-in_err-known-clause-step g c elf =
    let same = err_from_is_err_and c.from_residual.result c.from_residual.ensures.1 in
    let read = c.in_err-known.ensures in
    rw (same.1, same.2) (forgets g.F.Files c.args.pid (g.F.Files.pid c.args.files.now) c.in_err-known.field-0.0 (caches elf c.args.self.now) c.args.files.now c.read_known.new.files c.requires read.answer read.spared read.most read.files)

-- memory ran out for the share
pub returns-in_err-shared-clause-step : goal.returns-in_err-shared-clause-step
returns-in_err-shared-clause-step g c elf =
    let same = err_from_is_err_and c.from_residual-in_err-shared.result c.from_residual-in_err-shared.ensures.1 in
    let read = c.in_ok-known.ensures in
    rw (same.1, same.2, c.in_err-shared.ensures.memory) (forgets g.F.Files c.args.pid (g.F.Files.pid c.args.files.now) errors.OutOfMemory (caches elf c.args.self.now) c.args.files.now c.read_known.new.files c.requires
    (λ world seen. tt) read.spared read.most (unfailed g.F.Files c.args.pid (g.F.Files.pid c.args.files.now) _ _ read.files (unfaulted Remembered)))

-- memory ran out for the place in the map
pub returns-in_err-get_or_insert-clause-step : goal.returns-in_err-get_or_insert-clause-step
returns-in_err-get_or_insert-clause-step g c elf =
    let same = err_from_is_err_and c.from_residual-in_err-get_or_insert.result c.from_residual-in_err-get_or_insert.ensures.1 in
    let read = c.in_ok-known.ensures in
    let left : c.get_or_insert.follows.lender-at-none ≡ c.args.self.now.ids = search rules in
    rw (left, same.1, same.2, c.in_err-get_or_insert.ensures.memory) (forgets g.F.Files c.args.pid (g.F.Files.pid c.args.files.now) errors.OutOfMemory (caches elf c.args.self.now) c.args.files.now c.read_known.new.files c.requires
    (λ world seen. tt) read.spared read.most (unfailed g.F.Files c.args.pid (g.F.Files.pid c.args.files.now) _ _ read.files (unfaulted Remembered)))

-- the process is remembered
pub returns-clause-step : goal.returns-clause-step
returns-clause-step g c elf =
    let read = c.in_ok-known.ensures in
    let known = c.in_ok-known.known in
    let left : c.get_or_insert.follows.lender-at-none ≡ with_absent pid_cmp c.args.self.now.ids c.args.pid known = search rules in
    rw (left, c.in_ok-shared.ensures.known) (remembers g.F.Files c.args.pid (g.F.Files.pid c.args.files.now) known (caches elf c.args.self.now) c.args.files.now c.read_known.new.files c.requires
    read.known read.answer read.spared read.most read.files)

pub returns-clause-untold : goal.returns-clause-untold
returns-clause-untold g c = rw c.in_ok-shared.ensures.known (c.in_ok-known.ensures.untold, c.in_ok-known.ensures.known)
