use Rattle.std.proofs.Common.{List, Ok, Err, refl, ap, ◌∙◌}
use Rattle.std.proofs.lemmas.Result.{err_from_is_err_and}
use Rattle.bz_base.specs.declared.error.Error.TheVariants as errors
use Rattle.bz_proc.specs.Maps.{Mapping}
use Rattle.bz_proc.specs.MapsFile.{maps_path, maps_told}
use Rattle.bz_process.specs.Caches.{caches}
use Rattle.bz_process.specs.Caching.{KeptMappings, caches_perf_map, with_former}
use Rattle.bz_process.specs.Mapped.{of_text}
use Rattle.bz_process.proofs.CachingLemmas.{whole_next, whole_refused, whole_wants_memory}
use Rattle.bz_process.proofs.KeptLemmas.{mappings_back}
use Rattle.bz_process.proofs.caching.cache_mapped.Goals as goal

-- the mappings are refused
pub returns-in_err-mapped-clause-step : goal.returns-in_err-mapped-clause-step
returns-in_err-mapped-clause-step g c elf =
    let own = g.F.Files.pid c.args.files.now in
    let same = err_from_is_err_and c.from_residual.result c.from_residual.ensures.1 in
    let kept = caches elf c.args.perf_maps.now in
    rw (same.1, same.2)
    (whole_refused g.F.Files own (λ (k : List Mapping). k) (of_text (maps_told c.args.request.now.pid) (maps_path c.args.request.now.pid)) (λ mappings. caches_perf_map c.args.request.now.cache_perf_map c.args.request.now.pid own)
    c.in_err-mapped.field-0.0 kept kept c.args.files.now c.read_mapped.new.files refl (c.in_err-mapped.ensures.step own kept))

-- memory ran out for their place
pub returns-in_err-former-clause-step : goal.returns-in_err-former-clause-step
returns-in_err-former-clause-step g c elf =
    let own = g.F.Files.pid c.args.files.now in
    let same = err_from_is_err_and c.from_residual-in_err-former.result c.from_residual-in_err-former.ensures.1 in
    let kept = caches elf c.args.perf_maps.now in
    rw (same.1, same.2, c.in_err-former.ensures.memory)
    (whole_next g.F.Files own (λ (k : List Mapping). k) (of_text (maps_told c.args.request.now.pid) (maps_path c.args.request.now.pid)) (λ mappings. caches_perf_map c.args.request.now.cache_perf_map c.args.request.now.pid own)
    c.in_ok-mapped.mapped (Err errors.OutOfMemory) kept kept kept kept c.args.files.now c.read_mapped.new.files c.read_mapped.new.files (c.in_ok-mapped.ensures.step own kept)
    (whole_wants_memory g.F.Files own (caches_perf_map c.args.request.now.cache_perf_map c.args.request.now.pid own) kept c.read_mapped.new.files) tt refl)

-- all is kept
pub returns-in-Ok-clause-step : goal.returns-in-Ok-clause-step
returns-in-Ok-clause-step g c elf =
    let own = g.F.Files.pid c.args.files.now in
    let kept = caches elf c.args.perf_maps.now in
    let step = c.in_ok-mapped.ensures.step own kept in
    let cached = rw step.looked.pid at (c.in-Ok.ensures.step elf) in
    whole_next g.F.Files own (λ (k : List Mapping). k) (of_text (maps_told c.args.request.now.pid) (maps_path c.args.request.now.pid)) (λ mappings. caches_perf_map c.args.request.now.cache_perf_map c.args.request.now.pid own)
    c.in_ok-mapped.mapped (Ok tt) kept kept (caches elf c.cache.new.self) (caches elf c.cache.new.self) c.args.files.now c.read_mapped.new.files c.cache.new.files step cached refl tt

pub returns-in-Ok-clause-mappings : goal.returns-in-Ok-clause-mappings
returns-in-Ok-clause-mappings g c world seen =
    let own = g.F.Files.pid c.args.files.now in
    let told = ((c.in_ok-mapped.ensures.step own (caches c.args.perf_maps.now.files c.args.perf_maps.now)).told world seen).answer in
    rw told c.in_ok-former.ensures.ok

pub returns-in-Ok-clause-untold : goal.returns-in-Ok-clause-untold
returns-in-Ok-clause-untold g c = (c.in_ok-mapped.mapped, c.in_ok-mapped.ensures.untold, c.in_ok-former.ensures.ok)

pub returns-in-Ok-clause-pinned : goal.returns-in-Ok-clause-pinned
returns-in-Ok-clause-pinned g c elf =
    let looked = (c.in_ok-mapped.ensures.step (g.F.Files.pid c.args.files.now) (caches elf c.args.perf_maps.now)).looked in
    rw (looked.pid, looked.worlds) at (c.in-Ok.ensures.pinned elf)

-- the perf map is refused, and all is put back
pub returns-in-Err-clause-step : goal.returns-in-Err-clause-step
returns-in-Err-clause-step g c elf =
    let own = g.F.Files.pid c.args.files.now in
    let kept = caches elf c.args.perf_maps.now in
    let step = c.in_ok-mapped.ensures.step own kept in
    let cached = rw step.looked.pid at (c.in-Err.ensures.step elf) in
    whole_next g.F.Files own (λ (k : List Mapping). k) (of_text (maps_told c.args.request.now.pid) (maps_path c.args.request.now.pid)) (λ mappings. caches_perf_map c.args.request.now.cache_perf_map c.args.request.now.pid own)
    c.in_ok-mapped.mapped (Err c.in-Err.error) kept kept (caches elf c.cache.new.self) (caches elf c.cache.new.self) c.args.files.now c.read_mapped.new.files c.cache.new.files step cached tt cached.err

pub returns-in-Err-clause-err : goal.returns-in-Err-clause-err
returns-in-Err-clause-err g c =
    c.put_back.ensures ∙ ap (λ (es : KeptMappings). with_former c.args.request.now.pid es c.in_ok-former.former) c.in_ok-former.ensures.ok
    ∙ mappings_back c.args.request.now.pid c.args.mappings.now c.in_ok-mapped.mapped c.in_ok-former.former c.in_ok-former.ensures.former
