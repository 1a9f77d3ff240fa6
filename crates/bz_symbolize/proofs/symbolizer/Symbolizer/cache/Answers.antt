use Rattle.std.proofs.Common.{◌≡◌, true, ◌∙◌, rules}
use Rattle.bz_cache.specs.Cache.{new_cache}
use Rattle.bz_symbolize.specs.Requests.{CacheElf, CacheProcess, cache_read}
use Rattle.bz_symbolize.proofs.CachingLemmas.{elf_cached, process_cached}
use Rattle.bz_symbolize.proofs.symbolizer.Symbolizer.cache.Goals as goal

-- perf maps are looked at anew as before
pub invariant_of-self-in-Process : goal.invariant_of-self-in-Process
invariant_of-self-in-Process g c = (c.cache.ensures.step (new_cache true)).perf_maps.reload ∙ c.self.invariant

-- an ELF file is pinned
pub returns-in-Elf : goal.returns-in-Elf
returns-in-Elf g c =
    let is : cache_read c.args.cache.now ≡ CacheElf c.as_str.result.now = search rules in
    rw (← c.self.view_is)
    (rw is
    (elf_cached g.F.Files c.as_str.result.now c.self.inside.files c.pin_elf.new.self c.self.inside.processes c.args.files.now c.pin_elf.new.files c.pin_elf.result c.pin_elf.ensures.rest c.pin_elf.ensures.found c.pin_elf.ensures.pins))

-- what answers for a process is kept
pub returns-in-Process : goal.returns-in-Process
returns-in-Process g c =
    let is : cache_read c.args.cache.now ≡ CacheProcess c.caching-request.result = search rules in
    rw (← c.self.view_is)
    (rw is
    (process_cached g.F.Files c.caching-request.result c.self.inside.files c.self.inside.processes c.cache.new.self c.args.files.now c.cache.new.files c.cache.result c.cache.ensures))
