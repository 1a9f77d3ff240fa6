-- What a symbolizer may be asked to keep, and to forget, as plain data: a text by its bytes, whoever
-- owns it.
use Rattle.std.specs.Prelude.{ℕ, List, string_bytes}
use Rattle.bz_base.specs.declared.pid.Pid.{Pid}
use Rattle.bz_process.specs.declared.caching.ProcessCaching.{ProcessCaching}
use Rattle.bz_symbolize.specs.declared.cache.Cache.{Cache}
use Rattle.bz_symbolize.specs.declared.cache.Cache.TheVariants as caches
use Rattle.bz_symbolize.specs.declared.cache.Process.{Process}
use Rattle.bz_symbolize.specs.declared.evict.Evict.{Evict}
use Rattle.bz_symbolize.specs.declared.evict.Evict.TheVariants as evicts

-- what may be kept ahead of addresses
pub data ToCache : Type 0 where
  CacheElf : List ℕ → ToCache  -- the ELF file at a path
  CacheProcess : ProcessCaching → ToCache  -- of a process, its mappings, id and perf map

-- what of a process is asked for
abbrev pub process_caching : Process → ProcessCaching
process_caching request = record { pid = request.pid; cache_vmas = request.cache_vmas; cache_perf_map = request.cache_perf_map }

abbrev pub cache_read : Cache → ToCache
cache_read (caches.Elf request) = CacheElf (string_bytes request.path)
cache_read (caches.Process request) = CacheProcess (process_caching request)

-- what may be forgotten
pub data ToEvict : Type 0 where
  EvictElf : List ℕ → ToEvict  -- the ELF file at a path
  EvictProcess : Pid → ToEvict  -- a process

abbrev pub evict_read : Evict → ToEvict
evict_read (evicts.Elf request) = EvictElf (string_bytes request.path)
evict_read (evicts.Process request) = EvictProcess request.pid
