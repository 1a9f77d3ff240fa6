-- How a process is asked.
use Rattle.std.specs.Prelude.{ℕ, Bool}
use Rattle.bz_base.specs.declared.pid.Pid.{Pid}
use Rattle.bz_process.specs.declared.query.ProcessQuery.{ProcessQuery}

-- which process is asked, and the id of the own one. `perf_map`: its perf map answers for addresses of
-- mappings without a name. `map_files`: mapped files are looked at by the paths that stand for their
-- mappings
pub record Asked : Type 0 where
  pub pid : Pid
  pub own : ℕ
  pub perf_map : Bool
  pub map_files : Bool

-- what a query asks, where the own process has this id
abbrev pub asked_of : ℕ → ProcessQuery → Asked
asked_of own query = record { pid = query.pid; own = own; perf_map = query.perf_map; map_files = query.map_files }
