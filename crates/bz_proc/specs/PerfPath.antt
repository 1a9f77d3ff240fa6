-- Where the perf map of a process lies: as jit-interface.txt of Linux's perf has it, in `/tmp` as the
-- process sees it (proc_pid_root(5)), named after the id by which it knows itself.
use Rattle.std.specs.Prelude.{ℕ, false, List, ◌++◌, codes}
use Rattle.std.specs.Fmt.{digits}
use Rattle.bz_base.specs.Pid.{resolved}
use Rattle.bz_base.specs.declared.pid.Pid.{Pid}

-- the path of the perf map of a process that knows itself by this id
abbrev pub perf_map_path : Pid → ℕ → ℕ → List ℕ
perf_map_path pid own id = codes "/proc/" ++ (digits 10 false (resolved pid own) ++ (codes "/root/tmp/perf-" ++ (digits 10 false id ++ codes ".map")))
