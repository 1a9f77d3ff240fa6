-- Processes as callers name them.
use Rattle.std.specs.Prelude.{ℕ, false, List, codes}
use Rattle.std.specs.Fmt.{digits}
use Rattle.std.specs.Int.NonZero.{non_zero_u32_get}
use Rattle.std.specs.Ordering.{nat_cmp}
use Rattle.std.specs.declared.cmp.Ordering.{Ordering}
use Rattle.bz_base.specs.declared.pid.Pid.{Pid}
use Rattle.bz_base.specs.declared.pid.Pid.TheVariants as pids

-- the text of a process: `self`, or its id
abbrev pub pid_text : Pid → List ℕ
pid_text pids.Slf = codes "self"
pid_text (pids.Pid id) = digits 10 false (non_zero_u32_get id)

-- the id of a process, where the own one has this id
abbrev pub resolved : Pid → ℕ → ℕ
resolved pids.Slf own = own
resolved (pids.Pid id) own = non_zero_u32_get id

-- the number that a process is made from: 0 for the own one, else its id
abbrev pub number_of : Pid → ℕ
number_of pid = resolved pid 0

-- the own process comes first, and the others go by their ids
abbrev pub pid_order : Pid → Pid → Ordering
pid_order a b = nat_cmp (number_of a) (number_of b)
