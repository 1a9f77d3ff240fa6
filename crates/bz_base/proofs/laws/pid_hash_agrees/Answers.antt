use Rattle.std.proofs.Common.{refl, ap}
use Rattle.std.specs.Int.NonZero.{non_zero_u32_get}
use Rattle.bz_base.proofs.PidLemmas.{fed_apart, ids_same}
use Rattle.bz_base.specs.declared.pid.Pid.TheVariants as pids
use Rattle.bz_base.proofs.laws.pid_hash_agrees.Goals as goal

pub returns-clause-apart : goal.returns-clause-apart
returns-clause-apart c pids.Slf pids.Slf a_fits b_fits same = refl
returns-clause-apart c pids.Slf (pids.Pid n) a_fits b_fits same = cc same
returns-clause-apart c (pids.Pid m) pids.Slf a_fits b_fits same = cc same
returns-clause-apart c (pids.Pid m) (pids.Pid n) a_fits b_fits same = ap pids.Pid (ids_same m n (fed_apart (non_zero_u32_get m) (non_zero_u32_get n) a_fits b_fits cc))
