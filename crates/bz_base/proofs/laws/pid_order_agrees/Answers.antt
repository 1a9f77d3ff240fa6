use Rattle.std.proofs.Common.{rules, ap}
use Rattle.bz_base.specs.Pid.{number_of}
use Rattle.bz_base.specs.declared.pid.Pid.TheVariants as pids
use Rattle.bz_base.proofs.PidLemmas.{ids_same, pids_same}
use Rattle.bz_base.proofs.laws.pid_order_agrees.Goals as goal

pub returns-clause-equal : goal.returns-clause-equal
returns-clause-equal c pids.Slf pids.Slf = search rules
returns-clause-equal c pids.Slf (pids.Pid n) = search rules
returns-clause-equal c (pids.Pid m) pids.Slf = search rules
returns-clause-equal c (pids.Pid m) (pids.Pid n) = search (ids_same m n, rules)

pub returns-clause-numbers : goal.returns-clause-numbers
returns-clause-numbers c a b = (pids_same a b, λ same. ap number_of same)

pub returns-clause-tie : goal.returns-clause-tie
returns-clause-tie c pids.Slf pids.Slf = search rules
returns-clause-tie c pids.Slf (pids.Pid n) = search rules
returns-clause-tie c (pids.Pid m) pids.Slf = search rules
returns-clause-tie c (pids.Pid m) (pids.Pid n) = search (ids_same m n, rules)
