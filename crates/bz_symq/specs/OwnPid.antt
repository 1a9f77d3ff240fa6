-- The id of the own process, as proc_pid_stat(5) of the Linux manual pages has it: the first
-- field of `/proc/self/stat`.
use Rattle.std.specs.Prelude.{ℕ, List, Option, Some, None}
use Rattle.bz_base.specs.Number.{decimal_at}

-- the greatest id of a process
abbrev pub greatest_id : ℕ
greatest_id = 4294967295

-- the number that was read, or 0
abbrev pub number_or_none : Option (ℕ × List ℕ) → ℕ
number_or_none None = 0
number_or_none (Some read) = read.0

-- the id that begins the text: one to ten decimal digits; 0 where it begins with none
abbrev pub own_pid_in : List ℕ → ℕ
own_pid_in stat = number_or_none (decimal_at 10 greatest_id stat)
