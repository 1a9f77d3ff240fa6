use Rattle.std.proofs.Common.{map, string_bytes}
use Rattle.clap.specs.Words.{app_of}
use Rattle.bz_words.proofs.ProgramLemmas.{no_faults, fault_kind, has_fault}
use Rattle.bz_words.proofs.faulty.complaint.Goals as goal

-- `clap` takes words without a fault
pub returns-in-Ok-clause-none : goal.returns-in-Ok-clause-none
returns-in-Ok-clause-none c = no_faults (app_of c.in_ok-program.program) c.in_ok-program.ensures (map string_bytes c.args.words.now) c.in-Ok.ensures.kinds

-- and it complains of a fault alone
pub returns-clause-some : goal.returns-clause-some
returns-clause-some c =
    has_fault _ c.in-Err.error
    (fault_kind (app_of c.in_ok-program.program) c.in_ok-program.ensures (map string_bytes c.args.words.now) c.in-Err.error c.in-Err.ensures.kinds)
    c.in_ok-said-in-Err.ensures
