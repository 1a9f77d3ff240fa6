use Rattle.std.proofs.Common.{map, string_bytes}
use Rattle.clap.specs.Words.{app_of}
use Rattle.bz_words.proofs.ProgramLemmas.{matches_are, no_faults, fault_kind, taken_too, has_fault}
use Rattle.bz_words.proofs.words.matches.Goals as goal

pub returns-in-Ok-clause-ok : goal.returns-in-Ok-clause-ok
returns-in-Ok-clause-ok c = matches_are (app_of c.in_ok-program.program) c.in_ok-program.ensures (map string_bytes c.args.words.now) c.in-Ok.matches c.in-Ok.ensures.matches

pub returns-in-Ok-clause-faultless : goal.returns-in-Ok-clause-faultless
returns-in-Ok-clause-faultless c = no_faults (app_of c.in_ok-program.program) c.in_ok-program.ensures (map string_bytes c.args.words.now) c.in-Ok.ensures.kinds

pub returns-in-Err-clause-usage : goal.returns-in-Err-clause-usage
returns-in-Err-clause-usage c usage none =
    has_fault _ c.in-Err.error (fault_kind (app_of c.in_ok-program.program) c.in_ok-program.ensures (map string_bytes c.args.words.now) c.in-Err.error c.in-Err.ensures.kinds)
    (c.refusal.ensures.usage usage) none

pub returns-in-Err-clause-taken : goal.returns-in-Err-clause-taken
returns-in-Err-clause-taken c usage taken =
    c.refusal.ensures.usage usage (c.in-Err.ensures.passes (taken_too (app_of c.in_ok-program.program) c.in_ok-program.ensures (map string_bytes c.args.words.now) taken))
