use Rattle.std.proofs.Common.{subst}
use Rattle.bz_breakpad_table.specs.Refusals.{IsRefusal}
use Rattle.bz_breakpad_table.proofs.RefusalLaws.{refusal_found, refusal_again}
use Rattle.bz_breakpad_table.proofs.laws.refusals_are_found.Goals as goal

pub returns : goal.returns
returns c bytes why = (λ found. subst (IsRefusal bytes) found (refusal_found bytes), refusal_again bytes why)
