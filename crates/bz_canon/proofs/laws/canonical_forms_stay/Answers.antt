use Rattle.std.proofs.Common.{ap}
use Rattle.bz_breakpad_lines.specs.Printed.{printed}
use Rattle.bz_canon.proofs.CanonLaws.{canon_again}
use Rattle.bz_canon.proofs.laws.canonical_forms_stay.Goals as goal

pub returns : goal.returns
returns c = record { form = canon_again; text = λ table. ap printed (canon_again table) }
