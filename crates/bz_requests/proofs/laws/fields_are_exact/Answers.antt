use Rattle.std.proofs.Common.{subst}
use Rattle.bz_requests.specs.Fields.{AreFields}
use Rattle.bz_requests.proofs.FieldLemmas.{are_fields, fields_are}
use Rattle.bz_requests.proofs.laws.fields_are_exact.Goals as goal

pub returns : goal.returns
returns c = λ text all. ((λ cut. subst (AreFields text) cut (are_fields text)), fields_are text all)
