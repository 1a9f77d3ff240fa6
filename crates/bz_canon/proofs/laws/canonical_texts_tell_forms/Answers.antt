use Rattle.bz_breakpad_lines.proofs.PrintableLaws.{accepted_printable}
use Rattle.bz_canon.proofs.CanonLaws.{texts_tell}
use Rattle.bz_canon.proofs.laws.canonical_texts_tell_forms.Goals as goal

pub returns : goal.returns
returns c = λ x y a b is also. texts_tell a b (accepted_printable x a is.0 is.1) (accepted_printable y b also.0 also.1)
