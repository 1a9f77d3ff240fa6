use Rattle.std.proofs.Common.{refl, arith}
use Rattle.bz_bytes.specs.declared.digits.TheConstants.{DIGITS}
use Rattle.bz_bytes.proofs.DigitLemmas.{agree_below, table_value}
use Rattle.bz_bytes.proofs.digits.digit.Goals as goal

pub returns : goal.returns
unfolding agree_below
returns c = table_value DIGITS c.args.byte (omega arith) refl
