use Rattle.bz_bytes.proofs.NumberLemmas.{decimal_fits}
use Rattle.bz_bytes.proofs.digits.read_decimal.Goals as goal

pub digits_at-requires-clause-fits : goal.digits_at-requires-clause-fits
digits_at-requires-clause-fits c = decimal_fits c.args.most c.requires
