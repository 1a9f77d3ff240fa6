use Rattle.bz_bytes.proofs.NumberLemmas.{hex_fits}
use Rattle.bz_bytes.proofs.digits.read_hex.Goals as goal

pub digits_at-requires-clause-fits : goal.digits_at-requires-clause-fits
digits_at-requires-clause-fits c = hex_fits c.args.most c.requires
