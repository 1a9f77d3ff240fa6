use Rattle.bz_requests.proofs.ReadingLemmas.{other_again}
use Rattle.bz_requests.proofs.reading.other.Goals as goal

pub returns-in-len1-up : goal.returns-in-len1-up
returns-in-len1-up c = other_again c.args.kind.now c.args.fields.now _ c.batch.result c.in-len1-up.len_at_least c.batch.ensures
