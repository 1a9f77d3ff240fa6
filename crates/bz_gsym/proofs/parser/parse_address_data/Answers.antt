use Rattle.bz_gsym.proofs.EntryLemmas.{few_entries}
use Rattle.bz_gsym.proofs.parser.parse_address_data.Goals as goal

pub returns-clause-few : goal.returns-clause-few
returns-clause-few c = few_entries c.args.bytes.now
