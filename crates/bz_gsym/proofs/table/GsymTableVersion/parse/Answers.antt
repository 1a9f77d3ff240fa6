use Rattle.bz_gsym.proofs.FormatLemmas.{refused, taken}
use Rattle.bz_gsym.proofs.table.GsymTableVersion.parse.Goals as goal

pub returns-clause-formed : goal.returns-clause-formed
returns-clause-formed c = taken c.args.bytes.items c.from_bytes.result c.from_bytes.ensures.accepted

pub returns-clause-refusal : goal.returns-clause-refusal
returns-clause-refusal c = refused c.args.bytes.items c.from_bytes.result c.from_bytes.ensures.refusal
