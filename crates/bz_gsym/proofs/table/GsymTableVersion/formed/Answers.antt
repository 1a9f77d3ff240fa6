use Rattle.bz_gsym.proofs.FormatLemmas.{in_format}
use Rattle.bz_gsym.proofs.table.GsymTableVersion.formed.Goals as goal

pub returns : goal.returns
returns c = in_format c.args.self.now c.context-context.ensures.formed
