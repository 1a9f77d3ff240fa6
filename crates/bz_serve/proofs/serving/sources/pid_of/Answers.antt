use Rattle.bz_symq.proofs.ProcessLemmas.{process_named}
use Rattle.bz_serve.proofs.serving.sources.pid_of.Goals as goal

-- two processes that are made from the same number are the same
pub returns : goal.returns
returns c = process_named c.args.number c.from.result c.from.ensures
