use Rattle.std.proofs.Common.{string_bytes}
use Rattle.bz_process.proofs.ProcessLemmas.{made}
use Rattle.bz_process.proofs.UntoldLemmas.{has_id}
use Rattle.bz_process.proofs.perf_maps.read_known.Goals as goal

-- the path is the one of the perf map
pub returns-clause-known : goal.returns-clause-known
returns-clause-known g c = made {X = g.row.F.Denot} g.F.Files c.args.pid (g.F.Files.pid c.args.files.now) c.new.result c.in_ok-id.id (string_bytes c.in_ok-path.path) c.new.ensures.known (rw c.own_pid-own.ensures at c.in_ok-path.ensures.path)

-- the id is the one that some status tells
pub returns-clause-untold : goal.returns-clause-untold
returns-clause-untold g c = has_id c.args.pid (g.F.Files.pid c.args.files.now) _ c.new.result c.new.ensures.known c.in_ok-id.ensures.untold
