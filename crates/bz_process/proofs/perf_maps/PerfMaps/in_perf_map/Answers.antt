use Rattle.bz_base.specs.Answer.{reading}
use Rattle.bz_process.specs.Caches.{caches}
use Rattle.bz_process.specs.Process.{and_then, asks_perf_map, of_perf_map, remember}
use Rattle.bz_process.specs.Untold.{as_read}
use Rattle.bz_process.proofs.ProcessLemmas.{softens}
use Rattle.bz_process.proofs.UntoldLemmas.{softened_read}
use Rattle.bz_process.proofs.perf_maps.PerfMaps.in_perf_map.Goals as goal

-- an absent file makes the address unknown
pub returns-clause-step : goal.returns-clause-step
returns-clause-step g c elf =
    let own = g.F.Files.pid c.args.files.now in
    rw c.softened.ensures
    (softens g.F.Files own (and_then (remember c.args.pid own) (λ known. of_perf_map (asks_perf_map c.args.addr) known.perf_map)) c.look_in_perf_map.result
    (caches elf c.args.self.now) (caches elf c.look_in_perf_map.new.self) c.args.files.now c.look_in_perf_map.new.files (c.look_in_perf_map.ensures.step elf))

pub returns-clause-untold : goal.returns-clause-untold
returns-clause-untold g c elf = record {
  looked = as_read reading c.look_in_perf_map.result;
  untold = c.look_in_perf_map.ensures.untold elf;
  softened = rw c.softened.ensures (softened_read c.look_in_perf_map.result);
}
