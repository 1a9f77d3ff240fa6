use Rattle.std.proofs.Common.{None}
use Rattle.bz_symq.specs.Kept.{new_kept, settings_of}
use Rattle.bz_symq.specs.Processes.{asked_by, nothing_kept}
use Rattle.bz_serve.specs.RequestRuns.{turns}
use Rattle.bz_serve.proofs.RequestBoundLemmas.{batch_bounded, caching_bounded, request_bounded, run_bounded}
use Rattle.bz_serve.proofs.laws.requests_read_few.Goals as goal

pub returns : goal.returns
returns c = record {
  request = λ map_files own request kept world. request_bounded map_files own request kept world;
  run = λ config requests worlds own. run_bounded config.map_files own (turns requests worlds) (new_kept (settings_of config));
  batch = λ config number own addrs world. batch_bounded (asked_by config number own) world (nothing_kept config) None addrs;
  caching = λ asked world kept. caching_bounded asked world kept;
}
