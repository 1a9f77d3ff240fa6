use Rattle.bz_symbolize.proofs.HistoryLemmas.{history_coheres, perf_maps_cohere, read_coheres}
use Rattle.bz_symbolize.proofs.laws.runs_stay_coherent.Goals as goal

pub returns-clause-read : goal.returns-clause-read
returns-clause-read c settings calls state world agree reach = read_coheres settings calls state world agree reach

pub returns-clause-registered : goal.returns-clause-registered
returns-clause-registered c settings calls state world agree truly reach = history_coheres settings calls state world agree reach truly

pub returns-clause-perf_maps : goal.returns-clause-perf_maps
returns-clause-perf_maps c settings calls perf_maps world agree reach = perf_maps_cohere settings calls perf_maps world agree reach
