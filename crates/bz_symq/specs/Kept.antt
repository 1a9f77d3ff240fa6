-- How a symbolizer is set, and what it keeps, where no dispatcher is asked.
use Rattle.std.specs.Prelude.{[]}
use Rattle.bz_base.specs.declared.types.FindSymOpts.{FindSymOpts}
use Rattle.bz_process.specs.Caches.{ProcessCaches}
use Rattle.bz_process.specs.Processes.{caches_of}
use Rattle.bz_symbolize.specs.State.{Settings, WholeState, default_settings, new_whole, opts_of}
use Rattle.bz_requests.specs.declared.requests.Config.{Config}

-- the settings of the symbolizer that is asked
abbrev pub settings_of : Config → Settings
settings_of config = record default_settings { reload = config.reload; code_info = config.code_info; inlined = config.inlined }

-- and its options of a look-up
abbrev pub opts_in : Config → FindSymOpts
opts_in config = opts_of (settings_of config)

-- the state of a symbolizer without a dispatcher, so without answers of one
abbrev pub KeptState : Type 0
KeptState = WholeState (Unit {0}) (Unit {0})

-- the state of a symbolizer without its dispatcher and what that one said
abbrev pub kept_of : {D R : Type 0} → WholeState D R → KeptState
kept_of whole = record {
  files = whole.files;
  processes = record { perf_maps = whole.processes.perf_maps; ids = whole.processes.ids; mappings = whole.processes.mappings; dispatcher = tt; answers = [] };
}

-- nothing is kept
abbrev pub new_kept : Settings → KeptState
new_kept settings = new_whole settings tt

-- the files that answer for processes, and what is remembered of each process
abbrev pub caches_in : KeptState → ProcessCaches
caches_in kept = caches_of kept.files.elf kept.processes

-- the state with others in their place
abbrev pub with_caches : KeptState → ProcessCaches → KeptState
with_caches kept caches = record {
  files = record kept.files { elf = caches.elf };
  processes = record kept.processes { perf_maps = caches.perf_maps; ids = caches.ids };
}
